-- How many data bytes a frame may have.
use Rattle.std.specs.Prelude.{ℕ, Bool, true, false, nat_le, ◌==◌, ◌||◌, if◌then◌else◌}

-- a frame of this kind, FD or classic, may have so many data bytes (ISO 11898-1, data length code)
abbrev pub length_fits : Bool → ℕ → Bool
length_fits false len = nat_le len 8
length_fits true len = nat_le len 8 || len == 12 || len == 16 || len == 20 || len == 24 || len == 32 || len == 48 || len == 64

-- the least length of an FD frame that isn't below so many bytes, for at most 64
abbrev pub least_fd_length : ℕ → ℕ
least_fd_length len =
    if nat_le len 8 then len
    else if nat_le len 12 then 12
    else if nat_le len 16 then 16
    else if nat_le len 20 then 20
    else if nat_le len 24 then 24
    else if nat_le len 32 then 32
    else if nat_le len 48 then 48
    else 64
