-- Which texts may stand for names and files.
use Rattle.std.specs.Prelude.{ℕ, List, ◌==◌, ◌&&◌, ◌||◌, Bool, not, nat_le, length, codes}
use Rattle.std.specs.List.{list_all}
use Rattle.std.specs.Char.{is_ascii_alphanumeric}
use Rattle.std.specs.Str.{bytes_eq}

-- a letter, a digit, `_`, `-` or `.`
abbrev pub is_name_byte : ℕ → Bool
is_name_byte byte = is_ascii_alphanumeric byte || byte == 95 || byte == 45 || byte == 46

-- `.` and `..` name folders
abbrev pub is_folder : List ℕ → Bool
is_folder text = bytes_eq text (codes ".") || bytes_eq text (codes "..")

-- a text of 1 to `most` such bytes, which as a file's name is no folder's
abbrev pub name_fits : ℕ → Bool → List ℕ → Bool
name_fits most is_file text = (nat_le 1 (length text) && nat_le (length text) most) && (list_all is_name_byte text && not (is_file && is_folder text))
