-- What a line of a log says, after candump's log format, or its first fault: its fields, from the first to the last.
-- Each field is a value and what stands after it; the fault's place is where the rest of the line can't stand.
use Rattle.std.specs.Prelude.{◌≡◌, ℕ, ◌+◌, ◌-◌, ◌*◌, ◌/◌, ◌%◌, ◌^◌, ◌<◌, min, Bool, true, false, ◌&&◌, ◌||◌, ◌==◌, nat_le, nat_lt, if◌then◌else◌, List, [], ◌∷◌, length, take, drop, Option, None, Some, MatchOption, ok_or, Result, Ok, Err}
use Rattle.std.specs.Char.{digit_value, is_digit}
use Rattle.std.specs.List.{list_all, prefix_len}
use Rattle.std.specs.Str.{bytes_eq}
use Rattle.std.specs.Str.Parse.{digits_value}
use Rattle.can_frame.specs.Frame.{CanFrame, IsLawful}
use Rattle.can_frame.specs.Length.{length_fits}
use Rattle.can_frame.specs.declared.id.CanId.{CanId}
use Rattle.can_frame.specs.declared.id.CanId.TheVariants.{Std, Ext}
use Rattle.candump_line.specs.Fault.{fault_at, ◌>>=◌}
use Rattle.candump_line.specs.Line.{entry_text}
use Rattle.candump_line.specs.declared.fault.LineFault.{LineFault}
use Rattle.candump_line.specs.declared.fault.LineKind.TheVariants.{TooLong, NoStamp, BadStamp, NoIface, BadId, NoHash, BadData, BadLength}
use Rattle.candump_line.specs.declared.line.Line.{Line}
use Rattle.candump_line.specs.declared.line.Line.TheVariants.{Frame as FrameLine, Passed, Empty}

-- the byte stands at the front
abbrev pub begins : ℕ → List ℕ → Bool
begins byte [] = false
begins byte (first ∷ rest) = first == byte

-- what stands after the byte, where it is the first
abbrev pub IsAfter : {A : Type 0} → (byte : ℕ) → List ℕ → Option A → (A → List ℕ) → Type 0
IsAfter byte rest found seen =
    MatchOption found (begins byte rest ≡ false) (λ later. (begins byte rest ≡ true) × (seen later ≡ drop 1 rest))

-- nothing is left
abbrev pub is_over : List ℕ → Bool
is_over rest = length rest == 0

abbrev pub is_space : ℕ → Bool
is_space byte = byte == 32

-- a visible character of ASCII
abbrev pub is_visible : ℕ → Bool
is_visible byte = nat_le 0x21 byte && nat_le byte 0x7E

-- a hex digit of either case
abbrev pub is_hex : ℕ → Bool
is_hex byte = is_digit byte 16

-- what stands after the spaces at the front
abbrev pub after_spaces : List ℕ → List ℕ
after_spaces rest = drop (prefix_len is_space rest) rest

-- how many digits of the base stand at the front, of which so many are looked at
abbrev pub digits_in : (base most : ℕ) → List ℕ → ℕ
digits_in base most rest = prefix_len (λ byte. is_digit byte base) (take most rest)

-- the number that the first so many digits write
abbrev pub number_in : (base digits : ℕ) → List ℕ → ℕ
number_in base digits rest = digits_value base (take digits rest)

-- ---- the stamp

-- the seconds, in 1 to 10 digits, and the dot
unfoldable pub seconds_at : (len : ℕ) → List ℕ → Result (ℕ × List ℕ) LineFault
seconds_at len rest =
    let digits : ℕ = digits_in 10 10 rest in
    if nat_le 1 digits && begins 46 (drop digits rest) then Ok (number_in 10 digits rest, drop 1 (drop digits rest))
    else Err (fault_at len BadStamp (drop digits rest))

-- the microseconds in 6 digits, perhaps three digits more, which are dropped, and the parenthesis
unfoldable pub micros_at : (len : ℕ) → List ℕ → Result (ℕ × List ℕ) LineFault
micros_at len rest =
    let digits : ℕ = digits_in 10 6 rest in
    let after : List ℕ = drop digits rest in
    let more : ℕ = digits_in 10 3 after in
    if digits == 6 && (more == 0 || more == 3) && begins 41 (drop more after)
    then Ok (number_in 10 digits rest, drop 1 (drop more after))
    else Err (fault_at len BadStamp (drop more after))

-- the stamp in microseconds; its seconds are below 2^32
unfoldable pub stamp_at : List ℕ → Result (ℕ × List ℕ) LineFault
stamp_at line =
    if begins 40 line then (do
      seconds ← seconds_at (length line) (drop 1 line)
      micros ← micros_at (length line) seconds.1
      if nat_le seconds.0 4_294_967_295 then Ok (seconds.0 * 1_000_000 + micros.0, micros.1)
          else Err (record { kind = BadStamp; at = 1 }))
    else Err (record { kind = NoStamp; at = 0 })

-- ---- the interface and the identifier

-- spaces, and a name of 1 to 15 visible characters
unfoldable pub interface_at : (len : ℕ) → List ℕ → Result (List ℕ × List ℕ) LineFault
interface_at len rest =
    let name : List ℕ = after_spaces rest in
    let bytes : ℕ = prefix_len is_visible name in
    if begins 32 rest then (
    if nat_le 1 bytes && nat_le bytes 15 then Ok (take bytes name, drop bytes name)
    else Err (fault_at len NoIface (drop (min bytes 15) name)))
    else Err (fault_at len NoIface rest)

-- an error frame's: 8 digits, with this bit set
abbrev pub is_error_frame : (digits number : ℕ) → Bool
is_error_frame digits number = digits == 8 && number / 0x2000_0000 % 2 == 1

-- a frame's: 3 digits in the base format, 8 digits in the extended one, in its range
abbrev pub id_of : (digits number : ℕ) → Option CanId
id_of digits number =
    if digits == 3 && nat_le number 0x7FF then Some (Std number)
    else if digits == 8 && nat_le number 0x1FFF_FFFF then Some (Ext number)
    else None

-- spaces, and an identifier; None is an error frame's
unfoldable pub id_at : (len : ℕ) → List ℕ → Result (Option CanId × List ℕ) LineFault
id_at len rest =
    let name : List ℕ = after_spaces rest in
    let digits : ℕ = digits_in 16 9 name in
    let number : ℕ = number_in 16 digits name in
    if is_error_frame digits number then Ok (None, drop digits name)
    else (do
      id ← ok_or (id_of digits number) (fault_at len BadId name)
      Ok (Some id, drop digits name))

-- ---- the data

-- the bytes that pairs of hex digits write
unfoldable pub hex_bytes : List ℕ → List ℕ
hex_bytes [] = []
hex_bytes (digit ∷ []) = []
hex_bytes (high ∷ low ∷ rest) = (digit_value high * 16 + digit_value low) ∷ hex_bytes rest

-- the bytes that the hex digits at the front write
abbrev pub front_bytes : List ℕ → List ℕ
front_bytes rest = hex_bytes (take (prefix_len is_hex rest) rest)

-- hex digits, two for each of at most 64 bytes
unfoldable pub data_at : (len : ℕ) → List ℕ → Result (List ℕ × List ℕ) LineFault
data_at len rest =
    let digits : ℕ = prefix_len is_hex rest in
    if digits % 2 == 1 then Err (fault_at len BadData (drop (digits - 1) rest))
    else if nat_lt 128 digits then Err (fault_at len BadLength rest)
    else Ok (hex_bytes (take digits rest), drop digits rest)

-- a frame of these parts, where its kind may have so many bytes; its data is what begins here
abbrev pub frame_of : (len : ℕ) → CanFrame → List ℕ → Result CanFrame LineFault
frame_of len frame rest =
    if length_fits frame.fd (length frame.bytes) then Ok frame else Err (fault_at len BadLength rest)

-- an FD frame: a hex digit of flags, of which the lowest bit is the switch to the higher bit rate, and the data
unfoldable pub fd_at : (len : ℕ) → CanId → List ℕ → Result (CanFrame × List ℕ) LineFault
fd_at len id rest =
    if digits_in 16 1 rest == 1 then (do
      read ← data_at len (drop 1 rest)
      let switches : Bool = number_in 16 1 rest % 2 == 1
      frame ← frame_of len (record { id = id; fd = true; brs = switches; bytes = read.0 }) (drop 1 rest)
      Ok (frame, read.1))
    else Err (fault_at len BadData rest)

-- after eight bytes perhaps `_` and a data length code from 9 to F, which is dropped
unfoldable pub length_code_at : (len bytes : ℕ) → List ℕ → Result (List ℕ) LineFault
length_code_at len bytes rest =
    if bytes == 8 && begins 95 rest then (
    if digits_in 16 1 (drop 1 rest) == 1 && nat_le 9 (number_in 16 1 (drop 1 rest)) then Ok (drop 2 rest)
    else Err (fault_at len BadData (drop 1 rest)))
    else Ok rest

-- a classic frame: the data
unfoldable pub classic_at : (len : ℕ) → CanId → List ℕ → Result (CanFrame × List ℕ) LineFault
classic_at len id rest = do
  read ← data_at len rest
  frame ← frame_of len (record { id = id; fd = false; brs = false; bytes = read.0 }) rest
  after ← length_code_at len (length frame.bytes) read.1
  Ok (frame, after)

-- ---- the whole line

-- what stands after spaces, and after a letter for the direction that follows one space or more
abbrev pub after_direction : List ℕ → List ℕ
after_direction rest =
    if begins 32 rest && (begins 82 (after_spaces rest) || begins 84 (after_spaces rest))
    then after_spaces (drop 1 (after_spaces rest))
    else after_spaces rest

-- the end, perhaps after spaces, and before it perhaps a direction
unfoldable pub end_at : (len : ℕ) → List ℕ → Result (Unit {0}) LineFault
end_at len rest = if is_over (after_direction rest) then Ok tt else Err (fault_at len BadData (after_direction rest))

-- a remote frame
abbrev pub is_remote : List ℕ → Bool
is_remote rest = begins 82 rest || begins 114 rest

-- an FD frame after a second `#`, else a classic one
abbrev pub frame_at : (len : ℕ) → CanId → List ℕ → Result (CanFrame × List ℕ) LineFault
frame_at len id rest = if begins 35 rest then fd_at len id (drop 1 rest) else classic_at len id rest

-- the line of a frame that is read, where the end stands after it
abbrev pub ended_at : (len at : ℕ) → Result (CanFrame × List ℕ) LineFault → Result Line LineFault
ended_at len at read = do
  frame ← read
  end ← end_at len frame.1
  Ok (FrameLine (record { 0 = at }) frame.0)

-- what stands after the identifier
unfoldable pub content_at : (len at : ℕ) → Option CanId → List ℕ → Result Line LineFault
content_at len at None rest = Ok Passed
content_at len at (Some id) rest =
    if begins 35 rest then (
    if is_remote (drop 1 rest) then Ok Passed else ended_at len at (frame_at len id (drop 1 rest)))
    else Err (fault_at len NoHash rest)

-- a frame of the bus: its identifier and what stands after it
unfoldable pub named_at : (len at : ℕ) → List ℕ → Result Line LineFault
named_at len at rest = do
  id ← id_at len rest
  content_at len at id.0 id.1

-- a line, without its line end, in the log of this interface. Of a line of another interface, of an error frame and
-- of a remote frame nothing more is read
unfoldable pub line_of : (iface line : List ℕ) → Result Line LineFault
line_of iface line =
    if nat_lt 512 (length line) then Err (record { kind = TooLong; at = 512 })
    else if list_all is_space line then Ok Empty
    else (do
      stamp ← stamp_at line
      name ← interface_at (length line) stamp.1
      if bytes_eq name.0 iface then named_at (length line) stamp.0 name.1 else Ok Passed)

-- a frame that is read is lawful, and its stamp is below 2^32 seconds
abbrev pub IsLawfulLine : Line → Type 0
IsLawfulLine (FrameLine at frame) = (at.0 < 2 ^ 32 * 10 ^ 6) × IsLawful frame
IsLawfulLine Passed = Unit {0}
IsLawfulLine Empty = Unit {0}

-- the line is read as that stamp and that frame
abbrev pub IsReadAs : (iface line : List ℕ) (at : ℕ) (frame : CanFrame) → Type 0
IsReadAs iface line at frame = line_of iface line ≡ Ok (FrameLine (record { 0 = at }) frame)

-- a line that is written for a frame is read as its stamp and the frame
abbrev pub ReadsBack : (at : ℕ) (iface : List ℕ) (frame : CanFrame) → Type 0
ReadsBack at iface frame = IsReadAs iface (entry_text at iface frame) at frame
