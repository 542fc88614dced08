-- The line that stands in a log for a frame, after candump's log format.
use Rattle.std.specs.Prelude.{ℕ, zero, suc, ◌/◌, ◌%◌, ◌<◌, ◌≤◌, Bool, true, false, List, [], ◌∷◌, ◌++◌, length, slice_index, codes, All}
use Rattle.gw_base.specs.Decimal.{padded_decimal}
use Rattle.hex.specs.Hex.{upper_digits, encode_upper}
use Rattle.can_frame.specs.declared.id.CanId.{CanId}
use Rattle.can_frame.specs.declared.id.CanId.TheVariants.{Std, Ext}
use Rattle.can_frame.specs.Frame.{CanFrame}

-- the name of an interface: 1 to 15 visible characters of ASCII
pub record IsInterface (iface : List ℕ) : Type 0 where
  pub some : 0 < length iface
  pub short : length iface ≤ 15
  pub visible : All (λ b. (0x21 ≤ b) × (b ≤ 0x7E)) iface

-- a stamp in microseconds: ten digits of seconds, a dot and six digits of microseconds, in parentheses
abbrev pub stamp_text : ℕ → List ℕ
stamp_text at =
    codes "(" ++ padded_decimal 10 (at / 1_000_000) ++ codes "." ++ padded_decimal 6 (at % 1_000_000) ++ codes ")"

-- a number's last digits in upper-case hex, so many as the width
unfoldable pub hex_number : ℕ → ℕ → List ℕ
hex_number zero number = []
hex_number (suc width) number = hex_number width (number / 16) ++ slice_index upper_digits (number % 16) ∷ []

-- an identifier: three digits in the base format, eight in the extended one
abbrev pub id_text : CanId → List ℕ
id_text (Std number) = hex_number 3 number
id_text (Ext number) = hex_number 8 number

-- what parts the identifier from the data: FD or not, and whether an FD frame's data is sent at the higher bit rate
abbrev pub kind_text : Bool → Bool → List ℕ
kind_text false brs = codes "#"
kind_text true false = codes "##0"
kind_text true true = codes "##1"

-- a frame: its identifier, its kind, and its data in upper-case hex
abbrev pub frame_text : CanFrame → List ℕ
frame_text frame = id_text frame.id ++ kind_text frame.fd frame.brs ++ encode_upper frame.bytes

-- a line without its line feed: the stamp, the interface and the frame, with one space between them
abbrev pub entry_text : ℕ → List ℕ → CanFrame → List ℕ
entry_text at iface frame = stamp_text at ++ codes " " ++ iface ++ codes " " ++ frame_text frame

-- a written line, with its line feed
abbrev pub line_text : (at : ℕ) (iface : List ℕ) (frame : CanFrame) → List ℕ
line_text at iface frame = entry_text at iface frame ++ 10 ∷ []
