-- How a line that lists a frame is spelled in candump's log format: the pieces that it is made of, and what each says.
use Rattle.std.specs.Prelude.{◌≡◌, ◌⊎◌, ℕ, ◌+◌, ◌*◌, ◌%◌, ◌^◌, ◌<◌, ◌≤◌, Bool, true, false, ◌==◌, List, [], ◌∷◌, ◌++◌, length, codes, All}
use Rattle.std.specs.Char.{digit_value}
use Rattle.std.specs.Str.Parse.{AllDigits, digits_value}
use Rattle.can_frame.specs.Frame.{CanFrame, IsLawful}
use Rattle.can_frame.specs.declared.id.CanId.{CanId}
use Rattle.can_frame.specs.declared.id.CanId.TheVariants.{Std, Ext}

-- digits of a base, and the number that they write
pub record Writes (base number : ℕ) (digits : List ℕ) : Type 0 where
  pub all : AllDigits base digits
  pub value : digits_value base digits ≡ number

-- spaces alone, perhaps none
abbrev pub AreSpaces : List ℕ → Type 0
AreSpaces text = All (λ b. b ≡ 32) text

-- one space or more
abbrev pub AreSomeSpaces : List ℕ → Type 0
AreSomeSpaces text = (0 < length text) × AreSpaces text

-- the stamp: 1 to 10 digits of seconds below 2^32, a dot, six digits of microseconds, perhaps three digits more that
-- say nothing
pub record IsStamp (text : List ℕ) (at : ℕ) : Type 0 where
  pub seconds : ℕ
  pub micros : ℕ
  pub second_digits : List ℕ
  pub micro_digits : List ℕ
  pub more_digits : List ℕ
  pub text_is : text ≡ codes "(" ++ second_digits ++ codes "." ++ micro_digits ++ more_digits ++ codes ")"
  pub at_is : at ≡ seconds * 1_000_000 + micros
  pub seconds_are : Writes 10 seconds second_digits
  pub some : 1 ≤ length second_digits
  pub few : length second_digits ≤ 10
  pub below : seconds < 2 ^ 32
  pub micros_are : Writes 10 micros micro_digits
  pub six : length micro_digits ≡ 6
  pub more_are : AllDigits 10 more_digits
  pub three : (length more_digits ≡ 0) ⊎ (length more_digits ≡ 3)

-- the identifier: three hex digits in the base format, eight in the extended one, of a number in its range
abbrev pub IsIdText : List ℕ → CanId → Type 0
IsIdText digits (Std number) = (length digits ≡ 3) × (number ≤ 0x7FF) × Writes 16 number digits
IsIdText digits (Ext number) = (length digits ≡ 8) × (number ≤ 0x1FFF_FFFF) × Writes 16 number digits

-- what parts the identifier from the data: `#`, and for FD `##` and a hex digit of flags, whose lowest bit is the
-- higher bit rate
abbrev pub IsKindText : List ℕ → (fd brs : Bool) → Type 0
IsKindText text false brs = text ≡ codes "#"
IsKindText text true brs = (flags : ℕ) × (text ≡ 35 ∷ 35 ∷ flags ∷ []) × (digit_value flags < 16)
    × ((digit_value flags % 2 == 1) ≡ brs)

-- two hex digits, of either case, for each of the bytes
unfoldable pub AreDataDigits : (digits bytes : List ℕ) → Type 0
AreDataDigits [] [] = Unit {0}
AreDataDigits [] (byte ∷ bytes) = ⊥
AreDataDigits (high ∷ []) bytes = ⊥
AreDataDigits (high ∷ low ∷ digits) [] = ⊥
AreDataDigits (high ∷ low ∷ digits) (byte ∷ bytes) =
    (digit_value high < 16) × (digit_value low < 16) × (byte ≡ digit_value high * 16 + digit_value low)
    × AreDataDigits digits bytes

-- after eight bytes of a classic frame perhaps `_` and a hex digit from 9 on, which says nothing
abbrev pub IsLengthCode : List ℕ → (fd : Bool) → (bytes : ℕ) → Type 0
IsLengthCode text fd bytes = (text ≡ []) ⊎ ((digit : ℕ) × (text ≡ 95 ∷ digit ∷ []) × (fd ≡ false) × (bytes ≡ 8)
    × (9 ≤ digit_value digit) × (digit_value digit < 16))

-- a direction, `R` or `T`, after spaces, and spaces after it
pub record HasDirection (text : List ℕ) : Type 0 where
  pub before : List ℕ
  pub mark : ℕ
  pub after : List ℕ
  pub text_is : text ≡ before ++ mark ∷ after
  pub mark_is : (mark ≡ 82) ⊎ (mark ≡ 84)
  pub some : AreSomeSpaces before
  pub spaces : AreSpaces after

-- the line's end: spaces, perhaps with a direction among them
abbrev pub IsEndText : List ℕ → Type 0
IsEndText text = AreSpaces text ⊎ HasDirection text

-- the pieces of a line of at most 512 bytes, which spell the stamp, the interface and the lawful frame
pub record Spells (iface line : List ℕ) (at : ℕ) (frame : CanFrame) : Type 0 where
  pub stamp : List ℕ
  pub gap : List ℕ
  pub space : List ℕ
  pub id : List ℕ
  pub kind : List ℕ
  pub digits : List ℕ
  pub code : List ℕ
  pub end : List ℕ
  pub line_is : line ≡ stamp ++ gap ++ iface ++ space ++ id ++ kind ++ digits ++ code ++ end
  pub short : length line ≤ 512
  pub stamp_is : IsStamp stamp at
  pub gap_is : AreSomeSpaces gap
  pub space_is : AreSomeSpaces space
  pub id_is : IsIdText id frame.id
  pub kind_is : IsKindText kind frame.fd frame.brs
  pub digits_are : AreDataDigits digits frame.bytes
  pub code_is : IsLengthCode code frame.fd (length frame.bytes)
  pub end_is : IsEndText end
  pub lawful : IsLawful frame
