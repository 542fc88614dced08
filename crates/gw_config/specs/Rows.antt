-- What a row of the key table reads in an entry: its value, its default, or its fault.
use Rattle.std.specs.Prelude.{ℕ, zero, suc, ◌+◌, ◌==◌, ◌||◌, List, [], ◌∷◌, Bool, true, false, ◌&&◌, Option, Some, None, Result, Ok, Err, nat_le, if◌then◌else◌, unwrap_or, option_map, ok_or, pos, nat_abs}
use Rattle.std.specs.Option.{option_and_then, option_map_or, option_or}
use Rattle.toml.specs.Data.{Data}
use Rattle.gw_settings.specs.declared.key.Key.{Key}
use Rattle.gw_settings.specs.declared.key.Key.TheVariants.{Other}
use Rattle.gw_settings.specs.declared.table_kind.TableKind.{TableKind}
use Rattle.gw_settings.specs.declared.table_kind.TableKind.TheVariants.{Top}
use Rattle.gw_settings.specs.declared.fault.FaultKind.TheVariants.{Missing, OutOfRange}
use Rattle.gw_settings.specs.declared.fault.ConfigFault.{ConfigFault}
use Rattle.gw_settings.specs.Faults.{fault_at, placed}
use Rattle.gw_settings.specs.Names.{array_key}
use Rattle.gw_settings.specs.Tree.{element_at, entry_of, value_at, value_in}
use Rattle.gw_settings.specs.Readings.{integer_in, flag_in, text_in, integers_in, texts_in, tables_in, known_in, optional, required}
use Rattle.gw_config.specs.declared.rows.NumberRow.{NumberRow}
use Rattle.gw_config.specs.declared.rows.FlagRow.{FlagRow}
use Rattle.gw_config.specs.declared.rows.TextRow.{TextRow}
use Rattle.gw_config.specs.declared.rows.WordRow.{WordRow}
use Rattle.gw_config.specs.declared.rows.CountRow.{CountRow}
use Rattle.gw_config.specs.declared.rows.ListRow.{ListRow}
use Rattle.gw_config.specs.declared.words.Addressing.{Addressing}
use Rattle.gw_config.specs.declared.words.Addressing.TheVariants.{Normal, Extended, Mixed}
use Rattle.gw_config.specs.Outcome.{◌>>=◌}
use Rattle.gw_config.specs.Texts.{name_fits}

-- the value of a key in an entry that may be absent
abbrev pub key_in : Option Data → Key → Option Data
key_in entry key = option_and_then (λ found. value_in found key) entry

-- the value, where it fits
abbrev pub fitting : {A : Type 0} → Bool → A → ConfigFault → Result A ConfigFault
fitting fits value fault = if fits then Ok value else Err fault

-- the number is in the row's range
abbrev pub number_fits : NumberRow → ℕ → Bool
number_fits row number = nat_le row.low number && nat_le number row.high

-- the default, where there is one, is in the row's range
abbrev pub default_fits : NumberRow → Bool
default_fits row = option_map_or (number_fits row) row.default true

-- an integer's value, or its default
abbrev pub number_row : NumberRow → ℕ → Option Data → Result ℕ ConfigFault
number_row row index entry =
    placed row.table index row.key (optional (integer_in (pos row.low) (pos row.high)) (key_in entry row.key)) >>=
    (λ found. ok_or (option_or (option_map nat_abs found) row.default) (fault_at row.table index row.key Missing))

-- a flag's value, or its default
abbrev pub flag_row : FlagRow → ℕ → Option Data → Result Bool ConfigFault
flag_row row index entry =
    placed row.table index row.key (optional flag_in (key_in entry row.key)) >>= (λ found. Ok (unwrap_or found row.default))

-- a text is a name that the row takes
abbrev pub text_fits : TextRow → List ℕ → Bool
text_fits row text = name_fits row.most row.is_file text

-- a text that is there
abbrev pub text_found : TextRow → ℕ → List ℕ → Result (List ℕ) ConfigFault
text_found row index text = fitting (text_fits row text) text (fault_at row.table index row.key OutOfRange)

-- a text that is required
abbrev pub text_row : TextRow → ℕ → Option Data → Result (List ℕ) ConfigFault
text_row row index entry =
    placed row.table index row.key (optional text_in (key_in entry row.key)) >>=
    (λ found. ok_or found (fault_at row.table index row.key Missing)) >>= text_found row index

-- a text that may be absent, in its range
abbrev pub optional_text_found : TextRow → ℕ → Option (List ℕ) → Result (Option (List ℕ)) ConfigFault
optional_text_found row index None = Ok None
optional_text_found row index (Some text) = text_found row index text >>= (λ fits. Ok (Some fits))

-- a text that may be absent
abbrev pub optional_text_row : TextRow → ℕ → Option Data → Result (Option (List ℕ)) ConfigFault
optional_text_row row index entry =
    placed row.table index row.key (optional text_in (key_in entry row.key)) >>= optional_text_found row index

-- what a word stands for, or the row's default
abbrev pub word_found : {W : Type 0} → (List ℕ → Option W) → WordRow W → ℕ → Option (List ℕ) → Result W ConfigFault
word_found of_word row index None = ok_or row.default (fault_at row.table index row.key Missing)
word_found of_word row index (Some word) = ok_or (of_word word) (fault_at row.table index row.key OutOfRange)

-- a word's choice, or its default
abbrev pub word_row : {W : Type 0} → (List ℕ → Option W) → WordRow W → ℕ → Option Data → Result W ConfigFault
word_row of_word row index entry =
    placed row.table index row.key (optional text_in (key_in entry row.key)) >>= word_found of_word row index

-- the number of tables is in the row's range
abbrev pub count_fits : CountRow → ℕ → Bool
count_fits row count = nat_le row.low count && nat_le count row.high

-- how many tables there are: none where their array is absent and may be
abbrev pub count_found : CountRow → Option ℕ → Result ℕ ConfigFault
count_found row None = fitting (nat_le row.low 0) 0 (fault_at Top 0 (array_key row.table) Missing)
count_found row (Some count) = fitting (count_fits row count) count (fault_at Top 0 (array_key row.table) OutOfRange)

-- the number of tables of an array
abbrev pub count_row : CountRow → Data → Result ℕ ConfigFault
count_row row root = placed Top 0 (array_key row.table) (optional tables_in (value_in root (array_key row.table))) >>= count_found row

-- the number of elements is in the row's range
abbrev pub list_fits : ListRow → ℕ → Bool
list_fits row count = nat_le row.least count && nat_le count row.most

-- the number of a required array's elements
abbrev pub list_found : ListRow → ℕ → Option ℕ → Result ℕ ConfigFault
list_found row index None = Err (fault_at row.table index row.key Missing)
list_found row index (Some count) = fitting (list_fits row count) count (fault_at row.table index row.key OutOfRange)

-- a reading for each index from `first` on, so many, up to the first fault
abbrev pub each_from : {A : Type 0} → (ℕ → Result A ConfigFault) → ℕ → ℕ → Result (List A) ConfigFault
each_from read first zero = Ok []
each_from read first (suc count) = read first >>= (λ value. each_from read (first + 1) count >>= (λ rest. Ok (value ∷ rest)))

-- the integer of this number in an array; the row is that of one element
abbrev pub number_at : NumberRow → ℕ → Data → ℕ → Result ℕ ConfigFault
number_at row index root at =
    placed row.table index row.key (required (integer_in (pos row.low) (pos row.high)) (element_at root row.table index row.key at)) >>= (λ number. Ok (nat_abs number))

-- the integers of a required array, which holds integers alone
abbrev pub numbers_row : ListRow → NumberRow → ℕ → Data → Result (List ℕ) ConfigFault
numbers_row row each index root =
    placed row.table index row.key (optional integers_in (value_at root row.table index row.key)) >>= list_found row index >>= each_from (number_at each index root) 0

-- the text of this number in an array; the row is that of one element
abbrev pub text_at : TextRow → ℕ → Data → ℕ → Result (List ℕ) ConfigFault
text_at row index root at = placed row.table index row.key (required text_in (element_at root row.table index row.key at)) >>= text_found row index

-- the texts of a required array, which holds texts alone
abbrev pub texts_row : ListRow → TextRow → ℕ → Data → Result (List (List ℕ)) ConfigFault
texts_row row each index root =
    placed row.table index row.key (optional texts_in (value_at root row.table index row.key)) >>= list_found row index >>= each_from (text_at each index root) 0

-- the table has listed keys alone
abbrev pub known_row : TableKind → ℕ → List Key → Data → Result (Unit {0}) ConfigFault
known_row table index keys root = placed table index Other (known_in keys (entry_of root table index))

-- a channel of this addressing has address bytes
abbrev pub has_address : Addressing → Bool
has_address Normal = false
has_address Extended = true
has_address Mixed = true

-- the address byte, where there is one, is in the row's range
abbrev pub address_fits : NumberRow → Option ℕ → Bool
address_fits row address = option_map_or (number_fits row) address true

-- an address byte, where the addressing has one
abbrev pub address_row : NumberRow → Addressing → ℕ → Option Data → Result (Option ℕ) ConfigFault
address_row row addressing index entry = if has_address addressing then (number_row row index entry >>= (λ address. Ok (Some address))) else Ok None

-- a length of 8 bytes or more that a CAN FD frame can have (ISO 11898-1, data length code)
abbrev pub is_frame_length : ℕ → Bool
is_frame_length length = length == 8 || length == 12 || length == 16 || length == 20 || length == 24 || length == 32 || length == 48 || length == 64

-- the length of frames
abbrev pub length_row : NumberRow → ℕ → Option Data → Result ℕ ConfigFault
length_row row index entry = number_row row index entry >>= (λ length. fitting (is_frame_length length) length (fault_at row.table index row.key OutOfRange))
