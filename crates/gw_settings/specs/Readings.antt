-- What a value is read as, or why it can't be.
use Rattle.std.specs.Prelude.{ℕ, ℤ, ◌-◌, ◌^◌, min, ◌&&◌, Bool, false, List, length, Option, Some, None, Result, Ok, Err, is_some, if◌then◌else◌, int_le, ◌≤ℤ◌, IfSome}
use Rattle.std.specs.List.{list_all, list_any}
use Rattle.std.specs.Result.{result_ok}
use Rattle.std.specs.Str.{bytes_eq}
use Rattle.toml.specs.Data.{Data, string, integer, boolean, array, table, Items, as_array, as_integer, as_str, as_table}
use Rattle.gw_settings.specs.declared.key.Key.{Key}
use Rattle.gw_settings.specs.declared.key.Key.TheVariants.{Groups}
use Rattle.gw_settings.specs.declared.fault.FaultKind.{FaultKind}
use Rattle.gw_settings.specs.declared.fault.FaultKind.TheVariants.{Missing, WrongKind, OutOfRange, UnknownKey}
use Rattle.gw_settings.specs.declared.fault.ConfigFault.{ConfigFault}
use Rattle.gw_settings.specs.declared.table_kind.TableKind.{TableKind}
use Rattle.gw_settings.specs.declared.table_kind.TableKind.TheVariants.{Top}
use Rattle.gw_settings.specs.Faults.{placed}
use Rattle.gw_settings.specs.Names.{key_name, array_key}
use Rattle.gw_settings.specs.Tree.{elements, names, value_in, value_at, element_at, group_element}

-- an integer from `low` to `high`
abbrev pub integer_in : ℤ → ℤ → Data → Result ℤ FaultKind
integer_in low high (integer number) = if int_le low number && int_le number high then Ok number else Err OutOfRange
integer_in low high _ = Err WrongKind

-- a flag
abbrev pub flag_in : Data → Result Bool FaultKind
flag_in (boolean flag) = Ok flag
flag_in _ = Err WrongKind

-- a text
abbrev pub text_in : Data → Result (List ℕ) FaultKind
text_in (string text) = Ok text
text_in _ = Err WrongKind

-- how many elements, at most what a u32 holds
abbrev pub count_of : Items → ℕ
count_of items = min (length (elements items)) (2 ^ 32 - 1)

-- an array: the number of its elements
abbrev pub items_in : Data → Result ℕ FaultKind
items_in (array items) = Ok (count_of items)
items_in _ = Err WrongKind

-- elements of one kind alone: their number
abbrev pub all_of : (Data → Bool) → Option Items → Result ℕ FaultKind
all_of is_kind None = Err WrongKind
all_of is_kind (Some items) = if list_all is_kind (elements items) then Ok (count_of items) else Err WrongKind

-- an array of tables, of integers or of texts alone: the number of its elements
abbrev pub tables_in : Data → Result ℕ FaultKind
tables_in value = all_of (λ element. is_some (as_table element)) (as_array value)

abbrev pub integers_in : Data → Result ℕ FaultKind
integers_in value = all_of (λ element. is_some (as_integer element)) (as_array value)

abbrev pub texts_in : Data → Result ℕ FaultKind
texts_in value = all_of (λ element. is_some (as_str element)) (as_array value)

-- an array of integers alone
abbrev pub is_group : Data → Bool
is_group value = is_some (result_ok (integers_in value))

-- an array of such arrays alone: the number of its elements
abbrev pub groups_in : Data → Result ℕ FaultKind
groups_in value = all_of is_group (as_array value)

-- the number, if there is one, is from `low` to `high`
abbrev pub IsWithin : ℤ → ℤ → Option ℤ → Type 0
IsWithin low high found = IfSome found (λ number. (low ≤ℤ number) × (number ≤ℤ high))

-- what was read, as a value that is there
abbrev pub some_of : {A : Type 0} → Result A FaultKind → Result (Option A) FaultKind
some_of (Ok value) = Ok (Some value)
some_of (Err kind) = Err kind

-- a key that may be absent
abbrev pub optional : {A : Type 0} → (Data → Result A FaultKind) → Option Data → Result (Option A) FaultKind
optional read None = Ok None
optional read (Some value) = some_of (read value)

-- an element that must be there
abbrev pub required : {A : Type 0} → (Data → Result A FaultKind) → Option Data → Result A FaultKind
required read None = Err Missing
required read (Some value) = read value

-- a key of a table of this kind and number, read so: None where it is absent, or its fault at that place
abbrev pub setting : {A : Type 0} → (Data → Result A FaultKind) → Data → TableKind → ℕ → Key →
    Result (Option A) ConfigFault
setting read root kind index key = placed kind index key (optional read (value_at root kind index key))

-- the element of this number of an array key, read so, or its fault at the key's place
abbrev pub setting_item : {A : Type 0} → (Data → Result A FaultKind) → Data → TableKind → ℕ → Key → ℕ →
    Result A ConfigFault
setting_item read root kind index key at = placed kind index key (required read (element_at root kind index key at))

-- the number of groups, None where the key is absent, or its fault in the top table
abbrev pub group_count : Data → Result (Option ℕ) ConfigFault
group_count root = setting groups_in root Top 0 Groups

-- the number of elements of the group of this number, or its fault in the top table
abbrev pub group_size : Data → ℕ → Result ℕ ConfigFault
group_size root group = setting_item items_in root Top 0 Groups group

-- the integer of this number in a group, from `low` to `high`, or its fault in the top table
abbrev pub group_integer : ℤ → ℤ → Data → ℕ → ℕ → Result ℤ ConfigFault
group_integer low high root group n = placed Top 0 Groups (required (integer_in low high) (group_element root group n))

-- the number of tables of this kind, None where their array is absent, or its fault in the top table
abbrev pub table_count : Data → TableKind → Result (Option ℕ) ConfigFault
table_count root kind = placed Top 0 (array_key kind) (optional tables_in (value_in root (array_key kind)))

-- the key's name is this one
abbrev pub is_named : Option (List ℕ) → List ℕ → Bool
is_named None name = false
is_named (Some own) name = bytes_eq own name

-- the name is that of a listed key
abbrev pub is_listed : List Key → List ℕ → Bool
is_listed keys name = list_any (λ key. is_named (key_name key) name) keys

-- a table of listed keys alone
abbrev pub known_in : List Key → Option Data → Result (Unit {0}) FaultKind
known_in keys (Some (table members)) = if list_all (is_listed keys) (names members) then Ok tt else Err UnknownKey
known_in keys _ = Ok tt
