-- Where a value stands in the tree that a TOML text is.
use Rattle.std.specs.Prelude.{◌≡◌, ◌≢◌, ℕ, List, [], ◌∷◌, Option, Some, None, option_map, IsUtf8}
use Rattle.std.specs.Option.{option_and_then}
use Rattle.toml.specs.Data.{Data, table, Items, no_items, item, Members, no_members, member, get, at}
use Rattle.toml.specs.Parse.{parse_document}
use Rattle.gw_settings.specs.declared.key.Key.{Key}
use Rattle.gw_settings.specs.declared.key.Key.TheVariants.{Groups}
use Rattle.gw_settings.specs.declared.table_kind.TableKind.{TableKind}
use Rattle.gw_settings.specs.declared.table_kind.TableKind.TheVariants.{Top}
use Rattle.gw_settings.specs.declared.fault.ConfigError.{ConfigError}
use Rattle.gw_settings.specs.declared.fault.ConfigError.TheVariants.{Memory, Fault}
use Rattle.gw_settings.specs.Faults.{not_toml}
use Rattle.gw_settings.specs.Names.{key_name, array_key}

-- the text is UTF-8, and as TOML it is this tree
pub record IsText (text : List ℕ) (root : Data) : Type 0 where
  pub utf8 : IsUtf8 text
  pub tree : option_map table (parse_document text) ≡ Some root

-- the text is no UTF-8, or no TOML
abbrev pub IsNotToml : List ℕ → Type 0
IsNotToml text = IsUtf8 text → parse_document text ≡ None

-- a text is refused as no TOML, unless memory was wanting
abbrev pub IsRefused : List ℕ → ConfigError → Type 0
IsRefused text error = error ≢ Memory → (error ≡ Fault not_toml) × IsNotToml text

-- the value of a key in a table
abbrev pub value_in : Data → Key → Option Data
value_in entry key = option_and_then (λ name. get name entry) (key_name key)

-- the table of this kind and number: the whole, or an element of its kind's array
abbrev pub entry_of : Data → TableKind → ℕ → Option Data
entry_of root Top index = Some root
entry_of root kind index = option_and_then (at index) (value_in root (array_key kind))

-- the value of a key in the table of this kind and number
abbrev pub value_at : Data → TableKind → ℕ → Key → Option Data
value_at root kind index key = option_and_then (λ entry. value_in entry key) (entry_of root kind index)

-- the element of this number of an array key
abbrev pub element_at : Data → TableKind → ℕ → Key → ℕ → Option Data
element_at root kind index key n = option_and_then (at n) (value_at root kind index key)

-- the element of this number of the group of that number
abbrev pub group_element : Data → ℕ → ℕ → Option Data
group_element root group n = option_and_then (at n) (element_at root Top 0 Groups group)

-- the elements of an array, in order
abbrev pub elements : Items → List Data
elements no_items = []
elements (item first rest) = first ∷ elements rest

-- the names of a table's keys
abbrev pub names : Members → List (List ℕ)
names no_members = []
names (member name value rest) = name ∷ names rest
