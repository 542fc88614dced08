-- What is said of a fault: its path and its cause (this project's own).
use Rattle.std.specs.Prelude.{ℕ, List, ◌++◌, codes, decimal, unwrap_or}
use Rattle.gw_settings.specs.declared.key.Key.{Key}
use Rattle.gw_settings.specs.declared.table_kind.TableKind.{TableKind}
use Rattle.gw_settings.specs.declared.table_kind.TableKind.TheVariants.{Top}
use Rattle.gw_settings.specs.declared.fault.FaultKind.{FaultKind}
use Rattle.gw_settings.specs.declared.fault.FaultKind.TheVariants.{NotToml, Missing, WrongKind, OutOfRange, UnknownKey, Repeated}
use Rattle.gw_settings.specs.declared.fault.ConfigFault.{ConfigFault}
use Rattle.gw_settings.specs.Names.{key_name, array_key}

-- a key's name, or a question mark for a key that isn't known
abbrev pub key_text : Key → List ℕ
key_text key = unwrap_or (key_name key) (codes "?")

-- a key of the top table by its name, one of an entry after its array's name and its number in brackets
abbrev pub place_text : TableKind → ℕ → Key → List ℕ
place_text Top index key = key_text key
place_text table index key = key_text (array_key table) ++ codes "[" ++ decimal index ++ codes "]." ++ key_text key

-- where the fault is: the whole text, or a place in it
abbrev pub path_text : FaultKind → List ℕ → List ℕ
path_text NotToml place = codes "text"
path_text kind place = place

-- the cause in words
abbrev pub cause_text : FaultKind → List ℕ
cause_text NotToml = codes "not toml"
cause_text Missing = codes "missing"
cause_text WrongKind = codes "wrong kind"
cause_text OutOfRange = codes "out of range"
cause_text UnknownKey = codes "unknown key"
cause_text Repeated = codes "repeated"

-- the path and the cause
abbrev pub fault_text : ConfigFault → List ℕ
fault_text fault =
    path_text fault.kind (place_text fault.table fault.index fault.key) ++ codes ": " ++ cause_text fault.kind
