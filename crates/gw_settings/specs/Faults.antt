-- A fault at its place.
use Rattle.std.specs.Prelude.{ℕ, Result, Ok, Err}
use Rattle.gw_settings.specs.declared.key.Key.{Key}
use Rattle.gw_settings.specs.declared.key.Key.TheVariants.{Other}
use Rattle.gw_settings.specs.declared.table_kind.TableKind.{TableKind}
use Rattle.gw_settings.specs.declared.table_kind.TableKind.TheVariants.{Top}
use Rattle.gw_settings.specs.declared.fault.FaultKind.{FaultKind}
use Rattle.gw_settings.specs.declared.fault.FaultKind.TheVariants.{NotToml}
use Rattle.gw_settings.specs.declared.fault.ConfigFault.{ConfigFault}

-- a fault of this kind at a key of a table
abbrev pub fault_at : TableKind → ℕ → Key → FaultKind → ConfigFault
fault_at table index key kind = record { kind = kind; table = table; index = index; key = key }

-- the fault of a text that is no TOML
abbrev pub not_toml : ConfigFault
not_toml = fault_at Top 0 Other NotToml

-- what a key of a table gives: the value, or its fault at that place
abbrev pub placed : {A : Type 0} → TableKind → ℕ → Key → Result A FaultKind → Result A ConfigFault
placed table index key (Ok value) = Ok value
placed table index key (Err kind) = Err (fault_at table index key kind)
