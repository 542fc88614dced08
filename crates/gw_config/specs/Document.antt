-- What a text is as a configuration.
use Rattle.std.specs.Prelude.{◌≡◌, ℕ, List, ◌⊎◌, Ok, Err, ⊤}
use Rattle.toml.specs.Data.{Data}
use Rattle.gw_settings.specs.declared.fault.ConfigFault.{ConfigFault}
use Rattle.gw_settings.specs.declared.fault.ConfigError.{ConfigError}
use Rattle.gw_settings.specs.declared.fault.ConfigError.TheVariants.{Fault, Memory}
use Rattle.gw_settings.specs.Faults.{not_toml}
use Rattle.gw_settings.specs.Tree.{IsText, IsNotToml}
use Rattle.gw_config.specs.Config.{Configuration}
use Rattle.gw_config.specs.Entries.{config_in}

-- the text spells this configuration
abbrev pub Spells : List ℕ → Configuration → Type 0
Spells text config = (root : Data) × IsText text root × (config_in root ≡ Ok config)

-- the text's first fault is this one
abbrev pub HasFault : List ℕ → ConfigFault → Type 0
HasFault text fault = ((fault ≡ not_toml) × IsNotToml text) ⊎ ((root : Data) × IsText text root × (config_in root ≡ Err fault))

-- of a fault, but not of want of memory
abbrev pub IfFault : (ConfigFault → Type 0) → ConfigError → Type 0
IfFault P (Fault fault) = P fault
IfFault P Memory = ⊤
