-- What a reading that needs memory gives, beside what the text says.
use Rattle.std.specs.Prelude.{◌≡◌, Result, Ok, Err, ⊤}
use Rattle.gw_settings.specs.declared.fault.ConfigFault.{ConfigFault}
use Rattle.gw_settings.specs.declared.fault.ConfigError.{ConfigError}
use Rattle.gw_settings.specs.declared.fault.ConfigError.TheVariants.{Fault, Memory}

-- the ? of the logic: the second reading, if the first gave a value
infixl 10 ◌>>=◌
abbrev pub ◌>>=◌ : {A B : Type 0} → Result A ConfigFault → (A → Result B ConfigFault) → Result B ConfigFault
Ok value >>= next = next value
Err fault >>= next = Err fault

-- the error is the text's fault, or want of memory
abbrev pub Blames : {A : Type 0} → Result A ConfigFault → ConfigError → Type 0
Blames said (Fault fault) = said ≡ Err fault
Blames said Memory = ⊤

-- the value or the fault that the text says, or want of memory
abbrev pub Gives : {A : Type 0} → Result A ConfigFault → Result A ConfigError → Type 0
Gives said (Ok value) = said ≡ Ok value
Gives said (Err error) = Blames said error
