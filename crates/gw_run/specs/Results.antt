-- What a run leaves behind, and which file a fault is blamed on.
use Rattle.std.specs.Prelude.{◌≡◌, ◌≢◌, ◌⊎◌, ℕ, zero, suc, List, take, Some}
use Rattle.gw_depot.specs.Fault.{Blame, Rose}
use Rattle.gw_depot.specs.Files.{Files}
use Rattle.gw_depot.specs.declared.outside.CallKind.TheVariants.{Read, Create, Append}
use Rattle.gw_run.specs.declared.status.FileRole.{FileRole}
use Rattle.gw_run.specs.declared.status.FileRole.TheVariants.{Config, Log, Out, Report, Say}
use Rattle.gw_run.specs.Setup.{Bus, Setup}

-- the outputs and the report have their texts, and every other file is as before
pub record HasResults (old new : Files) (setup : Setup) (controls frames report text : List ℕ) : Type 0 where
  pub source : new setup.source.out ≡ Some controls
  pub destination : new setup.destination.out ≡ Some frames
  pub told : new report ≡ Some text
  pub others : (name : List ℕ) → name ≢ setup.source.out → name ≢ setup.destination.out → name ≢ report → new name ≡ old name

-- the outputs have their texts, and every other file is as before
pub record HasOutputs (old new : Files) (setup : Setup) (controls frames : List ℕ) : Type 0 where
  pub source : new setup.source.out ≡ Some controls
  pub destination : new setup.destination.out ≡ Some frames
  pub others : (name : List ℕ) → name ≢ setup.source.out → name ≢ setup.destination.out → new name ≡ old name

-- the file is as before, or holds a beginning of the bytes
abbrev pub IsBegun : (old new : Files) → (name bytes : List ℕ) → Type 0
IsBegun old new name bytes = (new name ≡ old name) ⊎ ((count : ℕ) × (new name ≡ Some (take count bytes)))

-- each output is as before or a beginning of its text, and every other file is as before
pub record OutputsBegun (old new : Files) (setup : Setup) (controls frames : List ℕ) : Type 0 where
  pub source : IsBegun old new setup.source.out controls
  pub destination : IsBegun old new setup.destination.out frames
  pub others : (name : List ℕ) → name ≢ setup.source.out → name ≢ setup.destination.out → new name ≡ old name

-- both outputs are whole
abbrev pub AreWhole : Files → Setup → (controls frames : List ℕ) → Type 0
AreWhole new setup controls frames = (new setup.source.out ≡ Some controls) × (new setup.destination.out ≡ Some frames)

-- each output is as before or a beginning of its text; so is the report, and where it isn't as before the outputs are whole; every other file is as before
pub record HasBegun (old new : Files) (setup : Setup) (controls frames report text : List ℕ) : Type 0 where
  pub source : IsBegun old new setup.source.out controls
  pub destination : IsBegun old new setup.destination.out frames
  pub told : (new report ≡ old report) ⊎ (AreWhole new setup controls frames × ((count : ℕ) × (new report ≡ Some (take count text))))
  pub others : (name : List ℕ) → name ≢ setup.source.out → name ≢ setup.destination.out → name ≢ report → new name ≡ old name

-- the bus with this number
abbrev pub bus_numbered : Setup → ℕ → Bus
bus_numbered setup zero = setup.source
bus_numbered setup (suc number) = setup.destination

-- the last failed call is a create or an append of this file
abbrev pub IsWriteOf : Blame → List ℕ → Type 0
IsWriteOf blame name = (blame ≡ Some (Create, name)) ⊎ (blame ≡ Some (Append, name))

-- the count of faults rose, and the last failed call is a create or an append of an output or of the report
abbrev pub WriteFailed : Setup → (report : List ℕ) → (before now : ℕ) → Blame → FileRole → Type 0
WriteFailed setup report before now blame Config = ⊥
WriteFailed setup report before now blame (Log bus) = ⊥
WriteFailed setup report before now blame (Out bus) = Rose before now × IsWriteOf blame (bus_numbered setup bus.0).out
WriteFailed setup report before now blame Report = Rose before now × IsWriteOf blame report
WriteFailed setup report before now blame Say = ⊥

-- the count of faults rose, and the last failed call is a read of a log
abbrev pub ReadFailed : Setup → (before now : ℕ) → Blame → FileRole → Type 0
ReadFailed setup before now blame Config = ⊥
ReadFailed setup before now blame (Log bus) = Rose before now × (blame ≡ Some (Read, (bus_numbered setup bus.0).log))
ReadFailed setup before now blame (Out bus) = ⊥
ReadFailed setup before now blame Report = ⊥
ReadFailed setup before now blame Say = ⊥
