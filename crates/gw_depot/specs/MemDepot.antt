-- What contracts see of a depot in memory: its files, its faults, and what a test has set.
use Rattle.std.specs.Prelude.{◌≡◌, ℕ, ◌-◌, min, true, List, length, Some}
use Rattle.gw_depot.specs.declared.mem_depot.MemDepot.{MemDepot}
use Rattle.gw_depot.specs.Fault.{Faults}
use Rattle.gw_depot.specs.Files.{Files}
use Rattle.gw_depot.specs.MemFiles.{held}
use Rattle.gw_depot.specs.Outside.{DepotState}
use Rattle.gw_depot.specs.Plan.{Plan}

-- what each name holds
abbrev pub files_of : MemDepot → Files
files_of depot = held depot.files

-- its count of faults and its last failed call
abbrev pub faults_of : MemDepot → Faults
faults_of depot = depot.faults

-- what it is at: it tells its contents
abbrev pub state_of : MemDepot → DepotState
state_of depot =
    let failed : Faults = faults_of depot in
    record { told = true; files = files_of depot; faults = failed.count; blame = failed.blame }

-- which calls to come fail, and the most bytes that one takes
abbrev pub plan_of : MemDepot → Plan
plan_of depot = depot.plan

-- a read counts all the bytes of the file from a place on that there is room for, or the most that one call takes
abbrev pub ReadsAsPlanned : MemDepot → (name : List ℕ) → (at room count : ℕ) → Type 0
ReadsAsPlanned depot name at room count = (content : List ℕ) → files_of depot name ≡ Some content →
    count ≡ min (plan_of depot).most (min room (length content - at))
