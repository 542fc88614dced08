-- How the outside fails: a count of faults, and the last failed call.
use Rattle.std.specs.Prelude.{ℕ, ◌+◌, ◌-◌, ◌^◌, ◌≤◌, List, min, Option, None, Some, Result, OnErr}
use Rattle.gw_depot.specs.declared.outside.CallKind.{CallKind}

-- the kind and the name of the last failed call, none at first
abbrev pub Blame : Type 0
Blame = Option (CallKind × List ℕ)

-- a count of faults rose, or stands at the last value of a `u64`
abbrev pub Rose : ℕ → ℕ → Type 0
Rose before now = min (before + 1) (2 ^ 64 - 1) ≤ now

-- a call fails only where the count of faults rises in it, and the count never falls
pub record HasCount {T E : Type 0} (before now : ℕ) (result : Result T E) : Type 0 where
  pub later : before ≤ now
  pub failed : OnErr result (Rose before now)

-- how often a depot has failed, and its last failed call
pub record Faults : Type 0 where
  pub count : ℕ
  pub blame : Blame

-- no call has failed
abbrev pub no_faults : Faults
no_faults = record { count = 0; blame = None }

-- one fault more, blamed on a call; at its last value the count stays
abbrev pub with_fault : Faults → CallKind → List ℕ → Faults
with_fault old kind name = record { count = min (old.count + 1) (2 ^ 64 - 1); blame = Some (kind, name) }
