-- What a test sets a double in memory to do, and what a sink in memory is.
use Rattle.std.specs.Prelude.{◌≡◌, ℕ, ◌+◌, ◌-◌, ◌^◌, min, List, [], ◌++◌}
use Rattle.gw_depot.specs.declared.outside.CallKind.{CallKind}
use Rattle.gw_depot.specs.declared.outside.CallKind.TheVariants.{Read, Create, Append}

-- how many calls of each kind are left up to the one that was set to fail, with it, or 0 where none was; and the
-- most bytes that one read or append takes
pub record Plan : Type 0 where
  pub reads : ℕ
  pub creates : ℕ
  pub appends : ℕ
  pub most : ℕ

-- no call fails, and none is bounded
abbrev pub no_plan : Plan
no_plan = record { reads = 0; creates = 0; appends = 0; most = 2 ^ 64 - 1 }

-- how many calls of a kind are left up to the one that was set to fail, with it, or 0 where none was
abbrev pub calls_left : Plan → CallKind → ℕ
calls_left plan Read = plan.reads
calls_left plan Create = plan.creates
calls_left plan Append = plan.appends

-- the next call of a kind was set to fail
abbrev pub FailsNext : Plan → CallKind → Type 0
FailsNext plan kind = calls_left plan kind ≡ 1

-- the nth later call of a kind fails, and no other of that kind
abbrev pub with_failure : Plan → CallKind → ℕ → Plan
with_failure plan Read nth = record plan { reads = nth }
with_failure plan Create nth = record plan { creates = nth }
with_failure plan Append nth = record plan { appends = nth }

-- one call of a kind was made
abbrev pub after_call : Plan → CallKind → Plan
after_call plan kind = with_failure plan kind (calls_left plan kind - 1)

-- one read or append takes at most so many bytes
abbrev pub with_most : Plan → ℕ → Plan
with_most plan bytes = record plan { most = bytes }

-- what was said to a sink in memory, its count of faults, and how many puts are left up to the one that was set to
-- fail, with it, or 0 where none was
pub record MemSinkState : Type 0 where
  pub said : List ℕ
  pub faults : ℕ
  pub puts_left : ℕ

-- one put was made: the piece is said, or the fault is counted; at its last value the count stays
abbrev pub after_said : MemSinkState → List ℕ → MemSinkState
after_said sink piece = record sink { said = sink.said ++ piece; puts_left = sink.puts_left - 1 }

abbrev pub after_fault : MemSinkState → MemSinkState
after_fault sink = record sink { faults = min (sink.faults + 1) (2 ^ 64 - 1); puts_left = sink.puts_left - 1 }

-- nothing was said, and no put fails
abbrev pub nothing_said : MemSinkState
nothing_said = record { said = []; faults = 0; puts_left = 0 }
