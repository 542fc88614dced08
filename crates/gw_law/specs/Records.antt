-- What the records of a source channel say of themselves: whose they are, that they lie within the run, and that one follows another.
use Rattle.std.specs.Prelude.{◌≡◌, ℕ, ◌+◌, ◌≤◌, Some, slice_get}
use Rattle.std.specs.List.{AllByRecursion}
use Rattle.hub_core.specs.declared.record.SessionRecord.{SessionRecord}
use Rattle.receiver_law.specs.Channel.{SourceChannel}

-- a record of the channel, which ends by the run's last tick
pub record IsOfSource (c : SourceChannel) (told : SessionRecord) : Type 0 where
  pub chan : told.chan ≡ c.rx.chan
  pub end : told.end.0 ≤ c.last

-- the records are those of the channel, and none begins before the one before it ended
pub record SessionRecords (c : SourceChannel) : Type 0 where
  pub own : AllByRecursion (IsOfSource c) c.sessions
  pub follow : (place : ℕ) (told next : SessionRecord) → slice_get c.sessions place ≡ Some told → slice_get c.sessions (place + 1) ≡ Some next → told.end.0 ≤ next.begin.0
