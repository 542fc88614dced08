-- Whom a source's consecutive frames are put for: a destination that reads (the sessions and destinations are this project's own).
use Rattle.std.specs.Prelude.{◌≡◌, ℕ, ◌+◌, ◌<◌, List, Some, drop, slice_get}
use Rattle.std.specs.List.{AllByRecursion, AllZip}
use Rattle.hub_core.specs.declared.record.DestRecord.{DestRecord}
use Rattle.hub_core.specs.declared.record.OpenedAt.{OpenedAt}
use Rattle.hub_core.specs.declared.record.SessionRecord.{SessionRecord}
use Rattle.receiver_law.specs.Channel.{SourceChannel}
use Rattle.receiver_law.specs.ReceptionCauses.{ArePut}
use Rattle.tp_attempts.specs.Attempts.{attempts_in}
use Rattle.tp_attempts.specs.Cuts.{Cut}
use Rattle.tp_attempts.specs.Seen.{Seen}
use Rattle.tp_attempts.specs.Walk.{Piece, walk_of}
use Rattle.gw_law.specs.Account.{Account, dest_in}
use Rattle.gw_law.specs.Plan.{Sending}

-- a destination of the path has a record of that session which ends later than a window before that tick
pub record IsReadIn (a : Account) (path seq tick : ℕ) : Type 0 where
  pub other : ℕ
  pub sending : Sending
  pub there : slice_get a.plan.senders other ≡ Some sending
  pub path_is : sending.set.path.0 ≡ path
  pub told : DestRecord
  pub told_is : slice_get (dest_in a sending).dests seq ≡ Some told
  pub seq_is : told.seq ≡ seq
  pub later : tick < told.end.0 + a.plan.window

-- the counted frames whose bytes are told: each consecutive one came in such a tick
pub record ArePutToRead (a : Account) (path seq : ℕ) (pieces : List Piece) (bytes : ℕ) : Type 0 where
  pub put : List Piece
  pub are_put : ArePut pieces bytes put
  pub read : AllByRecursion (λ (piece : Piece). IsReadIn a path seq piece.at) (drop 1 put)

abbrev pub TellsReaders : Account → SourceChannel → Cut Seen → SessionRecord → Type 0
TellsReaders a r attempt told = (opened : OpenedAt) → told.opened ≡ Some opened → ArePutToRead a r.rx.path.0 opened.seq (walk_of r.rx.a attempt).pieces told.bytes

-- each record of a session of the channel
abbrev pub ReaderLaw : Account → SourceChannel → Type 0
ReaderLaw a r = AllZip (TellsReaders a r) (attempts_in r.rx.functional r.seen) r.sessions
