-- What every step of a sender keeps to, whatever its row: it offers data frames of its channel and tells of its own sessions.
use Rattle.std.specs.Prelude.{◌≡◌, ◌⊎◌, ℕ, ◌≤◌, true, None, [], length}
use Rattle.std.specs.List.{AllByRecursion}
use Rattle.hub_core.specs.View.{Event, Took, Refused, Entered, Asked, Put, Published, Joining, Missed, Saw, Read, Closed, Parted}
use Rattle.hub_core.specs.declared.record.DestRecord.{DestRecord}
use Rattle.tp_unit.specs.Shape.{fits_shape}
use Rattle.tp_unit.specs.Unit.{BoxMeaning, Keeps, Offers, Revokes, Meaning}
use Rattle.tp_sender.specs.declared.set.TxSet.{TxSet}
use Rattle.tp_unit.specs.Box.{IsNoData}
use Rattle.tp_sender.specs.State.{TxDid, TxState}

-- a call of a path's destination
abbrev pub OfDest : (path dest : ℕ) → Event → Type 0
OfDest path dest (Took group number buf size need) = ⊥
OfDest path dest (Refused group number free need) = ⊥
OfDest path dest (Entered p seq buf number size len readers) = ⊥
OfDest path dest (Asked p seq cells readers) = ⊥
OfDest path dest (Put p seq cell) = ⊥
OfDest path dest (Published p seq bytes) = ⊥
OfDest path dest (Joining p d seq buf len) = (p ≡ path) × (d ≡ dest)
OfDest path dest (Missed group p d seq) = (p ≡ path) × (d ≡ dest)
OfDest path dest (Saw p d seq cells bytes writer) = (p ≡ path) × (d ≡ dest)
OfDest path dest (Read p d seq cell) = (p ≡ path) × (d ≡ dest)
OfDest path dest (Closed p seq freed) = ⊥
OfDest path dest (Parted p d seq freed) = (p ≡ path) × (d ≡ dest)

-- a data frame that fits the channel's shape
pub record IsFitting (set : TxSet) (meaning : Meaning) : Type 0 where
  pub carries : IsNoData meaning → ⊥
  pub fits : fits_shape set.shape meaning ≡ true

-- an act offers no other frame
abbrev pub IsFittingAct : TxSet → BoxMeaning → Type 0
IsFittingAct set Keeps = Unit {0}
IsFittingAct set (Offers meaning) = IsFitting set meaning
IsFittingAct set Revokes = Unit {0}

-- a record of the sender's destination, of a session that ended in that tick
pub record IsToldIn (set : TxSet) (tick : ℕ) (told : DestRecord) : Type 0 where
  pub path : told.path ≡ set.path
  pub dest : told.dest ≡ set.dest
  pub end : told.end.0 ≡ tick

-- what a step keeps to: its calls are its destination's own, it offers no other frames, it tells of one session at the most, which ends
-- in its tick and after which none is sent, and it joins sessions in order
pub record KeepsToOwn (set : TxSet) (old : TxState) (did : TxDid) : Type 0 where
  pub calls : AllByRecursion (OfDest set.path.0 set.dest.0) did.calls
  pub act : IsFittingAct set did.act
  pub records : AllByRecursion (IsToldIn set did.tick) did.records
  pub few : length did.records ≤ 1
  pub last : (did.records ≡ []) ⊎ (did.new.live ≡ None)
  pub next : old.next ≤ did.new.next
