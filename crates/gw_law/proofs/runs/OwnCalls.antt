-- Whose calls a receiver's and a sender's steps make: those of its path's writer and of its destination, and no others.
use Rattle.std.proofs.Common.{◌≡◌, ℕ, List, [], ◌∷◌, ◌++◌, refl, ap, sym, ◌∙◌}
use Rattle.std.specs.Prelude.{slice_get}
use Rattle.tp_sender.specs.Runs.{HasSent}
use Rattle.tp_sender.specs.State.{TxTurn, tx_new}
use Rattle.tp_sender.specs.Own.{OfDest}
use Rattle.tp_sender.proofs.Own.{own}
use Rattle.tp_receiver.specs.State.{RxState, RxTurn, rx_new}
use Rattle.tp_receiver.specs.Effects.{OfWriter}
use Rattle.tp_receiver.proofs.OwnSteps.{own-step}
use Rattle.tp_receiver.specs.Runs.{HasReceived}
use Rattle.hub_core.specs.Turns.{calls_by, state_after}
use Rattle.std.specs.List.{AllByRecursion}
use Rattle.hub_core.proofs.Beside.{readings-beside, sessions-beside}
use Rattle.hub_core.specs.Floors.{AreFresh, Floors, IsFresh}
use Rattle.hub_core.specs.View.{Event, View, grow, grows, reading_at, session_at, Took, Refused, Entered, Asked, Put, Published, Joining, Missed, Saw, Read, Closed, Parted}
use Rattle.tp_receiver.specs.declared.set.RxSet.{RxSet}
use Rattle.tp_sender.specs.declared.set.TxSet.{TxSet}
use Rattle.gw_base.proofs.Lists.{all-join}

-- a writer's call leaves the readings, and a destination's the sessions
readings-kept : (path its : ℕ) (call : Event) (v : View) → OfWriter path its call → (grow call v).readings ≡ v.readings
unfolding grow
readings-kept path its (Took group number buf size need) v of = refl
readings-kept path its (Refused group number free need) v of = refl
readings-kept path its (Entered p seq buf number size len readers) v of = refl
readings-kept path its (Asked p seq cells readers) v of = refl
readings-kept path its (Put p seq cell) v of = refl
readings-kept path its (Published p seq bytes) v of = refl
readings-kept path its (Joining p dest seq buf len) v of = absurd of
readings-kept path its (Missed group p dest seq) v of = absurd of
readings-kept path its (Saw p dest seq cells bytes writer) v of = absurd of
readings-kept path its (Read p dest seq cell) v of = absurd of
readings-kept path its (Closed p seq freed) v of = refl
readings-kept path its (Parted p dest seq freed) v of = absurd of

sessions-kept : (path dest : ℕ) (call : Event) (v : View) → OfDest path dest call → (grow call v).sessions ≡ v.sessions
unfolding grow
sessions-kept path dest (Took group number buf size need) v of = absurd of
sessions-kept path dest (Refused group number free need) v of = absurd of
sessions-kept path dest (Entered p seq buf number size len readers) v of = absurd of
sessions-kept path dest (Asked p seq cells readers) v of = absurd of
sessions-kept path dest (Put p seq cell) v of = absurd of
sessions-kept path dest (Published p seq bytes) v of = absurd of
sessions-kept path dest (Joining p d seq buf len) v of = refl
sessions-kept path dest (Missed group p d seq) v of = refl
sessions-kept path dest (Saw p d seq cells bytes writer) v of = refl
sessions-kept path dest (Read p d seq cell) v of = refl
sessions-kept path dest (Closed p seq freed) v of = absurd of
sessions-kept path dest (Parted p d seq freed) v of = refl

pub readings-stay : (path its : ℕ) (calls : List Event) (v : View) → AllByRecursion (OfWriter path its) calls → (grows calls v).readings ≡ v.readings
readings-stay path its [] v all = refl
readings-stay path its (call ∷ calls) v all = readings-stay path its calls (grow call v) all.1 ∙ readings-kept path its call v all.0

pub sessions-stay : (path dest : ℕ) (calls : List Event) (v : View) → AllByRecursion (OfDest path dest) calls → (grows calls v).sessions ≡ v.sessions
sessions-stay path dest [] v all = refl
sessions-stay path dest (call ∷ calls) v all = sessions-stay path dest calls (grow call v) all.1 ∙ sessions-kept path dest call v all.0

-- the rows of a receiver
abbrev pub Writes : RxSet → List Event → Type 0
Writes set calls = AllByRecursion (OfWriter set.path.0 set.group.0) calls

-- the turns after earlier ones
pub received-writes : (set : RxSet) (turns earlier : List RxTurn) → HasReceived set (turns ++ earlier) → Writes set (calls_by turns)
received-writes set [] earlier happened = tt
received-writes set (turn ∷ turns) earlier happened =
    let old : RxState = state_after rx_new (turns ++ earlier) in
    all-join (OfWriter set.path.0 set.group.0) (calls_by turns) turn.did.calls (received-writes set turns earlier happened.2) (own-step set old turn.event turn.did happened.1).writes

-- a sender's calls
abbrev pub Reads : TxSet → List Event → Type 0
Reads set calls = AllByRecursion (OfDest set.path.0 set.dest.0) calls

-- the moments after earlier ones
pub sent-reads : (set : TxSet) (moments earlier : List TxTurn) → HasSent set (moments ++ earlier) → Reads set (calls_by moments)
sent-reads set [] earlier happened = tt
sent-reads set (m ∷ moments) earlier happened =
    all-join (OfDest set.path.0 set.dest.0) (calls_by moments) m.did.calls (sent-reads set moments earlier happened.2) (own set (state_after tx_new (moments ++ earlier)) m.event m.did happened.1.1).calls

-- what a writer's calls saw is as fresh over its own view, with the same sessions of its path
writer-fresh : (path its : ℕ) (f : Floors) (call : Event) (v w : View) → v.sessions path ≡ w.sessions path → OfWriter path its call → IsFresh v f call → IsFresh w f call
writer-fresh path its f (Took group number buf size need) v w same of fresh = fresh
writer-fresh path its f (Refused group number free need) v w same of fresh = fresh
writer-fresh path its f (Entered p seq buf number size len readers) v w same of fresh = tt
writer-fresh path its f (Asked p seq cells readers) v w same of fresh = λ s there.
    fresh s (ap (λ k. session_at v k seq) of ∙ ap (λ l. slice_get l seq) same ∙ ap (λ k. session_at w k seq) (sym of) ∙ there)
writer-fresh path its f (Put p seq cell) v w same of fresh = tt
writer-fresh path its f (Published p seq bytes) v w same of fresh = tt
writer-fresh path its f (Joining p dest seq buf len) v w same of fresh = absurd of
writer-fresh path its f (Missed group p dest seq) v w same of fresh = absurd of
writer-fresh path its f (Saw p dest seq cells bytes writer) v w same of fresh = absurd of
writer-fresh path its f (Read p dest seq cell) v w same of fresh = absurd of
writer-fresh path its f (Closed p seq freed) v w same of fresh = tt
writer-fresh path its f (Parted p dest seq freed) v w same of fresh = absurd of

pub writes-fresh : (path its : ℕ) (f : Floors) (calls : List Event) (v w : View) → v.sessions path ≡ w.sessions path → AllByRecursion (OfWriter path its) calls → AreFresh f v calls → AreFresh f w calls
writes-fresh path its f [] v w same of fresh = tt
writes-fresh path its f (call ∷ calls) v w same of fresh =
    (writer-fresh path its f call v w same of.0 fresh.0, writes-fresh path its f calls (grow call v) (grow call w) (sessions-beside path call v w same) of.1 fresh.1)

-- what a destination's calls saw is as fresh over its own view, with the same readings
reader-fresh : (path dest : ℕ) (f : Floors) (call : Event) (v w : View) → v.readings path dest ≡ w.readings path dest → OfDest path dest call → IsFresh v f call → IsFresh w f call
reader-fresh path dest f (Took group number buf size need) v w same of fresh = absurd of
reader-fresh path dest f (Refused group number free need) v w same of fresh = absurd of
reader-fresh path dest f (Entered p seq buf number size len readers) v w same of fresh = absurd of
reader-fresh path dest f (Asked p seq cells readers) v w same of fresh = absurd of
reader-fresh path dest f (Put p seq cell) v w same of fresh = absurd of
reader-fresh path dest f (Published p seq bytes) v w same of fresh = absurd of
reader-fresh path dest f (Joining p d seq buf len) v w same of fresh = tt
reader-fresh path dest f (Missed group p d seq) v w same of fresh = fresh
reader-fresh path dest f (Saw p d seq cells bytes writer) v w same of fresh = (
  fresh.0,
  fresh.1,
  record {
    reading = fresh.2.reading;
    there = ap (λ k. reading_at w k d seq) of.0 ∙ ap (λ e. reading_at w path e seq) of.1 ∙ ap (λ l. slice_get l seq) (sym same) ∙ ap (λ e. reading_at v path e seq) (sym of.1) ∙ ap (λ k. reading_at v k d seq) (sym of.0) ∙ fresh.2.there;
    cells_most = fresh.2.cells_most;
    bytes_most = fresh.2.bytes_most;
  },
)
reader-fresh path dest f (Read p d seq cell) v w same of fresh = tt
reader-fresh path dest f (Closed p seq freed) v w same of fresh = absurd of
reader-fresh path dest f (Parted p d seq freed) v w same of fresh = tt

pub reads-fresh : (path dest : ℕ) (f : Floors) (calls : List Event) (v w : View) → v.readings path dest ≡ w.readings path dest → AllByRecursion (OfDest path dest) calls → AreFresh f v calls → AreFresh f w calls
reads-fresh path dest f [] v w same of fresh = tt
reads-fresh path dest f (call ∷ calls) v w same of fresh =
    (reader-fresh path dest f call v w same of.0 fresh.0, reads-fresh path dest f calls (grow call v) (grow call w) (readings-beside path dest call v w same) of.1 fresh.1)
