-- The looks of a receiver at the room among the calls of a step.
use Rattle.std.proofs.Common.{◌≡◌, ℕ, Some, List, [], ◌∷◌, ◌++◌, refl, ap, ◌∙◌, subst, append_assoc}
use Rattle.gw_base.proofs.Lists.{same-some}
use Rattle.hub_core.specs.View.{Asked, Event, Session, empty_view, grows, session_at}
use Rattle.hub_core.specs.declared.port.Room.{Room}
use Rattle.hub_core.specs.declared.record.SessionRecord.{SessionRecord}
use Rattle.tp_receiver.specs.Effects.{Ends, Forgets, Looks, Opens, Puts, Refuses, RxDone, RxEffect, RxStage, Waits}
use Rattle.tp_receiver.specs.State.{Reception, RxEvent}
use Rattle.tp_receiver.specs.declared.set.RxSet.{RxSet}
use Rattle.receiver_law.proofs.records.JointReceivers.{KnownAt, KnownIn}

-- a look in a step after earlier calls, at a session of the path's destinations
pub record IsLookIn (set : RxSet) (first calls : List Event) (seq readers : ℕ) : Type 0 where
  pub before : List Event
  pub after : List Event
  pub cells : ℕ
  pub are : calls ≡ before ++ Asked set.path.0 seq cells readers ∷ after
  pub session : Session
  pub there : session_at (grows (first ++ before) empty_view) set.path.0 seq ≡ Some session
  pub dests : session.dests ≡ set.readers

pub looks-more : (set : RxSet) (first calls more : List Event) (seq readers : ℕ) → IsLookIn set first calls seq readers → IsLookIn set first (calls ++ more) seq readers
looks-more set first calls more seq readers so = record {
  before = so.before;
  after = so.after ++ more;
  cells = so.cells;
  are = ap (λ c. c ++ more) so.are ∙ append_assoc so.before (Asked set.path.0 seq so.cells readers ∷ so.after) more;
  session = so.session;
  there = so.there;
  dests = so.dests;
}

-- the calls of a step so far, and what its last look answered
abbrev pub LooksIn : RxSet → List Event → RxStage → List Event → Type 0
LooksIn set first stage calls = (so_far : List Event) × (calls ≡ first ++ so_far) × ((busy : Reception) (look : Room) → stage.state.busy ≡ Some busy → stage.look ≡ Some look → IsLookIn set first so_far busy.opened.seq look.readers)

calls-more : (first so_far calls more : List Event) → calls ≡ first ++ so_far → calls ++ more ≡ first ++ (so_far ++ more)
calls-more first so_far calls more is = ap (λ c. c ++ more) is ∙ append_assoc first so_far more

pub looks-effect : (set : RxSet) (event : RxEvent) (tick : ℕ) (first : List Event) (old : RxStage) (done : RxDone) (calls : List Event) (records : List SessionRecord) → RxEffect set event tick old done → KnownAt set (grows calls empty_view) records old → LooksIn set first old calls → LooksIn set first done.new (calls ++ done.calls)
looks-effect set event tick first old done calls records (Refuses e) known so = (so.0 ++ done.calls, calls-more first so.0 calls done.calls so.1, rw e.new (λ busy look was none. cc))
looks-effect set event tick first old done calls records (Opens e) known so = (so.0 ++ done.calls, calls-more first so.0 calls done.calls so.1, rw e.new (λ busy look was none. cc))
looks-effect set event tick first old done calls records (Looks e) known so =
    let going = (subst (KnownIn set (grows calls empty_view) records old.state.seq) e.was known.known).going in (
      so.0 ++ done.calls,
      calls-more first so.0 calls done.calls so.1,
      rw (e.new, e.calls) (λ busy look was looked.
          let same_busy : e.busy ≡ busy = same-some e.was was in
          let same_look : e.look ≡ look = cc in
          let P : Reception → Room → Type 0 = λ b l. IsLookIn set first (so.0 ++ Asked set.path.0 e.busy.opened.seq e.look.cells e.look.readers ∷ []) b.opened.seq l.readers in
          let at : P e.busy e.look = record { before = so.0; after = []; cells = e.look.cells; are = refl; session = going.session; there = subst (λ (c : List Event). session_at (grows c empty_view) set.path.0 e.busy.opened.seq ≡ Some going.session) so.1 going.there; dests = going.put.dests } in
          subst (λ (l : Room). P busy l) same_look (subst (λ (b : Reception). P b e.look) same_busy at)),
    )
looks-effect set event tick first old done calls records (Puts e) known so = (so.0 ++ done.calls, calls-more first so.0 calls done.calls so.1, rw e.new (λ busy look was none. cc))
looks-effect set event tick first old done calls records (Waits e) known so = (so.0 ++ done.calls, calls-more first so.0 calls done.calls so.1, rw e.new (λ busy look was none. cc))
looks-effect set event tick first old done calls records (Forgets e) known so =
    (so.0 ++ done.calls, calls-more first so.0 calls done.calls so.1, rw e.new (λ busy look was looked. looks-more set first so.0 done.calls busy.opened.seq look.readers (so.2 busy look was looked)))
looks-effect set event tick first old done calls records (Ends e) known so = (so.0 ++ done.calls, calls-more first so.0 calls done.calls so.1, rw e.new (λ busy look was none. cc))
