-- A machine stands after one more turn of its own, and after steps of others.
use Rattle.std.proofs.Common.{◌≡◌, ℕ, ◌+◌, ◌≤◌, List, ◌∷◌, ◌++◌, length, refl, ap, sym, subst, ◌∙◌, arith, length-append}
use Rattle.hub_core.proofs.Beside.{readings-grown, sessions-grown}
use Rattle.hub_core.specs.Stays.{PortState}
use Rattle.hub_core.specs.Turns.{calls_by, came_by, state_after}
use Rattle.hub_core.specs.View.{Event, View, grows}
use Rattle.tp_receiver.specs.Port.{takes_for}
use Rattle.tp_receiver.specs.Runs.{HasReceived, control_after, control_once, frames_in}
use Rattle.tp_receiver.specs.State.{RxDid, RxEvent, RxState, RxTurn, Came, Timer, FcLeft, RunEnd, rx_new}
use Rattle.tp_receiver.specs.Table.{RxStep}
use Rattle.tp_receiver.specs.declared.set.RxSet.{RxSet}
use Rattle.tp_sender.specs.Runs.{HasSent, InOrder, box_after, box_once}
use Rattle.tp_sender.specs.State.{StillHasFrame, TxDid, TxState, TxTurn, set_of, state_of, tx_new}
use Rattle.tp_sender.specs.Table.{TxStep}
use Rattle.tp_sender.specs.declared.event.TxEvent.{TxEvent}
use Rattle.tp_sender.specs.declared.set.TxSet.{TxSet}
use Rattle.tp_unit.specs.declared.shape.Shape.{Shape}
use Rattle.tx_mailbox.specs.Boxes.{Pending}
use Rattle.hub_core.specs.declared.record.Move.{Move}
use Rattle.gw_law.specs.Deeds.{own_view}
use Rattle.bus_worker.proofs.Fitting.{control-act, frame-act}
use Rattle.bus_worker.proofs.Knowing.{knows-stays, port-stays, waits-later}
use Rattle.bus_worker.proofs.Lying.{fits-control, fits-frame, fits-put, has-still, has-then}
use Rattle.bus_worker.proofs.Made.{made-more, made-stays}
use Rattle.bus_worker.specs.Boxed.{FitsAct}
use Rattle.bus_worker.specs.Stands.{FitsIn, ReceiverStands, SenderStands}
use Rattle.bus_worker.specs.Told.{TellsReceiver, TellsSender}
use Rattle.bus_worker.specs.declared.channel.Receiving.{Receiving}
use Rattle.bus_worker.specs.declared.channel.Sending.{Sending}

came-takes : (tick : ℕ) (event : RxEvent) → length (frames_in tick event) ≡ takes_for event
came-takes tick (Came size meaning) = refl
came-takes tick Timer = refl
came-takes tick FcLeft = refl
came-takes tick RunEnd = refl

came-more : (turns : List RxTurn) (tick : ℕ) (event : RxEvent) → length (came_by frames_in turns ++ frames_in tick event) ≡ length (came_by frames_in turns) + takes_for event
came-more turns tick event = length-append (came_by frames_in turns) (frames_in tick event) ∙ ap (λ n. length (came_by frames_in turns) + n) (came-takes tick event)

-- the turn that a step was
abbrev pub turn-of : RxEvent → RxDid → RxTurn
turn-of event did = record { event = event; did = did }

abbrev pub sent-of : TxEvent → TxDid → TxTurn
sent-of event did = record { event = event; did = did }

-- a receiver's own turn
pub receiver-turn : {Home : Type 0} (r s : Receiving) (event : RxEvent) (t tick : ℕ) (old new : PortState Home) (number : ℕ) (boxes after : List Pending) (moves noted : List Move) (turns : List RxTurn) →
    ReceiverStands t old.view turns r → t ≤ tick → (told : TellsReceiver r s event tick old new number boxes after moves noted) → ReceiverStands tick new.view (turn-of event told.did ∷ turns) s
receiver-turn r s event t tick old new number boxes after moves noted turns stands by told =
    let did = told.did in
    let more = came-more turns did.tick event in
    let row : RxStep r.machine.set (state_after rx_new turns) event did = (let Q : RxState → Type 0 = λ x. RxStep r.machine.set x event did in subst Q stands.state told.row) in
    let H : RxSet → Type 0 = λ set. HasReceived set (turn-of event did ∷ turns) in
    let O : RxSet → Type 0 = λ set. new.view.sessions set.path.0 ≡ (own_view (calls_by turns ++ did.calls)).sessions set.path.0 in
    let F : Shape → Type 0 = λ shape. FitsIn shape (control_after (turn-of event did ∷ turns)) in
    record {
      happened = subst H (sym told.set) (omega (arith, told.tick_is, stands.now), row, stands.happened);
      state = told.state;
      knows = told.knows;
      number = omega (arith, more, told.number_is, stands.number);
      now = omega (arith, told.tick_is);
      waits = told.waits;
      fits = subst F (sym told.shape) (fits-put r.shape did.act (control_once event (control_after turns)) (control-act r.machine.set r.shape (state_after rx_new turns) event did row) (fits-control r.shape event (control_after turns) stands.fits));
      sessions = told.sessions ∙ ap (λ l. l ++ did.records) stands.sessions;
      own = subst O (sym told.set) (sessions-grown r.machine.set.path.0 (calls_by turns) did.calls old.view new.view told.grown stands.own);
      made = made-more (calls_by turns) did.calls old.view new.view told.grown stands.made;
    }

-- steps of others
pub receiver-stays : (r : Receiving) (t tick : ℕ) (others : List Event) (v w : View) (turns : List RxTurn) →
    ReceiverStands t v turns r → t ≤ tick → w ≡ grows others v → w.sessions r.machine.set.path.0 ≡ v.sessions r.machine.set.path.0 → ReceiverStands tick w turns r
receiver-stays r t tick others v w turns stands by grown same = record {
  happened = stands.happened;
  state = stands.state;
  knows = knows-stays v w r.machine same stands.knows;
  number = stands.number;
  now = omega (arith, stands.now);
  waits = waits-later r.machine t tick by stands.waits;
  fits = stands.fits;
  sessions = stands.sessions;
  own = same ∙ stands.own;
  made = made-stays (calls_by turns) others v w grown stands.made;
}

-- a sender's own turn
pub sender-turn : {Home : Type 0} (s u : Sending) (event : TxEvent) (t tick : ℕ) (old new : PortState Home) (number : ℕ) (boxes after : List Pending) (moves noted : List Move) (turns : List TxTurn) →
    SenderStands t old.view turns s → t ≤ tick → InOrder event tick turns → (set_of u.machine).shape ≡ u.shape → (set_of s.machine).shape ≡ s.shape →
    (told : TellsSender s u event tick old new number boxes after moves noted) → SenderStands tick new.view (sent-of event told.did ∷ turns) u
sender-turn s u event t tick old new number boxes after moves noted turns stands by order own_shape was_shape told =
    let did = told.did in
    let set : TxSet = set_of s.machine in
    let row : TxStep set (state_after tx_new turns) event did = (let Q : TxState → Type 0 = λ x. TxStep set x event did in subst Q stands.state told.row) in
    let K : ℕ → Type 0 = λ k. InOrder event k turns in
    let H : TxSet → Type 0 = λ x. HasSent x (sent-of event did ∷ turns) in
    let O : TxSet → Type 0 = λ x. new.view.readings x.path.0 x.dest.0 ≡ (own_view (calls_by turns ++ did.calls)).readings x.path.0 x.dest.0 in
    let F : Shape → Type 0 = λ shape. FitsIn shape (box_after (sent-of event did ∷ turns)) in
    let A : Shape → Type 0 = λ shape. FitsAct shape did.act in
    let same : s.shape ≡ u.shape = sym was_shape ∙ ap (λ (x : TxSet). x.shape) (sym told.set) ∙ own_shape in
    let both = has-then did.act (StillHasFrame event (state_of s.machine).live) (state_of u.machine).live (box_once event (box_after turns)) told.boxed (has-still event (state_of s.machine).live (box_after turns) (stands.has, stands.had)) in
    record {
      happened = subst H (sym told.set) (omega (arith, told.tick_is, stands.now), (subst K (sym told.tick_is) order, row), stands.happened);
      state = told.state;
      knows = told.knows;
      now = omega (arith, told.tick_is);
      since = told.since;
      fits = subst F same (fits-put s.shape did.act (box_once event (box_after turns)) (subst A was_shape (frame-act set (state_after tx_new turns) event did row)) (fits-frame s.shape event (box_after turns) stands.fits));
      has = both.0;
      had = both.1;
      dests = told.dests ∙ ap (λ l. l ++ did.records) stands.dests;
      own = subst O (sym told.set) (readings-grown set.path.0 set.dest.0 (calls_by turns) did.calls old.view new.view told.grown stands.own);
      made = made-more (calls_by turns) did.calls old.view new.view told.grown stands.made;
    }

-- steps of others
pub sender-stays : (s : Sending) (t tick : ℕ) (others : List Event) (v w : View) (turns : List TxTurn) →
    SenderStands t v turns s → t ≤ tick → w ≡ grows others v → w.readings (set_of s.machine).path.0 (set_of s.machine).dest.0 ≡ v.readings (set_of s.machine).path.0 (set_of s.machine).dest.0 → SenderStands tick w turns s
sender-stays s t tick others v w turns stands by grown same = record {
  happened = stands.happened;
  state = stands.state;
  knows = port-stays v w s.machine same stands.knows;
  now = omega (arith, stands.now);
  since = omega (arith, stands.since);
  fits = stands.fits;
  has = stands.has;
  had = stands.had;
  dests = stands.dests;
  own = same ∙ stands.own;
  made = made-stays (calls_by turns) others v w grown stands.made;
}
