-- One more step of the sender, and all stands.
use Rattle.std.proofs.Common.{◌≡◌, ℕ, ◌≤◌, Option, List, ◌∷◌, ◌++◌, sym, subst, ap, ◌∙◌, arith}
use Rattle.tp_sender.specs.Runs.{InOrder, box_after, box_once, left_by, written_at}
use Rattle.tp_unit.specs.Box.{Written, box_then}
use Rattle.hub_core.specs.Turns.{state_after}
use Rattle.tp_sender.specs.Port.{Knows as KnowsPort}
use Rattle.hub_core.specs.Moves.{moves_in}
use Rattle.tp_receiver.specs.State.{RxTurn}
use Rattle.hub_core.specs.View.{View, grows}
use Rattle.hub_core.specs.declared.plain.PlainHub.{PlainHub}
use Rattle.hub_core.specs.declared.record.DestRecord.{DestRecord}
use Rattle.hub_core.specs.declared.record.SessionRecord.{SessionRecord}
use Rattle.tp_receiver.specs.declared.receiver.Receiver.{Receiver}
use Rattle.tp_receiver.specs.declared.set.RxSet.{RxSet}
use Rattle.tp_sender.specs.State.{HasFrame, StillHasFrame, TxState, state_of, TxTurn, tx_new}
use Rattle.tp_sender.specs.Table.{TxStep}
use Rattle.tp_sender.specs.declared.event.TxEvent.{TxEvent}
use Rattle.tp_sender.specs.declared.sender.Sender.{Sender}
use Rattle.tp_sender.specs.declared.set.TxSet.{TxSet}
use Rattle.tp_unit.specs.Unit.{Meaning}
use Rattle.tp_unit.specs.declared.shape.Shape.{Shape}
use Rattle.gw_run.specs.Standing.{FitsIn, Lies, RxStands, Stands, TxStands, lying, view_in}
use Rattle.gw_run.specs.Telling.{TellsSender, TxStepped}
use Rattle.gw_run.specs.declared.gateway.Gateway.{Gateway}
use Rattle.gw_run.proofs.Lying.{Both, fits-frame, fits-offered, fits-put, has-still, has-then}
use Rattle.gw_run.proofs.RxTurns.{moves-grows}
use Rattle.gw_run.proofs.Same.{knows-same, waits-later}
use Rattle.tp_sender.proofs.Own.{own}

-- the step is one from where the earlier ones led
pub row-of : (tx : TxSet) (t tick : ℕ) (moments : List TxTurn) (view : View) (sender next : Sender) (lies : Option Meaning) (frames : List Written) (dests : List DestRecord) (hub new : PlainHub) (event : TxEvent) (turn : TxTurn) →
    TxStands tx t moments view sender lies frames dests → TxStepped sender hub next new event tick turn → TxStep tx (state_after tx_new moments) turn.event turn.did
row-of tx t tick moments view sender next lies frames dests hub new event turn stands st =
    let P : TxSet → Type 0 = λ s. TxStep s (state_after tx_new moments) turn.event turn.did in
    let Q : TxState → Type 0 = λ s. TxStep sender.set s turn.event turn.did in
    subst P stands.set (subst Q stands.state st.row)

-- the sender's part
sender-moment : (tx : TxSet) (t tick : ℕ) (moments : List TxTurn) (view later : View) (sender next : Sender) (lies now : Option Meaning) (frames after : List Written) (dests told : List DestRecord) (hub new : PlainHub) (event : TxEvent) (turn : TxTurn) →
    TxStands tx t moments view sender lies frames dests → t ≤ tick → InOrder event tick moments → TxStepped sender hub next new event tick turn → view_in new ≡ later → now ≡ box_then turn.did.act (box_once event lies) →
    after ≡ frames ++ written_at tx.shape event tick lies → told ≡ dests ++ turn.did.records → TxStands tx tick (turn ∷ moments) later next now after told
sender-moment tx t tick moments view later sender next lies now frames after dests told hub new event turn stands by order st later_is now_is after_is told_is =
    let row = row-of tx t tick moments view sender next lies frames dests hub new event turn stands st in
    let E : TxEvent → Type 0 = λ e. InOrder e turn.did.tick moments in
    let K : ℕ → Type 0 = λ k. InOrder event k moments in
    let B : Option Meaning → Type 0 = λ l. Both (HasFrame (state_of next).live) (Lies l) in
    let both : B now = subst B (sym now_is) (has-then turn.did.act (StillHasFrame event (state_of sender).live) (state_of next).live (box_once event lies) st.boxed (has-still event (state_of sender).live lies (stands.has, stands.had))) in
    record {
      happened = (omega (arith, st.tick_is, stands.now), (subst E (sym st.event_is) (subst K (sym st.tick_is) order), row), stands.happened);
      set = st.set ∙ stands.set;
      state = st.state;
      knows = (let P : View → Type 0 = λ v. KnowsPort v next in subst P later_is st.knows);
      now = omega (arith, st.tick_is);
      since = st.since;
      lies_is = now_is ∙ ap (λ l. box_then turn.did.act (box_once event l)) stands.lies_is ∙ ap (λ e. box_then turn.did.act (box_once e (box_after moments))) (sym st.event_is);
      fits = subst (FitsIn tx.shape) (sym now_is) (fits-put tx.shape turn.did.act (box_once event lies) (fits-offered tx turn.did.act (own tx (state_after tx_new moments) turn.event turn.did row).act) (fits-frame tx.shape event lies stands.fits));
      has = both.0;
      had = both.1;
      frames_are = after_is ∙ ap (λ l. l ++ written_at tx.shape event tick lies) stands.frames_are
          ∙ ap (λ l. left_by tx.shape moments ++ written_at tx.shape event tick l) stands.lies_is
          ∙ ap (λ e. left_by tx.shape moments ++ written_at tx.shape e tick (box_after moments)) (sym st.event_is)
          ∙ ap (λ k. left_by tx.shape moments ++ written_at tx.shape turn.event k (box_after moments)) (sym st.tick_is);
      dests_are = told_is ∙ ap (λ l. l ++ turn.did.records) stands.dests_are;
    }

-- the receiver's part stays
pub receiver-stays : (rx : RxSet) (shape : Shape) (t tick : ℕ) (turns : List RxTurn) (view later : View) (receiver : Receiver) (lies : Option Meaning) (controls : List Written) (sessions : List SessionRecord) →
    later.sessions ≡ view.sessions → t ≤ tick → RxStands rx shape t turns view receiver lies controls sessions → RxStands rx shape tick turns later receiver lies controls sessions
receiver-stays rx shape t tick turns view later receiver lies controls sessions same by s = record {
  happened = s.happened;
  set = s.set;
  state = s.state;
  knows = knows-same view later receiver same s.knows;
  number = s.number;
  now = omega (arith, s.now);
  waits = waits-later receiver t tick by s.waits;
  lies_is = s.lies_is;
  fits = s.fits;
  controls_are = s.controls_are;
  sessions_are = s.sessions_are;
}

-- all of it
pub moment-stands : (sizes : List ℕ) (g h : Gateway) (t tick : ℕ) (turns : List RxTurn) (moments : List TxTurn) (view : View) (event : TxEvent) → Stands sizes g t turns moments view → t ≤ tick → InOrder event tick moments →
    (told : TellsSender g h event tick (box_once event (lying g.frame)) (g.frames ++ written_at g.machines.tx.shape event tick (lying g.frame))) →
    Stands sizes h tick turns (told.turn ∷ moments) (grows told.turn.did.calls view)
moment-stands sizes g h t tick turns moments view event s by order told =
    let turn = told.turn in
    let st = told.stepped in
    let pool = s.pool in
    let grown : view_in h.hub ≡ grows turn.did.calls view = st.grown ∙ ap (λ v. grows turn.did.calls v) pool.view_is in
    let sessions : (grows turn.did.calls view).sessions ≡ view.sessions = sym (ap (λ (v : View). v.sessions) grown) ∙ st.sessions ∙ ap (λ (v : View). v.sessions) pool.view_is in
    let row = row-of g.machines.tx t tick moments view g.sender h.sender (lying g.frame) g.frames g.dests g.hub h.hub event turn s.sends st in
    let R : Gateway → Type 0 = λ x. RxStands x.machines.rx x.machines.shape tick turns (grows turn.did.calls view) x.receiver (lying x.control) x.controls x.sessions in
    let T : Gateway → Type 0 = λ x. TxStands x.machines.tx tick (turn ∷ moments) (grows turn.did.calls view) h.sender (lying h.frame) h.frames h.dests in
    record {
      receives = subst R (sym told.rest) (receiver-stays g.machines.rx g.machines.shape t tick turns view (grows turn.did.calls view) g.receiver (lying g.control) g.controls g.sessions sessions by s.receives);
      sends = subst T (sym told.rest) (sender-moment g.machines.tx t tick moments view (grows turn.did.calls view) g.sender h.sender (lying g.frame) (lying h.frame) g.frames h.frames g.dests h.dests g.hub h.hub event turn s.sends by order st grown told.lies_is told.frames_are told.dests);
      pool = record {
        view_is = grown;
        groups = st.groups ∙ pool.groups;
        takes = omega (arith, st.takes, pool.takes);
        moves_are = told.moves ∙ ap (λ l. l ++ moves_in turn.did.calls) pool.moves_are ∙ sym (moves-grows turn.did.calls view);
      };
    }
