-- One more turn of the receiver, and all stands.
use Rattle.std.proofs.Common.{◌≡◌, ℕ, ◌+◌, ◌≤◌, Option, List, [], ◌∷◌, ◌++◌, length, map, refl, sym, subst, ap, ◌∙◌, append-nil, append_assoc, length-append, arith}
use Rattle.tp_sender.specs.State.{TxTurn}
use Rattle.tp_unit.specs.Box.{Written, box_then}
use Rattle.tp_receiver.specs.Port.{Knows, takes_for}
use Rattle.tp_receiver.specs.State.{RxEvent, RxDid, RxState, Came, Timer, FcLeft, RunEnd, RxTurn, rx_new}
use Rattle.hub_core.specs.Moves.{move_of, moves_in, moves_of}
use Rattle.tp_receiver.specs.Table.{RxStep}
use Rattle.hub_core.specs.Turns.{came_by, state_after}
use Rattle.tp_receiver.specs.Runs.{frames_in}
use Rattle.std.proofs.lemmas.List.{map-append}
use Rattle.hub_core.specs.View.{View, Event, grow, grows}
use Rattle.hub_core.specs.View.{Taken, Took, Refused, Entered, Asked, Put, Published, Joining, Missed, Saw, Read, Closed, Parted}
use Rattle.hub_core.specs.declared.plain.PlainHub.{PlainHub}
use Rattle.hub_core.specs.declared.record.DestRecord.{DestRecord}
use Rattle.hub_core.specs.declared.record.SessionRecord.{SessionRecord}
use Rattle.tp_receiver.specs.declared.receiver.Receiver.{Receiver}
use Rattle.tp_receiver.specs.declared.set.RxSet.{RxSet}
use Rattle.tp_sender.specs.declared.sender.Sender.{Sender}
use Rattle.tp_sender.specs.declared.set.TxSet.{TxSet}
use Rattle.tp_unit.specs.Unit.{Meaning}
use Rattle.tp_unit.specs.declared.shape.Shape.{Shape}
use Rattle.tp_receiver.specs.Runs.{control_at, control_once}
use Rattle.receiver_law.proofs.runs.Offers.{offered-fits-shape}
use Rattle.gw_run.specs.Standing.{FitsIn, RxStands, Stands, TxStands, lying, view_in}
use Rattle.gw_run.specs.Telling.{RxStepped, TellsReceiver}
use Rattle.gw_run.specs.declared.gateway.Gateway.{Gateway}
use Rattle.gw_run.proofs.Lying.{fits-control, fits-offers, fits-put}
use Rattle.gw_run.proofs.Same.{port-same}

-- the moves of a view are those of its calls
moves-grow : (call : Event) (v : View) → map move_of (grow call v).changes ≡ map move_of v.changes ++ moves_of call
unfolding grow
moves-grow (Took group number buf size need) v = map-append move_of v.changes (Taken number buf need ∷ [])
moves-grow (Refused group number free need) v = sym (append-nil (map move_of v.changes))
moves-grow (Entered path seq buf number size len readers) v = sym (append-nil (map move_of v.changes))
moves-grow (Asked path seq cells readers) v = sym (append-nil (map move_of v.changes))
moves-grow (Put path seq cell) v = sym (append-nil (map move_of v.changes))
moves-grow (Published path seq bytes) v = sym (append-nil (map move_of v.changes))
moves-grow (Joining path dest seq buf len) v = sym (append-nil (map move_of v.changes))
moves-grow (Missed group path dest seq) v = sym (append-nil (map move_of v.changes))
moves-grow (Saw path dest seq cells bytes writer) v = sym (append-nil (map move_of v.changes))
moves-grow (Read path dest seq cell) v = sym (append-nil (map move_of v.changes))
moves-grow (Closed path seq freed) v = map-append move_of v.changes freed
moves-grow (Parted path dest seq freed) v = map-append move_of v.changes freed

pub moves-grows : (calls : List Event) (v : View) → map move_of (grows calls v).changes ≡ map move_of v.changes ++ moves_in calls
moves-grows [] v = sym (append-nil (map move_of v.changes))
moves-grows (call ∷ calls) v = moves-grows calls (grow call v) ∙ ap (λ ms. ms ++ moves_in calls) (moves-grow call v) ∙ append_assoc (map move_of v.changes) (moves_of call) (moves_in calls)

-- a frame that came is one more, and needs a take
came-takes : (tick : ℕ) (event : RxEvent) → length (frames_in tick event) ≡ takes_for event
came-takes tick (Came size meaning) = refl
came-takes tick Timer = refl
came-takes tick FcLeft = refl
came-takes tick RunEnd = refl

came-more : (turns : List RxTurn) (tick : ℕ) (event : RxEvent) → length (came_by frames_in turns ++ frames_in tick event) ≡ length (came_by frames_in turns) + takes_for event
came-more turns tick event = length-append (came_by frames_in turns) (frames_in tick event) ∙ ap (λ n. length (came_by frames_in turns) + n) (came-takes tick event)

-- the receiver's part
receiver-turn : (rx : RxSet) (shape : Shape) (t tick : ℕ) (turns : List RxTurn) (view later : View) (receiver next : Receiver) (lies now : Option Meaning) (controls after : List Written) (sessions told : List SessionRecord) (hub new : PlainHub) (event : RxEvent) (did : RxDid) →
    RxStands rx shape t turns view receiver lies controls sessions → t ≤ tick → RxStepped receiver hub next new event tick did → view_in new ≡ later → now ≡ box_then did.act (control_once event lies) →
    after ≡ controls ++ control_at shape event tick lies → told ≡ sessions ++ did.records → RxStands rx shape tick (record { event = event; did = did } ∷ turns) later next now after told
receiver-turn rx shape t tick turns view later receiver next lies now controls after sessions told hub new event did stands by st later_is now_is after_is told_is =
    let more = came-more turns did.tick event in
    let row : RxStep rx (state_after rx_new turns) event did = (let P : RxSet → Type 0 = λ s. RxStep s (state_after rx_new turns) event did in subst P stands.set (let Q : RxState → Type 0 = λ s. RxStep receiver.set s event did in subst Q stands.state st.row)) in
    record {
      happened = (omega (arith, st.tick_is, stands.now), row, stands.happened);
      set = st.set ∙ stands.set;
      state = st.state;
      knows = (let P : View → Type 0 = λ v. Knows v next in subst P later_is st.knows);
      number = omega (arith, more, st.number, stands.number);
      now = omega (arith, st.tick_is);
      waits = st.waits;
      lies_is = now_is ∙ ap (λ l. box_then did.act (control_once event l)) stands.lies_is;
      fits = subst (FitsIn shape) (sym now_is) (fits-put shape did.act _ (fits-offers shape did.act (λ meaning is. offered-fits-shape rx shape (state_after rx_new turns) event did meaning row is)) (fits-control shape event lies stands.fits));
      controls_are = after_is ∙ rw (stands.controls_are, ← st.tick_is, ← stands.lies_is) refl;
      sessions_are = told_is ∙ ap (λ l. l ++ did.records) stands.sessions_are;
    }

-- the sender's part stays
pub sender-stays : (tx : TxSet) (t tick : ℕ) (moments : List TxTurn) (view later : View) (sender : Sender) (lies : Option Meaning) (frames : List Written) (dests : List DestRecord) →
    later.readings ≡ view.readings → t ≤ tick → TxStands tx t moments view sender lies frames dests → TxStands tx tick moments later sender lies frames dests
sender-stays tx t tick moments view later sender lies frames dests same by s = record {
  happened = s.happened;
  set = s.set;
  state = s.state;
  knows = port-same view later sender same s.knows;
  now = omega (arith, s.now);
  since = omega (arith, s.since);
  lies_is = s.lies_is;
  fits = s.fits;
  has = s.has;
  had = s.had;
  frames_are = s.frames_are;
  dests_are = s.dests_are;
}

-- all of it
pub turn-stands : (sizes : List ℕ) (g h : Gateway) (t tick : ℕ) (turns : List RxTurn) (moments : List TxTurn) (view : View) (event : RxEvent) → Stands sizes g t turns moments view → t ≤ tick →
    (told : TellsReceiver g h event tick (control_once event (lying g.control)) (g.controls ++ control_at g.machines.shape event tick (lying g.control))) →
    Stands sizes h tick (record { event = event; did = told.did } ∷ turns) moments (grows told.did.calls view)
turn-stands sizes g h t tick turns moments view event s by told =
    let did = told.did in
    let st = told.stepped in
    let pool = s.pool in
    let grown : view_in h.hub ≡ grows did.calls view = st.grown ∙ ap (λ v. grows did.calls v) pool.view_is in
    let readings : (grows did.calls view).readings ≡ view.readings = sym (ap (λ (v : View). v.readings) grown) ∙ st.readings ∙ ap (λ (v : View). v.readings) pool.view_is in
    let more = came-more turns did.tick event in
    let R : Gateway → Type 0 = λ x. RxStands x.machines.rx x.machines.shape tick (record { event = event; did = did } ∷ turns) (grows did.calls view) h.receiver (lying h.control) h.controls h.sessions in
    let T : Gateway → Type 0 = λ x. TxStands x.machines.tx tick moments (grows did.calls view) x.sender (lying x.frame) x.frames x.dests in
    record {
      receives = subst R (sym told.rest) (receiver-turn g.machines.rx g.machines.shape t tick turns view (grows did.calls view) g.receiver h.receiver (lying g.control) (lying h.control) g.controls h.controls g.sessions h.sessions g.hub h.hub event did s.receives by st grown told.lies_is told.controls_are told.sessions);
      sends = subst T (sym told.rest) (sender-stays g.machines.tx t tick moments view (grows did.calls view) g.sender (lying g.frame) g.frames g.dests readings by s.sends);
      pool = record {
        view_is = grown;
        groups = st.groups ∙ pool.groups;
        takes = omega (arith, more, st.takes, pool.takes);
        moves_are = told.moves ∙ ap (λ l. l ++ moves_in did.calls) pool.moves_are ∙ sym (moves-grows did.calls view);
      };
    }
