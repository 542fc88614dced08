-- All so far, of every run of a sender and its channel.
use Rattle.std.proofs.Common.{◌≡◌, ℕ, Option, Some, None, List, [], ◌∷◌, ◌++◌, refl, ap, sym, subst, ◌∙◌, arith, append-nil}
use Rattle.std.proofs.lemmas.List.{map-append}
use Rattle.std.proofs.lemmas.List.Concat.{flat_map-append}
use Rattle.gw_base.specs.Cell.{bytes_of, cell_bytes}
use Rattle.flow_plan.specs.Pace.{Control}
use Rattle.tp_sender.specs.Runs.{HasSent, InOrder, box_after, cell_read, cells_in, clear_from, controls_in, left_by, len_joined, written_at}
use Rattle.tp_sender.specs.State.{TxTurn, tx_new, Transmission}
use Rattle.hub_core.specs.Turns.{calls_by, came_by, state_after}
use Rattle.tp_attempts.specs.Cuts.{Cut}
use Rattle.tp_attempts.specs.Seen.{Seen}
use Rattle.tp_sender.specs.declared.event.TxEvent.{TxEvent}
use Rattle.tp_sender.specs.declared.event.TxEvent.TheVariants.{Turn, Fc as CameFc, Left, RunEnd}
use Rattle.tp_sender.specs.declared.transmission.Phase.{Phase}
use Rattle.tp_sender.specs.declared.transmission.Phase.TheVariants.{Start, Bytes, Box, Fc, Gap}
use Rattle.tp_sender.specs.declared.set.TxSet.{TxSet}
use Rattle.tp_sender.specs.Effects.{Awaits, IsAwaiting, IsSettled}
use Rattle.tp_sender.proofs.Effects.{HoldsOf, of-step, step_done}
use Rattle.tp_unit.specs.declared.shape.Shape.{Shape}
use Rattle.tp_unit.specs.Shape.{IsShape, address_size}
use Rattle.sender_law.specs.Pacing.{control_of}
use Rattle.sender_law.specs.Transfer.{GoesOnWith, SendsFor, Transfer, TransferLaw, has_sent, seen_of, transfer_of}
use Rattle.std.specs.Prelude.{filter}
use Rattle.gw_base.proofs.Lists.{zip-weaker}
use Rattle.sender_law.proofs.transfers.TxLeaves.{sends-way}
use Rattle.sender_law.proofs.transfers.TxAnswers.{IsNotAwaiting, NotAwaiting, answers, ignored}
use Rattle.sender_law.proofs.transfers.TxMoves.{at_tick, later}
use Rattle.sender_law.proofs.transfers.TxStages.{IsTimely, LeadsOn, SoFarBut, asked, done_in, event_in, same-so}
use Rattle.sender_law.proofs.transfers.TxSteps.{law as of-effects}
use Rattle.sender_law.proofs.transfers.TxWorld.{GoesOn as Goes, HasSentFor, Lives, SoFar, Way, World, Unsent, UnderWay}

-- what the moments told, with the box and the numbers
abbrev pub world_of : TxSet → List TxTurn → World
world_of set moments = record { told = transfer_of set moments; box = box_after moments; clear = clear_from moments; next = (state_after tx_new moments).next }

-- the same with the tick of a step
abbrev pub before : TxSet → TxTurn → List TxTurn → World
before set m earlier = at_tick m.did.tick (world_of set earlier)

-- an event comes in the order of work
timely : (set : TxSet) (event : TxEvent) (tick : ℕ) (earlier : List TxTurn) → InOrder event tick earlier → IsTimely event tick (world_of set earlier).clear
timely set Turn tick earlier order = tt
timely set (CameFc fs bs st) tick earlier order = order
timely set Left tick earlier order = tt
timely set RunEnd tick earlier order = tt

-- no flow control is awaited
none-awaited : (phase : Phase) → (IsAwaiting phase → ⊥) → IsNotAwaiting phase
none-awaited Start out = tt
none-awaited Bytes out = tt
none-awaited Box out = tt
none-awaited Fc out = out tt
none-awaited (Gap until) out = tt

not-awaited : (live : Option Transmission) → (Awaits live → ⊥) → NotAwaiting live
not-awaited None out = tt
not-awaited (Some s) out = none-awaited s.phase out

-- what is left of an event at a step's end adds nothing more
over : (set : TxSet) (tick : ℕ) (left : Option TxEvent) (live : Option Transmission) (w : World) → w.told.live ≡ live → w.told.now ≡ tick → IsSettled left live → SoFarBut set tick left w → SoFar set.shape w
over set tick None live w is now settled so = so
over set tick (Some Turn) live w is now settled told = asked set tick Turn w tt told
over set tick (Some (CameFc fs bs st)) live w is now settled told =
    let a : Control = control_of set.period (record { tick = tick; status = fs; block_size = bs; separation = st }) in
    let v : World = told.before in
    let same : v.told.live ≡ live = sym (ap (λ (x : World). x.told.live) told.is) ∙ is in
    let at : v.told.now ≡ tick = sym (ap (λ (x : World). x.told.now) told.is) ∙ now in
    let P : World → Type 0 = λ x. SoFar set.shape x in
    let N : Option Transmission → Type 0 = λ l. NotAwaiting l in
    subst P (sym told.is) (same-so set.shape (answers a v.told.live v) (event_in set tick (CameFc fs bs st) v) refl (sym (append-nil v.told.frames)) refl refl (λ number. refl) refl refl refl refl refl refl
    (ignored set.shape v a (subst N (sym same) (not-awaited live settled)) (omega (arith, at)) told.timely told.so))
over set tick (Some Left) live w is now settled told = absurd settled
over set tick (Some RunEnd) live w is now settled told = absurd settled

-- the moments one by one
pub so-far : (set : TxSet) (moments : List TxTurn) → IsShape set.shape → HasSent set moments → SoFar set.shape (world_of set moments)
so-far set [] sound happened = record {
  address = refl;
  past = tt;
  clear_now = omega arith;
  numbered = tt;
  tells = tt;
  lens = refl;
  unread = λ number le. refl;
  ended = [];
  going = [];
  cut = refl;
  sends = tt;
  lives = (refl, refl);
}
so-far set (m ∷ earlier) sound happened =
    let w : World = before set m earlier in
    let came : World = event_in set m.did.tick m.event w in
    let so : SoFar set.shape w = later set.shape (world_of set earlier) m.did.tick happened.0 (so-far set earlier sound happened.2) in
    let is : HoldsOf (LeadsOn set m.did.tick) (state_after tx_new earlier) m.event m.did = of-step set (LeadsOn set m.did.tick) (state_after tx_new earlier) m.event m.did (of-effects set m.did.tick sound) happened.1.1 in
    let all : World = done_in (step_done m.did is.left is.look) came in
    let done : SoFar set.shape all = over set m.did.tick is.left m.did.new.live all refl refl is.settled
    (is.holds came (record { live = refl; next = refl; now = refl }) (record { before = w; is = refl; timely = timely set m.event m.did.tick earlier happened.1.0; so = so })) in
    same-so set.shape all (world_of set (m ∷ earlier)) refl (sym (map-append (seen_of (address_size set.shape)) (left_by set.shape earlier) (written_at set.shape m.event m.did.tick (box_after earlier))))
    (sym (map-append (control_of set.period) (came_by controls_in earlier) (controls_in m.did.tick m.event)))
    (sym (flat_map-append len_joined (calls_by earlier) m.did.calls))
    (λ number. sym (flat_map-append cell_bytes (cells_in number (calls_by earlier)) (cells_in number m.did.calls)) ∙ ap bytes_of (sym (flat_map-append (cell_read number) (calls_by earlier) m.did.calls)))
    refl refl refl refl refl refl done

-- the transmission that is going on
goes-by : (shape : Shape) (w : World) (s : Transmission) (going : List (Cut Seen)) (taken : List ℕ) → w.told.address ≡ address_size shape → (on : Goes shape w s going) →
    Way shape w.told.answers w.clear s.begin w.told.now s.len s.number s.sent s.block s.gap on.taken s.phase s.since going → GoesOnWith w.told w.told.now (Some s) going
goes-by shape w s going taken address on (Unsent none number bytes cuts early) = let P : List (Cut Seen) → Type 0 = λ l. GoesOnWith w.told w.told.now (Some s) l in subst P (sym cuts) none
goes-by shape w s going taken address on (UnderWay cut some cuts pieces way every ready) =
    let P : List (Cut Seen) → Type 0 = λ l. GoesOnWith w.told w.told.now (Some s) l in
    subst P (sym cuts) (refl, some, sends-way shape w.told s.seq s.len s.sent s.begin w.clear on.taken (on.offered ++ s.carried) cut address on.joined_is on.read on.sent way every)

goes-on : (shape : Shape) (w : World) (live : Option Transmission) (going : List (Cut Seen)) → w.told.address ≡ address_size shape → Lives shape w live going → GoesOnWith w.told w.told.now live going
goes-on shape w None going address lives = lives.0
goes-on shape w (Some s) going address on = goes-by shape w s going on.taken address on on.way

pub law : (set : TxSet) (moments : List TxTurn) → IsShape set.shape → HasSent set moments → TransferLaw (transfer_of set moments)
law set moments sound happened =
    let so : SoFar set.shape (world_of set moments) = so-far set moments sound happened in
    let t : Transfer = transfer_of set moments in
    record {
      numbered = so.numbered;
      told = so.tells;
      ended = so.ended;
      going = so.going;
      cut = so.cut;
      sends = zip-weaker (HasSentFor t (clear_from moments)) (SendsFor t) so.ended (filter has_sent t.records) (λ cut told sent. sent.sends) so.sends;
      goes_on = goes-on set.shape (world_of set moments) (state_after tx_new moments).live so.going so.address so.lives;
    }

-- no transmission goes on where no session is being sent
pub none-going : (t : Transfer) (now : ℕ) (live : Option Transmission) (going : List (Cut Seen)) → live ≡ None → GoesOnWith t now live going → going ≡ []
none-going t now None going is goes = goes
none-going t now (Some s) going is goes = cc
