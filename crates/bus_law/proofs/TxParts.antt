-- What a destination's sender did in a tick is a part of a run.
use Rattle.std.proofs.Common.{◌≡◌, ℕ, true, Option, Some, List, [], ◌∷◌, ◌++◌, refl, ap, sym, ◌∙◌, subst, append-nil}
use Rattle.can_frame.specs.Frame.{CanFrame}
use Rattle.sender_law.specs.Parts.{IsStepIn, IsTxPart}
use Rattle.tp_sender.specs.Runs.{box_after}
use Rattle.tp_sender.specs.declared.event.TxEvent.TheVariants.{Left, Turn}
use Rattle.tp_sender.specs.declared.set.TxSet.{TxSet}
use Rattle.tp_unit.specs.Box.{Leaves, Nothing, Went, Stays, Written, left_in}
use Rattle.tp_unit.specs.Unit.{Meaning}
use Rattle.tp_unit.specs.declared.shape.Shape.{Shape}
use Rattle.tx_mailbox.specs.Boxes.{Pending, content}
use Rattle.gw_law.specs.Account.{is_full_for}
use Rattle.bus_worker.proofs.ActLists.{sent-append}
use Rattle.bus_worker.proofs.Configured.{sender-as}
use Rattle.bus_worker.proofs.Finishing.{sends-within}
use Rattle.bus_worker.specs.Acts.{Act, sent_at}
use Rattle.bus_worker.specs.Emission.{AreLeaving, all_sent_in}
use Rattle.bus_worker.specs.History.{BusTick, IsBusTick}
use Rattle.bus_worker.specs.Phases.{OneSent}
use Rattle.bus_worker.specs.Stands.{frame_box, framed, sender_at, sends_at}
use Rattle.bus_worker.specs.declared.channel.Channel.{Channel}
use Rattle.bus_worker.specs.declared.comes.Comes.{Comes}
use Rattle.bus_law.proofs.Came.{all-answers}
use Rattle.bus_law.proofs.Emitting.{Emits, Nothing as NothingLay, Went as WentOut, Stayed, emits, full-for}
use Rattle.bus_law.proofs.Leaving.{none-sent, one-sent}
use Rattle.bus_law.proofs.RxParts.{framed-none, framed-some}
use Rattle.bus_law.specs.Runs.{tick_acts}

-- what lay in the sender's box left, or its bus was full for it
leaves-by : (budget tick place : ℕ) (shape : Shape) (left : List Written) (out : List Pending) (done : List Act) (lies : Option Meaning) → left_in tick left ≡ all_sent_in tick out → AreLeaving tick out done →
    Emits budget (frame_box place) (framed shape lies) out → Leaves (IsStepIn tick Left) (is_full_for budget left shape.id) tick lies (sent_at place done)
leaves-by budget tick place shape left out done lies is told (NothingLay empty none) = Nothing (framed-none shape lies empty) (none-sent tick place out done told none)
leaves-by budget tick place shape left out done lies is told (WentOut frame there one) =
    let so = framed-some shape lies frame there in
    let turn = one-sent tick place out done told one in
    Went so.0 turn.turn so.1 turn.turns_are turn.is
leaves-by budget tick place shape left out done lies is told (Stayed frame there none many all) =
    let so = framed-some shape lies frame there in
    let full : is_full_for budget left frame.id tick ≡ true = full-for budget tick frame.id left out is many all in
    Stays so.0 so.1 (none-sent tick place out done told none) (ap (λ id. is_full_for budget left id tick) (sym so.2) ∙ full)

-- the sender's turns of a tick, phase by phase
module _ (budget : ℕ) (routes : List Comes) (channels : List Channel) (earlier : List Act) (t : BusTick) (is : IsBusTick budget routes channels earlier t) (place : ℕ) (set : TxSet) (there : sends_at channels place ≡ Some set) where
  own-turn : OneSent t.tick Turn (sent_at place t.turns)
  own-turn = is.turned.each place set (sends-within channels place set there) there

  before-left : (acts : List Act) → sent_at place (t.turns ++ (t.timers ++ acts)) ≡ own-turn.turn ∷ sent_at place acts
  before-left acts =
      sent-append place t.turns (t.timers ++ acts) ∙ ap (λ l. l ++ sent_at place (t.timers ++ acts)) own-turn.turns_are
      ∙ ap (λ l. own-turn.turn ∷ l) (sent-append place t.timers acts ∙ ap (λ l. l ++ sent_at place acts) (is.timed.senders place))

  turns-are : sent_at place (tick_acts t) ≡ sent_at place t.left ++ own-turn.turn ∷ sent_at place t.came
  turns-are =
      sent-append place t.left (t.turns ++ (t.timers ++ (t.came ++ []))) ∙ ap (λ l. sent_at place t.left ++ l) (before-left (t.came ++ []) ∙ ap (λ l. own-turn.turn ∷ sent_at place l) (append-nil t.came))

  lies-then : content (frame_box place) is.before ≡ framed set.shape (box_after (own-turn.turn ∷ (sent_at place t.came ++ sent_at place earlier)))
  lies-then =
      let so = sender-as (sender_at channels place) channels place set refl there in
      is.lay.frames place so.0 so.1
      ∙ ap (λ (shape : Shape). framed shape (box_after (sent_at place (t.turns ++ (t.timers ++ (t.came ++ earlier)))))) so.2
      ∙ ap (λ l. framed set.shape (box_after l)) (before-left (t.came ++ earlier) ∙ ap (λ l. own-turn.turn ∷ l) (sent-append place t.came earlier))

  pub tx-part : (left : List Written) → left_in t.tick left ≡ all_sent_in t.tick t.out → IsTxPart (is_full_for budget left set.shape.id) (sent_at place earlier) (record { tick = t.tick; turns = sent_at place (tick_acts t) })
  tx-part left left_is =
      let E : Option CanFrame → Type 0 = λ lies. Emits budget (frame_box place) lies t.out in
      record {
        answers = sent_at place t.came;
        turn = own-turn.turn;
        left = sent_at place t.left;
        turns_are = turns-are;
        answers_only = all-answers t.tick place routes channels t.frames t.came is.heard;
        turn_is = own-turn.event_is;
        turn_tick = own-turn.tick_is;
        left_is = leaves-by budget t.tick place set.shape left t.out t.left (box_after (own-turn.turn ∷ (sent_at place t.came ++ sent_at place earlier))) left_is is.told (subst E lies-then (emits budget (frame_box place) is.before t.out is.after is.emitted));
      }
