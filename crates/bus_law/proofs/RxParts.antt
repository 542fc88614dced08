-- What a channel's receiver did in a tick is a part of a run.
use Rattle.std.proofs.Common.{◌≡◌, ℕ, true, Option, None, Some, List, [], ◌∷◌, ◌++◌, refl, ap, sym, ◌∙◌, subst, append-nil}
use Rattle.can_frame.specs.Frame.{CanFrame}
use Rattle.receiver_law.specs.RxRun.{IsLeftIn, IsRxPart}
use Rattle.tp_receiver.specs.Runs.{control_after}
use Rattle.tp_receiver.specs.State.{Timer}
use Rattle.tp_receiver.specs.declared.set.RxSet.{RxSet}
use Rattle.tp_unit.specs.Box.{Leaves, Nothing, Went, Stays, Written, left_in}
use Rattle.tp_unit.specs.Unit.{Meaning}
use Rattle.tp_unit.specs.declared.shape.Shape.{Shape}
use Rattle.tx_mailbox.specs.Boxes.{Pending, content}
use Rattle.gw_base.proofs.Lists.{same-some}
use Rattle.gw_law.specs.Account.{is_full_for}
use Rattle.bus_worker.proofs.ActLists.{received-append}
use Rattle.bus_worker.proofs.Configured.{receiver-as}
use Rattle.bus_worker.proofs.Finishing.{receives-within}
use Rattle.bus_worker.specs.Acts.{Act, received_at}
use Rattle.bus_worker.specs.Emission.{AreLeaving, all_sent_in}
use Rattle.bus_worker.specs.History.{BusTick, IsBusTick}
use Rattle.bus_worker.specs.Phases.{OneReceived}
use Rattle.bus_worker.specs.Stands.{control_box, framed, receiver_at, receives_at}
use Rattle.bus_worker.specs.declared.channel.Channel.{Channel}
use Rattle.bus_worker.specs.declared.comes.Comes.{Comes}
use Rattle.bus_law.proofs.Came.{all-came}
use Rattle.bus_law.proofs.Emitting.{Emits, Nothing as NothingLay, Went as WentOut, Stayed, emits, full-for}
use Rattle.bus_law.proofs.Leaving.{none-received, one-received}
use Rattle.bus_law.specs.Runs.{tick_acts}

pub framed-none : (shape : Shape) (lies : Option Meaning) → framed shape lies ≡ None → lies ≡ None
framed-none shape None is = refl
framed-none shape (Some meaning) is = absurd cc

pub framed-some : (shape : Shape) (lies : Option Meaning) (frame : CanFrame) → framed shape lies ≡ Some frame → (meaning : Meaning) × (lies ≡ Some meaning) × (frame.id ≡ shape.id)
framed-some shape None frame is = absurd cc
framed-some shape (Some meaning) frame is = (meaning, refl, sym (ap (λ (f : CanFrame). f.id) (same-some refl is)))

-- what lay in the receiver's box left, or its bus was full for it
leaves-by : (budget tick place : ℕ) (shape : Shape) (left : List Written) (out : List Pending) (done : List Act) (lies : Option Meaning) → left_in tick left ≡ all_sent_in tick out → AreLeaving tick out done →
    Emits budget (control_box place) (framed shape lies) out → Leaves (IsLeftIn tick) (is_full_for budget left shape.id) tick lies (received_at place done)
leaves-by budget tick place shape left out done lies is told (NothingLay empty none) = Nothing (framed-none shape lies empty) (none-received tick place out done told none)
leaves-by budget tick place shape left out done lies is told (WentOut frame there one) =
    let so = framed-some shape lies frame there in
    let turn = one-received tick place out done told one in
    Went so.0 turn.turn so.1 turn.turns_are turn.is
leaves-by budget tick place shape left out done lies is told (Stayed frame there none many all) =
    let so = framed-some shape lies frame there in
    let full : is_full_for budget left frame.id tick ≡ true = full-for budget tick frame.id left out is many all in
    Stays so.0 so.1 (none-received tick place out done told none) (ap (λ id. is_full_for budget left id tick) (sym so.2) ∙ full)

-- the receiver's turns of a tick, phase by phase
module _ (budget : ℕ) (routes : List Comes) (channels : List Channel) (earlier : List Act) (t : BusTick) (is : IsBusTick budget routes channels earlier t) (place : ℕ) (one : RxSet × Shape) (there : receives_at channels place ≡ Some one) where
  timer : OneReceived t.tick Timer (received_at place t.timers)
  timer = is.timed.each place one (receives-within channels place one there) there

  before-left : (acts : List Act) → received_at place (t.turns ++ (t.timers ++ acts)) ≡ timer.turn ∷ received_at place acts
  before-left acts =
      received-append place t.turns (t.timers ++ acts) ∙ ap (λ l. l ++ received_at place (t.timers ++ acts)) (is.turned.receivers place)
      ∙ received-append place t.timers acts ∙ ap (λ l. l ++ received_at place acts) timer.turns_are

  turns-are : received_at place (tick_acts t) ≡ received_at place t.left ++ timer.turn ∷ received_at place t.came
  turns-are =
      received-append place t.left (t.turns ++ (t.timers ++ (t.came ++ []))) ∙ ap (λ l. received_at place t.left ++ l) (before-left (t.came ++ []) ∙ ap (λ l. timer.turn ∷ received_at place l) (append-nil t.came))

  lies-then : content (control_box place) is.before ≡ framed one.1 (control_after (timer.turn ∷ (received_at place t.came ++ received_at place earlier)))
  lies-then =
      let so = receiver-as (receiver_at channels place) channels place one refl there in
      is.lay.controls place so.0 so.1
      ∙ ap (λ (shape : Shape). framed shape (control_after (received_at place (t.turns ++ (t.timers ++ (t.came ++ earlier)))))) so.2
      ∙ ap (λ l. framed one.1 (control_after l)) (before-left (t.came ++ earlier) ∙ ap (λ l. timer.turn ∷ l) (received-append place t.came earlier))

  pub rx-part : (left : List Written) → left_in t.tick left ≡ all_sent_in t.tick t.out → IsRxPart (is_full_for budget left one.1.id) (received_at place earlier) (record { tick = t.tick; turns = received_at place (tick_acts t) })
  rx-part left left_is =
      let E : Option CanFrame → Type 0 = λ lies. Emits budget (control_box place) lies t.out in
      record {
        came = received_at place t.came;
        timer = timer.turn;
        left = received_at place t.left;
        turns_are = turns-are;
        came_only = all-came t.tick place routes channels t.frames t.came is.heard;
        timer_is = timer.event_is;
        timer_tick = timer.tick_is;
        left_is = leaves-by budget t.tick place one.1 left t.out t.left (control_after (timer.turn ∷ (received_at place t.came ++ received_at place earlier))) left_is is.told (subst E lies-then (emits budget (control_box place) is.before t.out is.after is.emitted));
      }
