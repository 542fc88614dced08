-- The frames of which a channel's receiver was told are those of the bus that are the channel's.
use Rattle.std.proofs.Common.{◌≡◌, ◌≢◌, inl, inr, ℕ, Bool, true, false, cond, Some, List, [], ◌∷◌, ◌++◌, length, refl, ap, sym, ◌∙◌, append-nil}
use Rattle.std.specs.Prelude.{All, slice_get}
use Rattle.std.proofs.lemmas.Bool.{cases_eq}
use Rattle.std.proofs.lemmas.List.{map-append}
use Rattle.std.proofs.lemmas.List.Elements.{filter-append}
use Rattle.can_frame.specs.Frame.{CanFrame}
use Rattle.gw_base.proofs.Lists.{same-some}
use Rattle.hub_core.proofs.Cut.{all-there}
use Rattle.hub_core.proofs.Turns.{came-append}
use Rattle.hub_core.specs.Turns.{came_by}
use Rattle.tp_attempts.specs.Seen.{Seen, seen_frame}
use Rattle.tp_receiver.specs.Runs.{frames_in}
use Rattle.tp_receiver.specs.State.{Came, RunEnd, RxEvent, RxTurn}
use Rattle.tp_receiver.specs.declared.set.RxSet.{RxSet}
use Rattle.tp_unit.specs.Reading.{unit_of}
use Rattle.tp_unit.specs.Unit.{Meaning}
use Rattle.tp_unit.specs.declared.shape.Shape.{Shape}
use Rattle.gw_law.specs.Channels.{InTick, bytes_of_address, frames_for, is_addressed, seen_in}
use Rattle.bus_worker.proofs.ActLists.{received-append}
use Rattle.bus_worker.proofs.Counted.{timers-come, turns-come}
use Rattle.bus_worker.proofs.HeardAll.{answer-receives}
use Rattle.bus_worker.proofs.OneTick.{leaving-comes}
use Rattle.bus_worker.specs.Acts.{Act, received_at}
use Rattle.bus_worker.specs.Comes.{address_of}
use Rattle.bus_worker.specs.Hearing.{AreHeard, IsHeard, Nowhere, Somewhere}
use Rattle.bus_worker.specs.History.{AreBusTicks, BusTick, acts_in, all_came_in, came_in}
use Rattle.bus_worker.specs.Phases.{OneReceived}
use Rattle.bus_worker.specs.Stands.{receives_at}
use Rattle.bus_worker.specs.declared.channel.Channel.{Channel}
use Rattle.bus_worker.specs.declared.comes.Comes.{Comes}
use Rattle.bus_law.specs.Apart.{AreApartOnBus}
use Rattle.bus_law.specs.Laws.{FramesCome}

-- of some frames those of a channel, as reassembly sees them
abbrev pub seen-of : Comes → List InTick → List Seen
seen-of comes frames = seen_in (bytes_of_address comes.byte) (frames_for (address_of comes) frames)

pub seen-append : (comes : Comes) (xs ys : List InTick) → seen-of comes (xs ++ ys) ≡ seen-of comes xs ++ seen-of comes ys
seen-append comes xs ys =
    ap (seen_in (bytes_of_address comes.byte)) (filter-append (λ (f : InTick). is_addressed (address_of comes) f.frame) xs ys)
    ∙ map-append (λ (f : InTick). seen_frame (bytes_of_address comes.byte) f.tick f.frame) (frames_for (address_of comes) xs) (frames_for (address_of comes) ys)

abbrev pub in-tick : ℕ → CanFrame → InTick
in-tick tick frame = record { tick = tick; frame = frame }

seen-one : (comes : Comes) (tick : ℕ) (frame : CanFrame) (own : Bool) → is_addressed (address_of comes) frame ≡ own → seen-of comes (in-tick tick frame ∷ []) ≡ cond own (seen_frame (bytes_of_address comes.byte) tick frame ∷ []) []
seen-one comes tick frame true is = ap (λ b. seen_in (bytes_of_address comes.byte) (cond b (in-tick tick frame ∷ []) [])) is
seen-one comes tick frame false is = ap (λ b. seen_in (bytes_of_address comes.byte) (cond b (in-tick tick frame ∷ []) [])) is

one-seen : (tick size : ℕ) (meaning : Meaning) (turns : List RxTurn) → OneReceived tick (Came size meaning) turns → came_by frames_in turns ≡ record { at = tick; size = size; meaning = meaning } ∷ []
one-seen tick size meaning turns one =
    ap (came_by frames_in) one.turns_are ∙ ap (λ (e : RxEvent). frames_in one.turn.did.tick e) one.event_is ∙ ap (λ t. let s : Seen = record { at = t; size = size; meaning = meaning } in s ∷ []) one.tick_is

-- no frame of another channel is this one's
pub not-own : (own : Bool) (routes : List Comes) (channels : List Channel) (place other : ℕ) (comes another : Comes) (frame : CanFrame) → AreApartOnBus routes channels → slice_get routes place ≡ Some comes → slice_get routes other ≡ Some another →
    is_addressed (address_of another) frame ≡ true → place ≢ other → is_addressed (address_of comes) frame ≡ own → own ≡ false
not-own false routes channels place other comes another frame apart is also addressed ne own = refl
not-own true routes channels place other comes another frame apart is also addressed ne own = absurd (ne (apart.comes place other comes another frame is also own addressed))

pub none-own : (routes : List Comes) (place : ℕ) (comes : Comes) (frame : CanFrame) → All (λ (c : Comes). is_addressed (address_of c) frame ≡ false) routes → slice_get routes place ≡ Some comes → is_addressed (address_of comes) frame ≡ false
none-own routes place comes frame all is = all-there (λ (c : Comes). is_addressed (address_of c) frame ≡ false) routes place comes all is

module _ (routes : List Comes) (channels : List Channel) (apart : AreApartOnBus routes channels) (place : ℕ) (comes : Comes) (is : slice_get routes place ≡ Some comes) (one : RxSet × Shape) (there : receives_at channels place ≡ Some one) where
  heard-seen : (tick : ℕ) (frame : CanFrame) (done : List Act) → IsHeard tick routes channels frame done → came_by frames_in (received_at place done) ≡ seen-of comes (in-tick tick frame ∷ [])
  heard-seen tick frame done (Nowhere none done_is) =
      ap (λ (l : List Act). came_by frames_in (received_at place l)) done_is ∙ sym (seen-one comes tick frame false (none-own routes place comes frame none is))
  heard-seen tick frame done (Somewhere other to frames answers done_is heard answer) =
      let meaning : Meaning = unit_of (bytes_of_address to.comes.byte) frame in
      let received : received_at place done ≡ received_at place frames = ap (received_at place) done_is ∙ received-append place answers frames ∙ ap (λ l. l ++ received_at place frames) (answer-receives tick other place meaning channels answers answer) in
      ap (came_by frames_in) received ∙ elim (cases_eq place other) [
        | inl here ↦
            let same : to.comes ≡ comes = same-some to.there (ap (slice_get routes) (sym here) ∙ is) in
            let own = heard.own one (ap (receives_at channels) (sym here) ∙ there) in
            ap (λ p. came_by frames_in (received_at p frames)) here ∙ one-seen tick (length frame.bytes) meaning (received_at other frames) own
            ∙ ap (λ (c : Comes). seen_frame (bytes_of_address c.byte) tick frame ∷ []) same
            ∙ sym (seen-one comes tick frame true (ap (λ (c : Comes). is_addressed (address_of c) frame) (sym same) ∙ to.is))
        | inr ne ↦
            ap (came_by frames_in) (heard.others place ne)
            ∙ sym (seen-one comes tick frame false (not-own (is_addressed (address_of comes) frame) routes channels place other comes to.comes frame apart is to.there to.is ne refl))
      ]

  all-seen : (tick : ℕ) (frames : List CanFrame) (done : List Act) → AreHeard tick routes channels frames done → came_by frames_in (received_at place done) ≡ seen-of comes (all_came_in tick frames)
  all-seen tick [] done none = ap (λ (l : List Act). came_by frames_in (received_at place l)) none
  all-seen tick (frame ∷ later) done so =
      ap (came_by frames_in) (ap (received_at place) so.2 ∙ received-append place so.1 so.0) ∙ came-append frames_in (received_at place so.1) (received_at place so.0)
      ∙ ap (λ l. l ++ came_by frames_in (received_at place so.1)) (heard-seen tick frame so.0 so.3)
      ∙ ap (λ l. seen-of comes (in-tick tick frame ∷ []) ++ l) (all-seen tick later so.1 so.4)
      ∙ sym (seen-append comes (in-tick tick frame ∷ []) (all_came_in tick later))

  pub ticks-seen : (budget : ℕ) (ticks : List BusTick) → AreBusTicks budget routes channels [] ticks → came_by frames_in (received_at place (acts_in ticks)) ≡ seen-of comes (came_in ticks)
  ticks-seen budget [] are = refl
  ticks-seen budget (t ∷ earlier) are =
      let acts : List Act = acts_in earlier in
      leaving-comes t.tick place t.out t.left (t.turns ++ (t.timers ++ (t.came ++ acts))) are.0.told
      ∙ turns-come t.tick (length channels) place channels t.turns (t.timers ++ (t.came ++ acts)) are.0.turned
      ∙ timers-come t.tick (length channels) place channels t.timers (t.came ++ acts) are.0.timed
      ∙ ap (came_by frames_in) (received-append place t.came acts) ∙ came-append frames_in (received_at place t.came) (received_at place acts)
      ∙ ap (λ l. l ++ came_by frames_in (received_at place t.came)) (ticks-seen budget earlier are.1)
      ∙ ap (λ l. seen-of comes (came_in earlier) ++ l) (all-seen t.tick t.frames t.came are.0.heard)
      ∙ sym (seen-append comes (came_in earlier) (all_came_in t.tick t.frames))

end-comes : (last : ℕ) (turns : List RxTurn) → OneReceived last RunEnd turns → came_by frames_in turns ≡ []
end-comes last turns one = ap (came_by frames_in) one.turns_are ∙ ap (λ (e : RxEvent). frames_in one.turn.did.tick e) one.event_is

pub seen-is : FramesCome
seen-is budget last routes channels ticks end run apart place comes one is there =
    ap (came_by frames_in) (received-append place end (acts_in ticks)) ∙ came-append frames_in (received_at place end) (received_at place (acts_in ticks))
    ∙ ap (λ l. came_by frames_in (received_at place (acts_in ticks)) ++ l) (end-comes last (received_at place end) (run.ends.receivers place one there))
    ∙ append-nil (came_by frames_in (received_at place (acts_in ticks))) ∙ ticks-seen routes channels apart place comes is one there budget ticks run.ticks_are
