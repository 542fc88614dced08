-- Whether anything goes on on the bus, machine by machine.
use Rattle.std.proofs.Common.{◌≡◌, ℕ, zero, suc, Bool, true, false, not, ◌&&◌, Option, Some, None, List, [], ◌∷◌, refl, ap, sym, ◌∙◌}
use Rattle.std.specs.Prelude.{is_some, option_and_then, slice_get}
use Rattle.std.specs.Bool.{MatchBool}
use Rattle.std.specs.List.{list_all}
use Rattle.std.specs.Option.{option_map_or}
use Rattle.gw_base.proofs.Lists.{none-some, same-some}
use Rattle.tp_receiver.specs.State.{state_of as receiver_state}
use Rattle.tp_sender.specs.State.{state_of as sender_state}
use Rattle.tx_mailbox.specs.Boxes.{content}
use Rattle.hub_core.specs.Stays.{PortState}
use Rattle.tp_receiver.specs.Runs.{control_after}
use Rattle.tp_receiver.specs.State.{RxState}
use Rattle.tp_sender.specs.Runs.{box_after}
use Rattle.tp_sender.specs.State.{TxState}
use Rattle.tp_unit.specs.Unit.{Meaning}
use Rattle.tp_unit.specs.declared.shape.Shape.{Shape}
use Rattle.bus_worker.proofs.Configured.{receiver-as, sender-as}
use Rattle.bus_worker.specs.Acts.{Act, received_at, sent_at}
use Rattle.bus_worker.specs.History.{IsIdle}
use Rattle.bus_worker.specs.Idle.{IsStill, is_still}
use Rattle.bus_worker.specs.Phases.{Rests}
use Rattle.bus_worker.specs.Stands.{control_box, frame_box, framed, receiver_at, sender_at}
use Rattle.bus_worker.specs.declared.channel.Channel.{Channel}
use Rattle.bus_worker.specs.declared.channel.Receiving.{Receiving}
use Rattle.bus_worker.specs.declared.channel.Sending.{Sending}
use Rattle.bus_worker.specs.declared.worker.Worker.{Worker}

abbrev busy-in : Option Receiving → Bool
busy-in found = option_map_or (λ (r : Receiving). is_some (receiver_state r.machine).busy) found false

abbrev live-in : Option Sending → Bool
live-in found = option_map_or (λ (s : Sending). is_some (sender_state s.machine).live) found false

both-true : (a b : Bool) → (not a && not b) ≡ true → (a ≡ false) × (b ≡ false)
both-true true b is = absurd cc
both-true false true is = absurd cc
both-true false false is = (refl, refl)

none-of : {A : Type 0} (found : Option A) → is_some found ≡ false → found ≡ None
none-of None is = refl
none-of (Some x) is = absurd cc

split-true : (a b : Bool) → (a && b) ≡ true → (a ≡ true) × (b ≡ true)
split-true true b is = (refl, is)
split-true false b is = absurd cc

-- where all channels are still, each is
still-at : (channels : List Channel) (place : ℕ) (channel : Channel) → list_all is_still channels ≡ true → slice_get channels place ≡ Some channel → is_still channel ≡ true
still-at [] place channel all is = absurd cc
still-at (first ∷ channels) zero channel all is = ap is_still (same-some is refl) ∙ (split-true (is_still first) (list_all is_still channels) all).0
still-at (first ∷ channels) (suc place) channel all is = still-at channels place channel (split-true (is_still first) (list_all is_still channels) all).1 is

receiver-still : (found : Option Channel) (channels : List Channel) (place : ℕ) (r : Receiving) → list_all is_still channels ≡ true → slice_get channels place ≡ found → receiver_at channels place ≡ Some r → (receiver_state r.machine).busy ≡ None
receiver-still None channels place r all is there = absurd (none-some (ap (λ (f : Option Channel). option_and_then (λ (channel : Channel). channel.receiving) f) is) there)
receiver-still (Some channel) channels place r all is there =
    let own : channel.receiving ≡ Some r = sym (ap (λ (f : Option Channel). option_and_then (λ (c : Channel). c.receiving) f) is) ∙ there in
    none-of (receiver_state r.machine).busy (ap busy-in (sym own) ∙ (both-true (busy-in channel.receiving) (live-in channel.sending) (still-at channels place channel all is)).0)

sender-still : (found : Option Channel) (channels : List Channel) (place : ℕ) (s : Sending) → list_all is_still channels ≡ true → slice_get channels place ≡ found → sender_at channels place ≡ Some s → (sender_state s.machine).live ≡ None
sender-still None channels place s all is there = absurd (none-some (ap (λ (f : Option Channel). option_and_then (λ (channel : Channel). channel.sending) f) is) there)
sender-still (Some channel) channels place s all is there =
    let own : channel.sending ≡ Some s = sym (ap (λ (f : Option Channel). option_and_then (λ (c : Channel). c.sending) f) is) ∙ there in
    none-of (sender_state s.machine).live (ap live-in (sym own) ∙ (both-true (busy-in channel.receiving) (live-in channel.sending) (still-at channels place channel all is)).1)

is-still : (w : Worker) → ((number : ℕ) → content number w.boxes ≡ None) → list_all is_still w.channels.items ≡ true → IsStill w
is-still w boxes all = record {
  receivers = λ place r is. receiver-still (slice_get w.channels.items place) w.channels.items place r all refl is;
  senders = λ place s is. sender-still (slice_get w.channels.items place) w.channels.items place s all refl is;
  boxes = boxes;
}

-- and where not all are, something goes on
busy-none : (w : Worker) (place : ℕ) (channel : Channel) (found : Option Receiving) → IsStill w → slice_get w.channels.items place ≡ Some channel → channel.receiving ≡ found → busy-in found ≡ false
busy-none w place channel None still there is = refl
busy-none w place channel (Some r) still there is = ap is_some (still.receivers place r (ap (λ (f : Option Channel). option_and_then (λ (c : Channel). c.receiving) f) there ∙ is))

live-none : (w : Worker) (place : ℕ) (channel : Channel) (found : Option Sending) → IsStill w → slice_get w.channels.items place ≡ Some channel → channel.sending ≡ found → live-in found ≡ false
live-none w place channel None still there is = refl
live-none w place channel (Some s) still there is = ap is_some (still.senders place s (ap (λ (f : Option Channel). option_and_then (λ (c : Channel). c.sending) f) there ∙ is))

each-still : (w : Worker) (place : ℕ) (channel : Channel) → IsStill w → slice_get w.channels.items place ≡ Some channel → is_still channel ≡ true
each-still w place channel still there = rw (busy-none w place channel channel.receiving still there refl, live-none w place channel channel.sending still there refl) refl

all-still : (channels : List Channel) → ((place : ℕ) (channel : Channel) → slice_get channels place ≡ Some channel → is_still channel ≡ true) → list_all is_still channels ≡ true
all-still [] each = refl
all-still (first ∷ channels) each = rw (each zero first refl) (all-still channels (λ place channel is. each (suc place) channel is))

-- so the test decides
pub decides : (w : Worker) (all : Bool) → ((number : ℕ) → content number w.boxes ≡ None) → all ≡ list_all is_still w.channels.items → MatchBool all (IsStill w) (IsStill w → ⊥)
decides w true boxes is = is-still w boxes (sym is)
decides w false boxes is = λ still. absurd (let all = is ∙ all-still w.channels.items (λ place channel there. each-still w place channel still there) in cc)

-- where nothing goes on, the machines' own turns say so too
framed-none : (shape : Shape) (lies : Option Meaning) → framed shape lies ≡ None → lies ≡ None
framed-none shape None is = refl
framed-none shape (Some meaning) is = absurd cc

pub still-idle : {Home : Type 0} (tick : ℕ) (acts : List Act) (w : Worker) (port : PortState Home) → IsStill w → Rests tick acts w port → IsIdle w.channels.items acts
still-idle tick acts w port still at = record {
  receivers = λ place one there.
      let so = receiver-as (receiver_at w.channels.items place) w.channels.items place one refl there in
      let stands = at.stand.receivers place so.0 so.1 in
      record {
        receiver = ap (λ (x : RxState). x.busy) (sym stands.state) ∙ still.receivers place so.0 so.1;
        box = framed-none so.0.shape (control_after (received_at place acts)) (sym (at.lie.controls place so.0 so.1) ∙ still.boxes (control_box place));
      };
  senders = λ place one there.
      let so = sender-as (sender_at w.channels.items place) w.channels.items place one refl there in
      let stands = at.stand.senders place so.0 so.1 in
      record {
        live = ap (λ (x : TxState). x.live) (sym stands.state) ∙ still.senders place so.0 so.1;
        box = framed-none so.0.shape (box_after (sent_at place acts)) (sym (at.lie.frames place so.0 so.1) ∙ still.boxes (frame_box place));
      };
}
