-- Channels that are configured as before keep what rests on how they are configured.
use Rattle.std.proofs.Common.{◌≡◌, ℕ, ◌<◌, ◌≤◌, Option, None, Some, List, length, refl, ap, sym, subst, ◌∙◌}
use Rattle.can_frame.specs.Frame.{CanFrame}
use Rattle.gw_base.proofs.Lists.{none-some, same-some}
use Rattle.hub_core.specs.Calls.{Means, SamePool}
use Rattle.tp_receiver.specs.Port.{ActsFor}
use Rattle.tp_receiver.specs.declared.set.RxSet.{RxSet}
use Rattle.tp_sender.specs.Port.{ActsForSet}
use Rattle.tp_sender.specs.declared.set.TxSet.{TxSet}
use Rattle.tp_receiver.specs.Runs.{control_after}
use Rattle.tp_sender.specs.Runs.{box_after}
use Rattle.tp_sender.specs.State.{set_of}
use Rattle.tp_unit.specs.declared.shape.Shape.{Shape}
use Rattle.bus_worker.specs.Acts.{Act, received_at, sent_at}
use Rattle.bus_worker.specs.Stands.{ActsForAll, AreApart, AreRouted, LieThere, SameChannels, framed, receiver_at, receives_at, sender_at, sends_at}
use Rattle.bus_worker.specs.declared.channel.Receiving.{Receiving}
use Rattle.bus_worker.specs.declared.channel.Sending.{Sending}
use Rattle.bus_worker.specs.declared.channel.Channel.{Channel}
use Rattle.bus_worker.specs.declared.comes.Comes.{Comes}
use Rattle.std.specs.Prelude.{option_map, slice_get}

pub apart-stays : (old new : List Channel) → SameChannels old new → AreApart old → AreApart new
apart-stays old new same apart = record {
  paths = λ place other one another is also. apart.paths place other one another (sym (same.receives place) ∙ is) (sym (same.receives other) ∙ also);
  dests = λ place other one another is also. apart.dests place other one another (sym (same.sends place) ∙ is) (sym (same.sends other) ∙ also);
}

acts-stays : (set : RxSet) (old new : Means) → SamePool old new → ActsFor set old → ActsFor set new
acts-stays set old new pool acts = record {
  writes = ap (λ f. f set.path.0) pool.writes ∙ acts.writes;
  most = subst (λ (n : ℕ). set.readers ≤ n) (sym pool.most) acts.most;
  group = subst (λ (g : List (List ℕ)). set.group.0 < length g) (sym pool.groups) acts.group;
}

acts-sending-stays : (set : TxSet) (old new : Means) → SamePool old new → ActsForSet old set → ActsForSet new set
acts-sending-stays set old new pool acts = record {
  reads = ap (λ f. f set.path.0 set.dest.0) pool.reads ∙ acts.reads;
  group = subst (λ (g : List (List ℕ)). set.group.0 < length g) (sym pool.groups) acts.group;
}

pub acts-for-stays : (old new : List Channel) (before after : Means) → SameChannels old new → SamePool before after → ActsForAll old before → ActsForAll new after
acts-for-stays old new before after same pool acts = record {
  receivers = λ place one is. acts-stays one.0 before after pool (acts.receivers place one (sym (same.receives place) ∙ is));
  senders = λ place one is. acts-sending-stays one before after pool (acts.senders place one (sym (same.sends place) ∙ is));
}

pub same-twice : (one two three : List Channel) → SameChannels one two → SameChannels two three → SameChannels one three
same-twice one two three first second = record {
  count = second.count ∙ first.count;
  receives = λ place. second.receives place ∙ first.receives place;
  sends = λ place. second.sends place ∙ first.sends place;
}

pub routed-stays : (old new : List Channel) (routes now : List Comes) → SameChannels old new → now ≡ routes → AreRouted routes old → AreRouted now new
routed-stays old new routes now same is routed = record { address = λ place comes one at there. routed.address place comes one (ap (λ l. slice_get l place) (sym is) ∙ at) (sym (same.receives place) ∙ there) }

-- what lies in the boxes hangs on how the machines are configured, and not on how they went on
pub receiver-as : (found : Option Receiving) (channels : List Channel) (place : ℕ) (one : RxSet × Shape) → receiver_at channels place ≡ found → receives_at channels place ≡ Some one → (r : Receiving) × (receiver_at channels place ≡ Some r) × (r.shape ≡ one.1)
receiver-as None channels place one is there = absurd (none-some (ap (option_map (λ (r : Receiving). (r.machine.set, r.shape))) is) there)
receiver-as (Some r) channels place one is there = (r, is, ap (λ (p : RxSet × Shape). p.1) (same-some (ap (option_map (λ (r : Receiving). (r.machine.set, r.shape))) is) there))

pub sender-as : (found : Option Sending) (channels : List Channel) (place : ℕ) (one : TxSet) → sender_at channels place ≡ found → sends_at channels place ≡ Some one → (s : Sending) × (sender_at channels place ≡ Some s) × (s.shape ≡ one.shape)
sender-as None channels place one is there = absurd (none-some (ap (option_map (λ (s : Sending). set_of s.machine)) is) there)
sender-as (Some s) channels place one is there = (s, is, sym s.own ∙ ap (λ (x : TxSet). x.shape) (same-some (ap (option_map (λ (s : Sending). set_of s.machine)) is) there))

no-receiver-as : (found : Option Receiving) (channels : List Channel) (place : ℕ) → receiver_at channels place ≡ found → receives_at channels place ≡ None → receiver_at channels place ≡ None
no-receiver-as None channels place is none = is
no-receiver-as (Some r) channels place is none = absurd (none-some none (ap (option_map (λ (r : Receiving). (r.machine.set, r.shape))) is))

no-sender-as : (found : Option Sending) (channels : List Channel) (place : ℕ) → sender_at channels place ≡ found → sends_at channels place ≡ None → sender_at channels place ≡ None
no-sender-as None channels place is none = is
no-sender-as (Some s) channels place is none = absurd (none-some none (ap (option_map (λ (s : Sending). set_of s.machine)) is))

pub lies-as-configured : (acts : List Act) (old new : List Channel) (lies : ℕ → Option CanFrame) → SameChannels old new → LieThere acts new lies → LieThere acts old lies
lies-as-configured acts old new lies same lie = record {
  controls = λ place r is.
      let so = receiver-as (receiver_at new place) new place (r.machine.set, r.shape) refl (same.receives place ∙ ap (option_map (λ (x : Receiving). (x.machine.set, x.shape))) is) in
      lie.controls place so.0 so.1 ∙ ap (λ (shape : Shape). framed shape (control_after (received_at place acts))) so.2;
  frames = λ place s is.
      let so = sender-as (sender_at new place) new place (set_of s.machine) refl (same.sends place ∙ ap (option_map (λ (x : Sending). set_of x.machine)) is) in
      lie.frames place so.0 so.1 ∙ ap (λ (shape : Shape). framed shape (box_after (sent_at place acts))) (so.2 ∙ s.own);
  no_controls = λ place none. lie.no_controls place (no-receiver-as (receiver_at new place) new place refl (same.receives place ∙ ap (option_map (λ (x : Receiving). (x.machine.set, x.shape))) none));
  no_frames = λ place none. lie.no_frames place (no-sender-as (sender_at new place) new place refl (same.sends place ∙ ap (option_map (λ (x : Sending). set_of x.machine)) none));
}
