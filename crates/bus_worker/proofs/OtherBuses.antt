-- What another bus does leaves a bus's machines standing as they did.
use Rattle.std.proofs.Common.{◌≡◌, ℕ, ◌≤◌, Option, Some, List, ap, refl}
use Rattle.std.specs.Prelude.{option_map}
use Rattle.can_frame.specs.Frame.{CanFrame}
use Rattle.hub_core.specs.Stays.{PortState}
use Rattle.tp_receiver.specs.declared.set.RxSet.{RxSet}
use Rattle.tp_sender.specs.State.{set_of}
use Rattle.tp_sender.specs.declared.set.TxSet.{TxSet}
use Rattle.tp_unit.specs.declared.shape.Shape.{Shape}
use Rattle.bus_worker.proofs.Configured.{acts-for-stays}
use Rattle.bus_worker.proofs.Machines.{receiver-stays, sender-stays}
use Rattle.bus_worker.specs.Acts.{Act, calls_in, received_at, sent_at}
use Rattle.bus_worker.specs.Beside.{ShareNothing}
use Rattle.bus_worker.specs.Did.{Did, IsAt}
use Rattle.bus_worker.specs.Stands.{SameChannels, receiver_at, receives_at, sender_at, sends_at}
use Rattle.bus_worker.specs.declared.channel.Channel.{Channel}
use Rattle.bus_worker.specs.declared.channel.Receiving.{Receiving}
use Rattle.bus_worker.specs.declared.channel.Sending.{Sending}
use Rattle.bus_worker.specs.declared.worker.Worker.{Worker}

same-channels : (channels : List Channel) → SameChannels channels channels
same-channels channels = record { count = refl; receives = λ place. refl; sends = λ place. refl }

-- a worker stands after the work of another bus's worker, over the port that did it
pub beside : {Home : Type 0} (since tick takes spare : ℕ) (acts done : List Act) (lies : ℕ → Option CanFrame) (u v w : Worker) (old new : PortState Home) →
    ShareNothing u.channels.items v.channels.items → since ≤ tick → Did takes spare done v w old new → IsAt since acts lies u old → IsAt tick acts lies u new
beside since tick takes spare acts done lies u v w old new nothing by did at = record {
  stand = record {
    receivers = λ place r is.
        let configured = ap (option_map (λ (x : Receiving). (x.machine.set, x.shape))) is in
        let same = did.beside.sessions r.machine.set.path.0 (λ other one there. nothing.paths place other (r.machine.set, r.shape) one configured there) in
        receiver-stays r since tick (calls_in done) old.view new.view (received_at place acts) (at.stand.receivers place r is) by did.grown same;
    senders = λ place s is.
        let configured = ap (option_map (λ (x : Sending). set_of x.machine)) is in
        let same = did.beside.readings (set_of s.machine).path.0 (set_of s.machine).dest.0 (λ other one there path. nothing.dests place other (set_of s.machine) one configured there path) in
        sender-stays s since tick (calls_in done) old.view new.view (sent_at place acts) (at.stand.senders place s is) by did.grown same;
    apart = at.stand.apart;
    few = at.stand.few;
  };
  acts_for = acts-for-stays u.channels.items u.channels.items old.means new.means (same-channels u.channels.items) did.pool at.acts_for;
  lie = at.lie;
  routed = at.routed;
}
