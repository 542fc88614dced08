-- A bus on which nothing goes on.
use Rattle.std.specs.Prelude.{◌≡◌, ◌&&◌, not, ℕ, Bool, false, None, Some, is_some}
use Rattle.std.specs.Option.{option_map_or}
use Rattle.tp_receiver.specs.State.{state_of as receiver_state}
use Rattle.tp_sender.specs.State.{state_of as sender_state}
use Rattle.tx_mailbox.specs.Boxes.{content}
use Rattle.bus_worker.specs.Stands.{receiver_at, sender_at}
use Rattle.bus_worker.specs.declared.channel.Channel.{Channel}
use Rattle.bus_worker.specs.declared.channel.Receiving.{Receiving}
use Rattle.bus_worker.specs.declared.channel.Sending.{Sending}
use Rattle.bus_worker.specs.declared.worker.Worker.{Worker}

-- no reception is in progress on a channel, and no session is sent
abbrev pub is_still : Channel → Bool
is_still channel =
    not (option_map_or (λ (r : Receiving). is_some (receiver_state r.machine).busy) channel.receiving false) && not (option_map_or (λ (s : Sending). is_some (sender_state s.machine).live) channel.sending false)

-- no reception is in progress on the bus, no session is sent, and nothing lies in a box
pub record IsStill (w : Worker) : Type 0 where
  pub receivers : (place : ℕ) (r : Receiving) → receiver_at w.channels.items place ≡ Some r → (receiver_state r.machine).busy ≡ None
  pub senders : (place : ℕ) (s : Sending) → sender_at w.channels.items place ≡ Some s → (sender_state s.machine).live ≡ None
  pub boxes : (number : ℕ) → content number w.boxes ≡ None
