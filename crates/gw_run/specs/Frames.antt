-- The frames of a log with their ticks, and which of them belong to the two channels of a path (this project's own).
use Rattle.std.specs.Prelude.{ℕ, max, List, [], ◌∷◌, map}
use Rattle.can_frame.specs.Frame.{CanFrame}
use Rattle.candump_log.specs.declared.log.Stamped.{Stamped}
use Rattle.gw_law.specs.Channels.{InTick, answers_in, bytes_of_address, frames_for, seen_in}
use Rattle.gw_law.specs.Plan.{Address}
use Rattle.tick_clock.specs.Ticks.{greatest, tick_at}
use Rattle.tp_attempts.specs.Seen.{Seen, seen_frame}
use Rattle.tp_unit.specs.Box.{Answer}
use Rattle.tp_unit.specs.Reading.{unit_of}
use Rattle.tp_unit.specs.Unit.{Meaning}
use Rattle.gw_run.specs.declared.address.Address.{Address as ChannelAddress}

-- a frame's tick is the greater of its stamp's tick and the tick of the frame before it
abbrev pub in_ticks_from : (start period before : ℕ) → List Stamped → List InTick
in_ticks_from start period before [] = []
in_ticks_from start period before (stamped ∷ later) =
    record { tick = max before (tick_at start period stamped.at.0); frame = stamped.frame } ∷ in_ticks_from start period (max before (tick_at start period stamped.at.0)) later

abbrev pub in_ticks : (start period : ℕ) → List Stamped → List InTick
in_ticks start period frames = in_ticks_from start period 0 frames

-- which frames are a channel's, as the laws have it
abbrev pub address_of : ChannelAddress → Address
address_of address = record { id = address.id; byte = address.byte }

-- what a frame is on the channel that has this address
abbrev pub unit_for : Address → CanFrame → Meaning
unit_for address frame = unit_of (bytes_of_address address.byte) frame

abbrev pub seen_by : Address → (tick : ℕ) → CanFrame → Seen
seen_by address tick frame = seen_frame (bytes_of_address address.byte) tick frame

-- the frames of that channel, and the flow controls among them
abbrev pub seen_for : Address → List InTick → List Seen
seen_for address frames = seen_in (bytes_of_address address.byte) (frames_for address frames)

abbrev pub answers_for : Address → List InTick → List Answer
answers_for address frames = answers_in (bytes_of_address address.byte) (frames_for address frames)

-- the greatest tick of a log's frames, 0 without one
abbrev pub greatest_tick : (start period : ℕ) → List Stamped → ℕ
greatest_tick start period frames = greatest (map (λ (s : Stamped). tick_at start period s.at.0) frames)
