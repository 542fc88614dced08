-- What is told of a run: its configuration, the logs that came, the logs that left, and the report. No machine stands in it.
use Rattle.std.specs.Prelude.{ℕ, ◌==◌, ◌&&◌, nat_le, Bool, true, List, [], ◌∷◌, filter, length}
use Rattle.can_frame.specs.Priority.{priority_of}
use Rattle.can_frame.specs.declared.id.CanId.{CanId}
use Rattle.hub_core.specs.declared.record.DestRecord.{DestRecord}
use Rattle.hub_core.specs.declared.record.Move.{Move}
use Rattle.hub_core.specs.declared.record.SessionRecord.{SessionRecord}
use Rattle.receiver_law.specs.Channel.{SourceChannel}
use Rattle.sender_law.specs.Channel.{DestChannel}
use Rattle.tp_unit.specs.Box.{Written, left_in}
use Rattle.gw_law.specs.Channels.{InTick, answers_in, bytes_of_address, controls_of, data_of, frames_for, seen_in}
use Rattle.gw_law.specs.Plan.{Plan, Receiving, Sending}

-- what came and what left on each bus, and what the report says
pub record Account : Type 0 where
  pub plan : Plan
  -- by bus: the frames of its log, and the frames that it sent, each with its tick
  pub came : ℕ → List InTick
  pub left : ℕ → List Written
  -- the report: the sessions of all channels, the destinations' records, and the moves of the pool
  pub sessions : List SessionRecord
  pub dests : List DestRecord
  pub moves : List Move
  -- its pool lines, by group: the number of the group's moves, and its last free set
  pub counts : ℕ → ℕ
  pub frees : ℕ → ℕ

-- the records of a channel, and of a path's destination
abbrev pub sessions_of : (chan : ℕ) → List SessionRecord → List SessionRecord
sessions_of chan records = filter (λ (told : SessionRecord). told.chan.0 == chan) records

abbrev pub dests_of : (path dest : ℕ) → List DestRecord → List DestRecord
dests_of path dest records = filter (λ (told : DestRecord). told.path.0 == path && told.dest.0 == dest) records

-- a source channel: of its bus's frames those with its identifier and address, and of the report its records
abbrev pub source_in : Account → Receiving → SourceChannel
source_in a r = record {
  rx = r.set;
  shape = r.shape;
  budget = a.plan.budget r.bus;
  last = a.plan.last;
  seen = seen_in (bytes_of_address r.comes.byte) (frames_for r.comes (a.came r.bus));
  controls = controls_of r.shape (a.left r.bus);
  sessions = sessions_of r.set.chan.0 a.sessions;
}

-- a destination of a path: of its bus's frames the flow controls that came to its channel and the data frames that left, and its records
abbrev pub dest_in : Account → Sending → DestChannel
dest_in a s = record {
  tx = s.set;
  budget = a.plan.budget s.bus;
  last = a.plan.last;
  answers = answers_in (bytes_of_address s.comes.byte) (frames_for s.comes (a.came s.bus));
  frames = data_of s.set.shape (a.left s.bus);
  dests = dests_of s.set.path.0 s.set.dest.0 a.dests;
}

-- a path from its source channel to one of its destinations, in windows of at most so many ticks
pub record Route : Type 0 where
  pub source : SourceChannel
  pub leg : DestChannel
  pub window : ℕ

abbrev pub route_in : Account → Receiving → Sending → Route
route_in a r s = record { source = source_in a r; leg = dest_in a s; window = a.plan.window }

-- no frame of these has a lower priority than the identifier
abbrev pub none_after : CanId → List Written → Bool
none_after id [] = true
none_after id (w ∷ later) = nat_le (priority_of w.frame.id) (priority_of id) && none_after id later

-- a bus has no place for a frame of that identifier in a tick: it sent as many frames as it may, and none of a lower priority
abbrev pub is_full_for : (budget : ℕ) → List Written → CanId → (tick : ℕ) → Bool
is_full_for budget left id tick = (length (left_in tick left) == budget) && none_after id (left_in tick left)
