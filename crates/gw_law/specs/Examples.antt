-- A small run of two paths, in windows of three ticks on buses that send one frame in a tick, that keeps all laws; and neighbours
-- of it, each of which breaks one.
use Rattle.std.specs.Prelude.{ℕ, zero, suc, true, false, Some, None, List, [], ◌∷◌}
use Rattle.can_frame.specs.Frame.{CanFrame}
use Rattle.can_frame.specs.declared.id.CanId.TheVariants.{Std}
use Rattle.hub_core.specs.declared.record.DestRecord.{DestRecord}
use Rattle.hub_core.specs.declared.record.DestResult.TheVariants.{FcOverflow, Sent, SourceEnded, RunEnd as DestRunEnd}
use Rattle.hub_core.specs.declared.record.Move.{Move}
use Rattle.hub_core.specs.declared.record.RxWait.TheVariants.{Cf}
use Rattle.hub_core.specs.declared.record.SessionRecord.{SessionRecord}
use Rattle.hub_core.specs.declared.record.SessionResult.TheVariants.{Whole, WrongSn, NoReaders, NoRoom, RunEnd}
use Rattle.hub_core.specs.declared.record.TxWait.TheVariants.{Bus, Fc, Start}
use Rattle.tp_unit.specs.Box.{Written}
use Rattle.tp_unit.specs.declared.shape.Shape.{Shape}
use Rattle.gw_law.specs.Account.{Account}
use Rattle.gw_law.specs.Channels.{InTick}
use Rattle.gw_law.specs.Lawful.{Lawful}
use Rattle.gw_law.specs.Plan.{Plan, Receiving, Sending}

-- classic frames of an identifier, of at most 8 bytes and without padding
abbrev pub classic : ℕ → Shape
classic id = record { id = Std id; fd = false; brs = false; address = None; dl = 8; pad = false; fill = 0 }

abbrev pub frame : (id : ℕ) → List ℕ → CanFrame
frame id bytes = record { id = Std id; fd = false; brs = false; bytes = bytes }

abbrev pub comes : (tick id : ℕ) → List ℕ → InTick
comes tick id bytes = record { tick = tick; frame = frame id bytes }

abbrev pub leaves : (tick id : ℕ) → List ℕ → Written
leaves tick id bytes = record { tick = tick; frame = frame id bytes }

-- channel and path have the same number here
abbrev pub receiving : (number comes control bus : ℕ) → Receiving
receiving number comes control bus = record {
  set = record {
    chan = record { 0 = number };
    path = record { 0 = number };
    group = record { 0 = 0 };
    readers = 1;
    a = 0;
    functional = false;
    bs = 0;
    st = 0;
    wft_max = 0;
    n_ar = 100;
    n_br = 100;
    n_cr = 100;
    threshold = 1;
    store = false;
  };
  comes = record { id = Std comes; byte = None };
  shape = classic control;
  bus = bus;
}

abbrev pub sending : (path data_id control threshold bus : ℕ) → Sending
sending path data_id control threshold bus = record {
  set = record {
    path = record { 0 = path };
    group = record { 0 = 0 };
    dest = record { 0 = 0 };
    shape = classic data_id;
    threshold = threshold;
    store = false;
    n_as = 100;
    n_bs = 100;
    n_cs = 100;
    period = 1000;
  };
  comes = record { id = Std control; byte = None };
  bus = bus;
}

-- path 0 from bus 0 to bus 1, whose messages are forwarded from two cells on; path 1 back, whose data frames have the identifier
-- that is given; a group of two buffers, of two cells and of four; ticks 0 to 4
abbrev pub two_paths : (data_id : ℕ) → Plan
two_paths data_id = record {
  receivers = receiving 0 0x700 0x708 0 ∷ receiving 1 0x500 0x508 1 ∷ [];
  senders = sending 0 0x710 0x718 2 1 ∷ sending 1 data_id 0x608 1 0 ∷ [];
  budget = λ bus. 1;
  groups = (2 ∷ 4 ∷ []) ∷ [];
  window = 3;
  last = 4;
}

-- a first frame of a message of ten bytes, and a single frame of three
abbrev pub first_frame : List ℕ
first_frame = 0x10 ∷ 10 ∷ 1 ∷ 2 ∷ 3 ∷ 4 ∷ 5 ∷ 6 ∷ []

abbrev pub single_frame : List ℕ
single_frame = 3 ∷ 7 ∷ 8 ∷ 9 ∷ []

abbrev pub control_frame : List ℕ
control_frame = 0x30 ∷ 0 ∷ 0 ∷ []

-- the first frame comes on bus 0 in tick 0, the single frame on bus 1 in the tick that is given
abbrev pub came_on : (single : ℕ) → ℕ → List InTick
came_on single zero = comes 0 0x700 first_frame ∷ []
came_on single (suc zero) = comes single 0x500 single_frame ∷ []
came_on single (suc (suc bus)) = []

-- these frames leave on bus 0, and none on the others
abbrev pub left_on : List Written → ℕ → List Written
left_on left zero = left
left_on left (suc bus) = []

-- the single frame is sent at once, before it came by the clock of its own bus: both workers are in one window; so bus 0 has no place
-- for the flow control in tick 0
abbrev pub single_then_control : (data_id : ℕ) → List ℕ → List Written
single_then_control data_id bytes = leaves 0 data_id bytes ∷ leaves 1 0x708 control_frame ∷ []

-- the long message waits for its consecutive frames until the run ends
abbrev pub long_session : SessionRecord
long_session = record {
  chan = record { 0 = 0 };
  n = 0;
  len = 10;
  begin = record { 0 = 0 };
  bytes = 6;
  end = record { 0 = 4 };
  opened = Some (record { seq = 0; buf = record { 0 = 0 }; change = 1 });
  result = RunEnd Cf (record { 0 = 1 });
}

-- the short one is whole in the tick in which it comes
abbrev pub short_session : (tick : ℕ) → SessionRecord
short_session tick = record {
  chan = record { 0 = 1 };
  n = 0;
  len = 3;
  begin = record { 0 = tick };
  bytes = 3;
  end = record { 0 = tick };
  opened = Some (record { seq = 0; buf = record { 0 = 1 }; change = 2 });
  result = Whole;
}

abbrev pub unsent : DestRecord
unsent = record { path = record { 0 = 0 }; dest = record { 0 = 0 }; seq = 0; begin = record { 0 = 0 }; sent = 0; end = record { 0 = 4 }; result = DestRunEnd Start (record { 0 = 0 }) }

abbrev pub sent_on : (path : ℕ) → DestRecord
sent_on path = record { path = record { 0 = path }; dest = record { 0 = 0 }; seq = 0; begin = record { 0 = 0 }; sent = 3; end = record { 0 = 0 }; result = Sent }

abbrev pub takes : (number buf : ℕ) → Move
takes number buf = record { change = number; took = true; buf = record { 0 = buf } }

abbrev pub frees : (number buf : ℕ) → Move
frees number buf = record { change = number; took = false; buf = record { 0 = buf } }

-- what is told of the run
abbrev pub lawful_run : Account
lawful_run = record {
  plan = two_paths 0x600;
  came = came_on 2;
  left = left_on (single_then_control 0x600 single_frame);
  sessions = long_session ∷ short_session 2 ∷ [];
  dests = unsent ∷ sent_on 1 ∷ [];
  moves = takes 1 0 ∷ takes 2 1 ∷ frees 3 1 ∷ frees 4 0 ∷ [];
  counts = λ group. 4;
  frees = λ group. 3;
}

-- a byte is changed on its way
abbrev pub changed_byte : Account
changed_byte = record lawful_run { left = left_on (single_then_control 0x600 (3 ∷ 7 ∷ 8 ∷ 0 ∷ [])) }

-- the sent message is told of the other path's destination
abbrev pub wrong_destination : Account
wrong_destination = record lawful_run { dests = unsent ∷ sent_on 0 ∷ [] }

-- a record is of a destination that no path has
abbrev pub no_such_destination : Account
no_such_destination = record lawful_run { dests = unsent ∷ sent_on 1 ∷ sent_on 2 ∷ [] }

-- the single frame comes in tick 3: no window of three ticks has tick 0 too, in which it is sent
abbrev pub sent_before_it_came : Account
sent_before_it_came = record lawful_run { came = came_on 3; sessions = long_session ∷ short_session 3 ∷ [] }

-- the long message's first frame leaves on bus 1 in tick 1, though its six bytes fill one cell of two
abbrev pub left_early : ℕ → List Written
left_early zero = single_then_control 0x600 single_frame
left_early (suc zero) = leaves 1 0x710 first_frame ∷ []
left_early (suc (suc bus)) = []

abbrev pub sent_below_the_threshold : Account
sent_below_the_threshold = record lawful_run { left = left_early; dests = record unsent { sent = 6; result = DestRunEnd Fc (record { 0 = 1 }) } ∷ sent_on 1 ∷ [] }

-- the flow control waits in tick 0 though the frame that leaves has a lower priority
abbrev pub lower_priority_first : Account
lower_priority_first = record lawful_run { plan = two_paths 0x720; left = left_on (single_then_control 0x720 single_frame) }

-- bus 0 sends two frames in a tick
abbrev pub two_in_a_tick : Account
two_in_a_tick = record lawful_run { left = left_on (leaves 0 0x600 single_frame ∷ leaves 0 0x708 control_frame ∷ []) }

-- a frame of no channel leaves
abbrev pub frame_of_no_channel : Account
frame_of_no_channel = record lawful_run { left = left_on (leaves 0 0x600 single_frame ∷ leaves 1 0x708 control_frame ∷ leaves 2 0x601 single_frame ∷ []) }

-- the single frame leaves as an FD frame, which no channel of the bus has
abbrev pub fd_on_a_classic_bus : Account
fd_on_a_classic_bus = record lawful_run { left = left_on (record { tick = 0; frame = record (frame 0x600 single_frame) { fd = true } } ∷ leaves 1 0x708 control_frame ∷ []) }

-- a frame leaves after the last tick
abbrev pub frame_after_the_end : Account
frame_after_the_end = record lawful_run { left = left_on (leaves 0 0x600 single_frame ∷ leaves 5 0x708 control_frame ∷ []) }

-- the long message is told to be of eleven bytes
abbrev pub wrong_length : Account
wrong_length = record lawful_run { sessions = record long_session { len = 11 } ∷ short_session 2 ∷ [] }

-- its consecutive frame is told to be awaited since tick 0, in which no flow control left
abbrev pub awaited_too_early : Account
awaited_too_early = record lawful_run { sessions = record long_session { result = RunEnd Cf (record { 0 = 0 }) } ∷ short_session 2 ∷ [] }

-- its record ends after the run
abbrev pub session_after_the_end : Account
session_after_the_end = record lawful_run { sessions = record long_session { end = record { 0 = 5 } } ∷ short_session 2 ∷ [] }

-- its source says that no destination reads it, which its destination's record doesn't say
abbrev pub read_to_the_end : Account
read_to_the_end = record lawful_run { sessions = record long_session { end = record { 0 = 0 }; result = NoReaders } ∷ short_session 2 ∷ [] }

-- the destination's record ends after the run
abbrev pub destination_after_the_end : Account
destination_after_the_end = record lawful_run { dests = unsent ∷ record (sent_on 1) { end = record { 0 = 5 } } ∷ [] }

-- the message is told to be sent in a tick in which no frame of it left
abbrev pub sent_too_late : Account
sent_too_late = record lawful_run { dests = unsent ∷ record (sent_on 1) { end = record { 0 = 1 } } ∷ [] }

-- a destination is told to wait for its bus, which sends nothing
abbrev pub waits_for_an_idle_bus : Account
waits_for_an_idle_bus = record lawful_run { dests = record unsent { result = DestRunEnd Bus (record { 0 = 0 }) } ∷ sent_on 1 ∷ [] }

-- the long message's consecutive frame comes in tick 0 too, with the number 2 in place of 1, so that its session ends there
abbrev pub came_wrong : ℕ → List InTick
came_wrong zero = comes 0 0x700 first_frame ∷ comes 0 0x700 (0x22 ∷ 7 ∷ 8 ∷ 9 ∷ 10 ∷ []) ∷ []
came_wrong (suc zero) = comes 2 0x500 single_frame ∷ []
came_wrong (suc (suc bus)) = []

-- and its destination goes on to wait for it in tick 3, when another window has begun
abbrev pub source_ended_late : Account
source_ended_late = record lawful_run {
  came = came_wrong;
  left = left_on (leaves 0 0x600 single_frame ∷ []);
  sessions = record long_session { end = record { 0 = 0 }; result = WrongSn 1 2 } ∷ short_session 2 ∷ [];
  dests = record unsent { result = SourceEnded } ∷ sent_on 1 ∷ [];
}

-- its consecutive frame comes in tick 0 too, and finds its session's buffer of two cells full, where one cell was put
abbrev pub came_early : ℕ → List InTick
came_early zero = comes 0 0x700 first_frame ∷ comes 0 0x700 (0x21 ∷ 7 ∷ 8 ∷ 9 ∷ 10 ∷ []) ∷ []
came_early (suc zero) = comes 2 0x500 single_frame ∷ []
came_early (suc (suc bus)) = []

abbrev pub full_after_one_cell : Account
full_after_one_cell = record lawful_run {
  came = came_early;
  left = left_on (leaves 0 0x600 single_frame ∷ []);
  sessions = record long_session { end = record { 0 = 0 }; result = NoRoom 0 1 } ∷ short_session 2 ∷ [];
  dests = record unsent { end = record { 0 = 0 }; result = SourceEnded } ∷ sent_on 1 ∷ [];
}

-- the destination of the long message, which sends from one cell on, ends in tick 1 by a flow control that refuses it
abbrev pub refused_at_once : DestRecord
refused_at_once = record unsent { sent = 6; end = record { 0 = 1 }; result = FcOverflow }

abbrev pub came_late : ℕ → List InTick
came_late zero = comes 0 0x700 first_frame ∷ comes 4 0x700 (0x21 ∷ 7 ∷ 8 ∷ 9 ∷ 10 ∷ []) ∷ []
came_late (suc zero) = comes 1 0x718 (0x32 ∷ 0 ∷ 0 ∷ []) ∷ comes 2 0x500 single_frame ∷ []
came_late (suc (suc bus)) = []

abbrev pub left_both : ℕ → List Written
left_both zero = single_then_control 0x600 single_frame
left_both (suc zero) = leaves 0 0x710 first_frame ∷ []
left_both (suc (suc bus)) = []

-- and its consecutive frame is put in tick 4, when another window has begun
abbrev pub put_for_none : Account
put_for_none = record lawful_run {
  plan = record (two_paths 0x600) { senders = sending 0 0x710 0x718 1 1 ∷ sending 1 0x600 0x608 1 0 ∷ [] };
  came = came_late;
  left = left_both;
  sessions = record long_session { bytes = 10; result = Whole } ∷ short_session 2 ∷ [];
  dests = refused_at_once ∷ sent_on 1 ∷ [];
}

-- both sessions take one buffer
abbrev pub two_takes_of_one_buffer : Account
two_takes_of_one_buffer = record lawful_run { moves = takes 1 0 ∷ takes 2 0 ∷ frees 3 0 ∷ frees 4 0 ∷ [] }

-- the moves are numbered from 2
abbrev pub numbered_from_two : Account
numbered_from_two = record lawful_run { moves = takes 2 0 ∷ takes 3 1 ∷ frees 4 1 ∷ frees 5 0 ∷ [] }

-- the run ends before the long message's buffer is free
abbrev pub buffer_never_freed : Account
buffer_never_freed = record lawful_run { moves = takes 1 0 ∷ takes 2 1 ∷ frees 3 1 ∷ []; counts = λ group. 3; frees = λ group. 2 }

-- the short message takes a buffer of another group than its path's
abbrev pub buffer_of_another_group : Account
buffer_of_another_group = record lawful_run {
  plan = record (two_paths 0x600) { groups = (2 ∷ []) ∷ (4 ∷ []) ∷ [] };
  moves = takes 1 0 ∷ frees 2 0 ∷ takes 1 1 ∷ frees 2 1 ∷ [];
  counts = λ group. 2;
  frees = λ group. 1;
}

-- a move is of a buffer that the pool hasn't
abbrev pub no_such_buffer : Account
no_such_buffer = record lawful_run { moves = takes 1 0 ∷ takes 2 1 ∷ frees 3 1 ∷ frees 4 0 ∷ takes 1 2 ∷ [] }

-- none of the neighbours keeps all laws; in brackets the law that it breaks
pub record NeighboursAreUnlawful : Type 0 where
  -- (DeliveryLaw)
  pub changed_byte : Lawful changed_byte → ⊥
  -- (AreOfEach)
  pub wrong_destination : Lawful wrong_destination → ⊥
  -- (NoOthers)
  pub no_such_destination : Lawful no_such_destination → ⊥
  -- (TimelyLaw)
  pub sent_before_it_came : Lawful sent_before_it_came → ⊥
  pub sent_below_the_threshold : Lawful sent_below_the_threshold → ⊥
  -- (AreAnswers)
  pub lower_priority_first : Lawful lower_priority_first → ⊥
  -- (BusLaw)
  pub two_in_a_tick : Lawful two_in_a_tick → ⊥
  pub frame_of_no_channel : Lawful frame_of_no_channel → ⊥
  -- (WrittenLaw)
  pub fd_on_a_classic_bus : Lawful fd_on_a_classic_bus → ⊥
  -- (ControlEmission)
  pub frame_after_the_end : Lawful frame_after_the_end → ⊥
  -- (SourceLaw)
  pub wrong_length : Lawful wrong_length → ⊥
  -- (HasCause)
  pub awaited_too_early : Lawful awaited_too_early → ⊥
  -- (RoomLaw)
  pub full_after_one_cell : Lawful full_after_one_cell → ⊥
  -- (ReaderLaw)
  pub put_for_none : Lawful put_for_none → ⊥
  -- (SessionRecords)
  pub session_after_the_end : Lawful session_after_the_end → ⊥
  -- (JointCauses)
  pub read_to_the_end : Lawful read_to_the_end → ⊥
  pub source_ended_late : Lawful source_ended_late → ⊥
  -- (DestRecords)
  pub destination_after_the_end : Lawful destination_after_the_end → ⊥
  -- (TransmissionCauses)
  pub sent_too_late : Lawful sent_too_late → ⊥
  pub waits_for_an_idle_bus : Lawful waits_for_an_idle_bus → ⊥
  -- (PoolLaw)
  pub two_takes_of_one_buffer : Lawful two_takes_of_one_buffer → ⊥
  pub numbered_from_two : Lawful numbered_from_two → ⊥
  pub buffer_of_another_group : Lawful buffer_of_another_group → ⊥
  -- (PoolOf)
  pub buffer_never_freed : Lawful buffer_never_freed → ⊥
  pub no_such_buffer : Lawful no_such_buffer → ⊥
