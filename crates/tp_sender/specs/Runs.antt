-- A run of a sender: its turns, the newest first, what came with them, and what left.
use Rattle.std.specs.Prelude.{ℕ, ◌+◌, ◌≤◌, ◌==◌, if◌then◌else◌, Option, None, List, [], ◌∷◌, ◌++◌}
use Rattle.std.specs.List.{flat_map}
use Rattle.hub_core.specs.Turns.{Happened, state_after}
use Rattle.hub_core.specs.View.{Event, Took, Refused, Entered, Asked, Put, Published, Joining, Missed, Saw, Read, Closed, Parted}
use Rattle.tp_unit.specs.declared.shape.Shape.{Shape}
use Rattle.tp_unit.specs.Unit.{Meaning}
use Rattle.tp_unit.specs.Box.{Answer, Written, box_then, written_of}
use Rattle.tp_sender.specs.declared.event.TxEvent.{TxEvent}
use Rattle.tp_sender.specs.declared.event.TxEvent.TheVariants.{Turn, Fc, Left, RunEnd}
use Rattle.tp_sender.specs.declared.set.TxSet.{TxSet}
use Rattle.tp_sender.specs.State.{TxTurn, tx_new}
use Rattle.tp_sender.specs.Table.{TxStep}

-- what lies in the sender's box: a frame that left is gone, and an act offers one, revokes it or keeps it
abbrev pub box_once : TxEvent → Option Meaning → Option Meaning
box_once Turn lies = lies
box_once (Fc fs bs st) lies = lies
box_once Left lies = None
box_once RunEnd lies = lies

abbrev pub box_after : List TxTurn → Option Meaning
box_after [] = None
box_after (turn ∷ earlier) = box_then turn.did.act (box_once turn.event (box_after earlier))

-- the frame that an event says has left: what lay in the box, written in the channel's shape
abbrev pub written_at : Shape → TxEvent → ℕ → Option Meaning → List Written
written_at shape Turn tick lies = []
written_at shape (Fc fs bs st) tick lies = []
written_at shape Left tick lies = written_of shape tick lies
written_at shape RunEnd tick lies = []

-- the frames that left, the oldest first
abbrev pub left_by : Shape → List TxTurn → List Written
left_by shape [] = []
left_by shape (turn ∷ earlier) = left_by shape earlier ++ written_at shape turn.event turn.did.tick (box_after earlier)

-- the flow control that came, with its tick
abbrev pub controls_in : ℕ → TxEvent → List Answer
controls_in tick Turn = []
controls_in tick (Fc fs bs st) = record { tick = tick; status = fs; block_size = bs; separation = st } ∷ []
controls_in tick Left = []
controls_in tick RunEnd = []

-- the length, in bytes, of a session that a call joined
abbrev pub len_joined : Event → List ℕ
len_joined (Joining path dest seq buf len) = len ∷ []
len_joined (Took group number buf size need) = []
len_joined (Refused group number free need) = []
len_joined (Entered path seq buf number size len readers) = []
len_joined (Asked path seq cells readers) = []
len_joined (Put path seq cell) = []
len_joined (Published path seq bytes) = []
len_joined (Missed group path dest seq) = []
len_joined (Saw path dest seq cells bytes writer) = []
len_joined (Read path dest seq cell) = []
len_joined (Closed path seq freed) = []
len_joined (Parted path dest seq freed) = []

-- the lengths of the sessions that were joined, by their numbers
abbrev pub lens_in : List Event → List ℕ
lens_in calls = flat_map len_joined calls

-- the cell that a call read of the session with that number
abbrev pub cell_read : ℕ → Event → List ℕ
cell_read number (Read path dest seq cell) = if seq == number then cell ∷ [] else []
cell_read number (Took group change buf size need) = []
cell_read number (Refused group change free need) = []
cell_read number (Entered path seq buf change size len readers) = []
cell_read number (Asked path seq cells readers) = []
cell_read number (Put path seq cell) = []
cell_read number (Published path seq bytes) = []
cell_read number (Joining path dest seq buf len) = []
cell_read number (Missed group path dest seq) = []
cell_read number (Saw path dest seq cells bytes writer) = []
cell_read number (Closed path seq freed) = []
cell_read number (Parted path dest seq freed) = []

-- the cells that were read of that session, the oldest first
abbrev pub cells_in : ℕ → List Event → List ℕ
cells_in number calls = flat_map (cell_read number) calls

-- the tick after the one in which the sender's last frame left, and 0 where none left
abbrev pub after_left : TxEvent → (tick before : ℕ) → ℕ
after_left Turn tick before = before
after_left (Fc fs bs st) tick before = before
after_left Left tick before = tick + 1
after_left RunEnd tick before = before

abbrev pub clear_from : List TxTurn → ℕ
clear_from [] = 0
clear_from (turn ∷ earlier) = after_left turn.event turn.did.tick (clear_from earlier)

-- the order of work in a tick: flow controls come before frames leave
abbrev pub InOrder : TxEvent → ℕ → List TxTurn → Type 0
InOrder Turn tick earlier = Unit {0}
InOrder (Fc fs bs st) tick earlier = clear_from earlier ≤ tick
InOrder Left tick earlier = Unit {0}
InOrder RunEnd tick earlier = Unit {0}

-- a sender's turns, from the first one on
abbrev pub HasSent : TxSet → List TxTurn → Type 0
HasSent set turns = Happened (λ earlier turn. InOrder turn.event turn.did.tick earlier × TxStep set (state_after tx_new earlier) turn.event turn.did) turns
