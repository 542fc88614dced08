-- What a start asks of the pool, and what is granted of a reception that goes on (ISO 15765-2, flow control).
use Rattle.std.specs.Prelude.{ℕ, ◌+◌, ◌-◌, ◌/◌, ◌%◌, ◌<◌, min, Option, Some, None}
use Rattle.flow_plan.specs.Cells.{cells_for, cells_left}
use Rattle.flow_plan.specs.Grant.{granted}
use Rattle.flow_plan.specs.Need.{needed}
use Rattle.flow_plan.specs.declared.block.Grant.{Grant}
use Rattle.flow_plan.specs.declared.block.Grant.TheVariants.{All, Block, Wait}
use Rattle.tp_receiver.specs.State.{Reception}
use Rattle.tp_receiver.specs.declared.set.RxSet.{RxSet}
use Rattle.tp_unit.specs.Unit.{Meaning, FlowControl}

-- the bytes of a full consecutive frame, where the start's frame has so many
abbrev pub full_part : (address size : ℕ) → ℕ
full_part address size = size - 1 - address

-- the cells that a buffer must have for a message of `len` bytes whose start carries `bytes` of them in a frame of `size`
abbrev pub need_of : RxSet → (size len bytes : ℕ) → ℕ
need_of set size len bytes = needed (cells_for bytes) (cells_for bytes + cells_left (full_part set.a size) (len - bytes)) set.threshold (cells_for (full_part set.a size)) set.store

-- how many frames of `part` bytes carry so many
abbrev pub frames_for : (part left : ℕ) → ℕ
frames_for part left = left / part + min 1 (left % part)

-- what is granted of what remains, in frames of `part` bytes, where so many cells have room
abbrev pub grant_of : RxSet → (part left room : ℕ) → Grant
grant_of set part left room = granted set.bs room (cells_for part) (cells_left part left) (frames_for part left)

abbrev pub grant_in : RxSet → Reception → (room : ℕ) → Grant
grant_in set busy room = grant_of set (full_part set.a busy.size) (busy.len - busy.bytes) room

-- the flow controls: so many frames may come, or all where that is 0; none may come yet; and there is no room for the message
abbrev pub continue_to_send : RxSet → (block : ℕ) → Meaning
continue_to_send set block = FlowControl 0 block set.st

abbrev pub ask_to_wait : Meaning
ask_to_wait = FlowControl 1 0 0

abbrev pub overflow : Meaning
overflow = FlowControl 2 0 0

-- the flow control of a grant, how many frames may come after it, and how many waits then follow one another
abbrev pub control_of : RxSet → Grant → Meaning
control_of set All = continue_to_send set 0
control_of set (Block frames) = continue_to_send set frames
control_of set Wait = ask_to_wait

abbrev pub left_of : Grant → Option ℕ
left_of All = None
left_of (Block frames) = Some frames
left_of Wait = Some 0

abbrev pub waits_of : Grant → (waits : ℕ) → ℕ
waits_of All waits = 0
waits_of (Block frames) waits = 0
waits_of Wait waits = waits + 1

-- no more waits follow one another than are configured
abbrev pub MayGrant : RxSet → Reception → Grant → Type 0
MayGrant set busy All = Unit {0}
MayGrant set busy (Block frames) = Unit {0}
MayGrant set busy Wait = busy.waits < set.wft_max
