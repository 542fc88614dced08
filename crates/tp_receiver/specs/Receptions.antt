-- What a reception becomes in a step, and what is told of it (ISO 15765-2, segmentation and reassembly; records are this project's own).
use Rattle.std.specs.Prelude.{ℕ, ◌+◌, ◌-◌, ◌%◌, min, Option, Some, None, List, [], ◌∷◌, ◌++◌, map, zero, suc}
use Rattle.gw_base.specs.Cell.{counted}
use Rattle.hub_core.specs.View.{Event, Put, Published}
use Rattle.hub_core.specs.declared.record.OpenedAt.{OpenedAt}
use Rattle.hub_core.specs.declared.record.RxWait.{RxWait}
use Rattle.hub_core.specs.declared.record.RxWait.TheVariants.{Box, Room, Cf}
use Rattle.hub_core.specs.declared.record.SessionRecord.{SessionRecord}
use Rattle.hub_core.specs.declared.record.SessionResult.{SessionResult}
use Rattle.hub_core.specs.declared.record.SessionResult.TheVariants.{Overflow}
use Rattle.tp_receiver.specs.State.{Reception}
use Rattle.tp_receiver.specs.declared.set.RxSet.{RxSet}
use Rattle.tp_unit.specs.Unit.{BoxMeaning, Keeps, Offers, Revokes}

-- the later of two acts, where it does anything
abbrev pub later_act : BoxMeaning → BoxMeaning → BoxMeaning
later_act earlier Keeps = earlier
later_act earlier (Offers meaning) = Offers meaning
later_act earlier Revokes = Revokes

-- where a reception ends, its flow control that still lies in the box doesn't leave
abbrev pub revoking : RxWait → BoxMeaning
revoking Box = Revokes
revoking Room = Keeps
revoking Cf = Keeps

-- the bytes that the next consecutive frame must carry: a whole frame's, or what remains
abbrev pub due : ℕ → Reception → ℕ
due address busy = min (busy.size - 1 - address) (busy.len - busy.bytes)

-- the record of a reception that ends so in that tick
abbrev pub ended : RxSet → Reception → SessionResult → ℕ → SessionRecord
ended set busy result tick = record {
  chan = set.chan;
  n = busy.n;
  len = busy.len;
  begin = record { 0 = busy.begin };
  bytes = busy.bytes;
  end = record { 0 = tick };
  opened = Some busy.opened;
  result = result;
}

-- a reception as its start begins it, before anything is granted
abbrev pub begun : (next len size bytes tick : ℕ) → OpenedAt → Reception
begun next len size bytes tick opened = record {
  n = next;
  len = len;
  size = size;
  begin = tick;
  bytes = bytes;
  number = 1;
  wait = Cf;
  since = tick;
  left = None;
  waits = 0;
  opened = opened;
}

-- where a consecutive frame is awaited, it is awaited anew from this tick on
abbrev pub awaited_since : RxWait → (before tick : ℕ) → ℕ
awaited_since Cf before tick = tick
awaited_since Box before tick = before
awaited_since Room before tick = before

-- one frame less may come, where their number has a limit
abbrev pub one_less : Option ℕ → Option ℕ
one_less None = None
one_less (Some frames) = Some (frames - 1)

-- the reception with so many bytes more, of a frame that ends its waits
abbrev pub gone_on : Reception → (more tick : ℕ) → Reception
gone_on busy more tick = record busy {
  bytes = busy.bytes + more;
  number = (busy.number + 1) % 16;
  since = awaited_since busy.wait busy.since tick;
  left = one_less busy.left;
  waits = 0;
}

-- what is waited for once its flow control left: room, where that asked to wait, and else a consecutive frame
abbrev pub awaited_after : Option ℕ → RxWait
awaited_after None = Cf
awaited_after (Some zero) = Room
awaited_after (Some (suc frames)) = Cf

-- the limit of what is waited for, in ticks
abbrev pub limit_of : RxSet → RxWait → ℕ
limit_of set Box = set.n_ar
limit_of set Room = set.n_br
limit_of set Cf = set.n_cr

-- the record of a start that finds no free buffer, by the pool word that it saw
abbrev pub refused : RxSet → (next len tick number free need : ℕ) → SessionRecord
refused set next len tick number free need = record {
  chan = set.chan;
  n = next;
  len = len;
  begin = record { 0 = tick };
  bytes = 0;
  end = record { 0 = tick };
  opened = None;
  result = Overflow number free need;
}

-- cells are put, one after another, and their bytes are published
abbrev pub puts : ℕ → ℕ → List ℕ → List Event
puts path seq cells = map (λ cell. Put path seq cell) cells ++ Published path seq (counted cells) ∷ []
