use Rattle.hub_core.proofs.row.room_left.Given as goal
use Rattle.hub_core.specs.Plain.{IsRoomTo}

abbrev pub invariant-loop-dest : goal.invariant-loop-dest
invariant-loop-dest l = IsRoomTo l.size l.put l.positions l.dest l.room
