use Rattle.std.proofs.Common.{◌≡◌, ◌+◌, arith, sym, subst}
use Rattle.std.proofs.lemmas.Option.{get_or_from_slice_get}
use Rattle.hub_core.proofs.Scans.{position-read, readers-most, room-none, room-some}
use Rattle.hub_core.proofs.row.room_left.Goals as goal
use Rattle.hub_core.proofs.row.room_left.Goals.{in-Some, in_default}
use Rattle.hub_core.specs.Plain.{IsRoomTo}

pub narrowed-room-requires : goal.narrowed-room-requires
narrowed-room-requires c = omega (arith, c.loop-dest.invariant.readers, readers-most c.args.positions.now c.loop-dest.dest, c.loop-dest-test.true)

pub loop-dest-preserved : goal.loop-dest-preserved
loop-dest-preserved c = elim c.match-positions-dest.branch [
  | in-Some w ↦
      let there = position-read c.args.positions.now c.loop-dest.dest w.in-Some.at w.in-Some.is in
      subst (IsRoomTo c.args.size c.args.put c.args.positions.now (c.loop-dest.dest + 1)) (sym w.room-is)
      (room-some c.args.size c.args.put c.loop-dest.dest w.in-Some.at c.args.positions.now c.loop-dest.room w.narrowed-room.result there (c.requires c.loop-dest.dest w.in-Some.at c.loop-dest-test.true there)
      w.narrowed-room.ensures.readers w.narrowed-room.ensures.cells w.narrowed-room.ensures.one c.loop-dest.invariant)
  | in_default w ↦
      subst (IsRoomTo c.args.size c.args.put c.args.positions.now (c.loop-dest.dest + 1)) (sym w.room-is)
      (room-none c.args.size c.args.put c.loop-dest.dest c.args.positions.now c.loop-dest.room (λ at is. w.in_default.not-Some at (get_or_from_slice_get c.args.positions.now c.loop-dest.dest _ _ is)) c.loop-dest.invariant)
]

pub returns : goal.returns
returns c = subst (λ n. IsRoomTo c.args.size c.args.put c.args.positions.now n c.loop-dest.room) (let all : c.loop-dest.dest ≡ 8 = omega (arith, c.loop-dest-test.false, c.loop-dest.auto.dest-end) in all) c.loop-dest.invariant
