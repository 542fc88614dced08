use Rattle.std.proofs.Common.{◌≡◌, ◌-◌, ◌/◌, ◌^◌, ◌≤◌}
use Rattle.hub_shared.proofs.hub.SharedHub.take_by.Given as goal
use Rattle.hub_shared.specs.Plays.{with_look}
use Rattle.hub_shared.specs.Sights.{floors_at}

abbrev pub invariant-loop-take : goal.invariant-loop-take
invariant-loop-take l = (l.seat.table_id ≡ l.fn.seat.table_id) × (l.seat.me ≡ (with_look l.group.0 l.word l.fn.seat.me.0, l.fn.seat.me.1)) × ((floors_at l.fn.seat.me.0).changes l.group.0 ≤ l.word / 2 ^ 32) × (l.word / 2 ^ 32 ≤ 8000000)

abbrev pub decreases-loop-take : goal.decreases-loop-take
decreases-loop-take l = 8000001 - l.word / 2 ^ 32
