use Rattle.hub_shared.proofs.hub.SharedHub.close.Given as goal
use Rattle.hub_shared.specs.Closing.{HasRead}

abbrev pub invariant-loop-group : goal.invariant-loop-group
invariant-loop-group l = HasRead l.self l.fn.seat l.seat l.group l.words.items
