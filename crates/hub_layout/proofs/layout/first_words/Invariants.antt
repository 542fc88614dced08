use Rattle.std.proofs.Common.{◌≡◌}
use Rattle.hub_layout.proofs.layout.first_words.Given as goal
use Rattle.hub_layout.specs.Places.{first_word}
use Rattle.hub_layout.specs.Pool.{first_words}

abbrev pub invariant-loop-buf : goal.invariant-loop-buf
invariant-loop-buf l = (l.firsts.items ≡ first_words l.groups l.cells l.buf) × (l.next ≡ first_word l.groups l.cells l.buf)
