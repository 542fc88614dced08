use Rattle.std.proofs.Common.{◌≡◌, ◌<◌, ℕ, length, get_or}
use Rattle.hub_layout.specs.Places.{words_in}
use Rattle.hub_shared.proofs.make.first_words.Given as goal
use Rattle.hub_shared.specs.Rule.{AreClear}
use Rattle.pool_words.specs.Pools.{full_pool, pool_of}

abbrev pub invariant-loop-group : goal.invariant-loop-group
invariant-loop-group l = (length l.words.items ≡ words_in l.layout.groups l.layout.cells) × ((group : ℕ) → group < l.group → pool_of (get_or l.words.items group 0) ≡ full_pool (get_or l.counts group 0)) × AreClear (length l.counts) l.words.items
