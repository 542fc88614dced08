use Rattle.std.proofs.Common.{◌≡◌, ◌∙◌, ◌+◌, ◌^◌, ◌≤◌, ℕ, arith, ap}
use Rattle.std.proofs.Math.Nat.{pow-le-pow_right}
use Rattle.hub_shared.proofs.enter.card_of.Goals as goal
use Rattle.pool_words.proofs.Bits.{power}

pub returns : goal.returns
returns c =
    let most : 2 ^ c.args.readers ≤ 2 ^ 8 = pow-le-pow_right (omega arith) c.requires in
    let next : 2 ^ (c.args.readers + 1) ≡ 2 ^ c.args.readers + 2 ^ c.args.readers = ap (λ (e : ℕ). 2 ^ e) (omega arith) ∙ power c.args.readers in
    omega (arith, most, next, c.from.ensures, c.from-2.ensures, c.ranges)
