use Rattle.std.proofs.Common.{◌+◌, arith}
use Rattle.std.proofs.lemmas.Bool.{eq-eqb, eqb-true}
use Rattle.std.proofs.lemmas.Nat.{bit_set_by_shift}
use Rattle.hub_shared.proofs.next.is_card_for.Goals as goal

pub returns-then-card-from : goal.returns-then-card-from
returns-then-card-from c =
    let bit = bit_set_by_shift c.args.card (c.args.sought.now.dest + 1) in (
      λ yes. record { session = omega (arith, c.if-card-from.true, c.from.ensures, c.from-2.ensures, c.fits-sought); dest = bit.0 (eqb-true _ _ yes) },
      λ is. eq-eqb _ _ (bit.1 is.dest),
    )
