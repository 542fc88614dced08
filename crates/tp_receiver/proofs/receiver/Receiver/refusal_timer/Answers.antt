use Rattle.std.proofs.Common.{refl, ap}
use Rattle.std.specs.Prelude.{option_map}
use Rattle.std.proofs.lemmas.Bool.{iff_false}
use Rattle.std.proofs.Math.Nat.{lt_of_not-le}
use Rattle.gw_base.specs.declared.numbers.Tick.{Tick}
use Rattle.tp_receiver.specs.Table.{MayLie, Revoked}
use Rattle.tp_receiver.proofs.receiver.Receiver.refusal_timer.Goals as goal

pub returns-then-not-is_over-clause-row : goal.returns-then-not-is_over-clause-row
returns-then-not-is_over-clause-row c =
    MayLie c.in-Some.since.0 (ap (option_map (λ (since : Tick). since.0)) c.in-Some.is) (lt_of_not-le (iff_false c.is_over.ensures c.if-not-is_over.true))
    (record { calls = refl; act = c.nothing-then-not-is_over.ensures.fc; records = c.nothing-then-not-is_over.ensures.records; new = rw (c.requires.state) refl })

pub returns-clause-row : goal.returns-clause-row
returns-clause-row c =
    Revoked c.in-Some.since.0 (ap (option_map (λ (since : Tick). since.0)) c.in-Some.is) (c.is_over.ensures.0 c.if-not-is_over.false)
    (record { calls = refl; act_is = c.boxed.ensures.fc; records = c.boxed.ensures.records; new = rw (c.requires.state) refl })
