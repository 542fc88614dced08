use Rattle.std.proofs.Common.{◌∙◌, arith}
use Rattle.std.proofs.lemmas.Bool.Decides.{nat_tests}
use Rattle.cell_stream.proofs.Packs.{packed-none, packed-more, packed-counted}
use Rattle.cell_stream.proofs.packing.pack.Goals as goal

pub loop-rest-init : goal.loop-rest-init
loop-rest-init c = packed-none _ _ c.new-cells.ensures

pub loop-rest-preserved : goal.loop-rest-preserved
loop-rest-preserved c =
    packed-more _ _ _ _ _ _ _ c.min.ensures (grind (arith, nat_tests)) c.cell_of.ensures.cell (c.cell_of.ensures.bytes ∙ c.split_at.ensures.front) c.loop-rest.invariant c.push.ensures.items c.split_at.ensures.back

pub returns-clause-counted : goal.returns-clause-counted
returns-clause-counted c = packed-counted _ _ _ (grind (arith, nat_tests)) c.loop-rest.invariant
