use Rattle.std.proofs.Common.{refl, arith}
use Rattle.hub_core.proofs.Fresh.{rise-twice}
use Rattle.tp_sender.proofs.Turns.{fills-enough, fills-short, port-offered}
use Rattle.tp_sender.proofs.turn.fill.Goals as goal

pub returns-then-len-part-clause-step : goal.returns-then-len-part-clause-step
returns-then-len-part-clause-step g c =
    fills-enough c.args.set.now c.args.live _ _ c.seen-seen.result _ _ _ _ _ _ _ c.requires.knows.path c.requires.knows.dest c.seen-seen.ensures.view c.seen-seen.ensures.fresh
    (record { token = c.seen-seen.ensures.token; carry = refl; begin = refl; sent = refl; number = refl; block = refl; gap = refl; phase = refl; since = refl }) _ c.next_part-part.ensures.part c.read_cells.ensures.cells c.offer.ensures.moved c.offer.ensures.offers

pub returns-then-len-part-clause-port : goal.returns-then-len-part-clause-port
returns-then-len-part-clause-port g c =
    port-offered c.args.set.now c.args.live _ _ _ c.seen-seen.result _ _ _ _ _ _ _ c.requires.knows
    (record { token = c.seen-seen.ensures.token; carry = refl; begin = refl; sent = refl; number = refl; block = refl; gap = refl; phase = refl; since = refl }) c.seen-seen.ensures.stays.by c.seen-seen.ensures.stays.means c.read_cells.ensures.cells c.offer.ensures.token

pub returns-clause-step : goal.returns-clause-step
returns-clause-step g c =
    fills-short c.args.set.now c.args.live _ _ c.seen-seen.result _ _ _ _ _ _ _ _ c.requires.knows.path c.requires.knows.dest c.seen-seen.ensures.view (rise-twice _ _ _ c.seen-seen.ensures.stays.rise c.read_cells.ensures.home.rise) c.seen-seen.ensures.fresh
    (record { token = c.seen-seen.ensures.token; carry = refl; begin = refl; sent = refl; number = refl; block = refl; gap = refl; phase = refl; since = refl }) _ c.next_part-part.ensures.part c.read_cells.ensures.cells (omega arith) c.lack.ensures.step
