use Rattle.std.proofs.Common.{refl, arith, ◌∙◌}
use Rattle.hub_core.proofs.Fresh.{rise-same, rise-twice}
use Rattle.tp_sender.proofs.Reading.{reads-none, reads-more}
use Rattle.tp_sender.proofs.turn.read_cells.Goals as goal

pub loop-port-init : goal.loop-port-init
loop-port-init g c = (reads-none c.args.wanted c.args.live.now _ _ c.requires.reads, record { rise = rise-same _; home = refl })

pub loop-port-preserved : goal.loop-port-preserved
loop-port-preserved g c = (
  reads-more _ _ c.loop-port.live _ c.read-cell.result _ _ _ _ _ _ c.loop-port.invariant.0 (omega arith) c.if-live.true c.read-cell.ensures.cell
      (record { token = c.read-cell.ensures.token; carry = c.add.ensures.bytes; begin = refl; sent = refl; number = refl; block = refl; gap = refl; phase = refl; since = refl })
      c.read-cell.ensures.view c.read-cell.ensures.reads c.read-cell.ensures.stays.by c.read-cell.ensures.stays.means,
  record { rise = rise-twice _ _ _ c.loop-port.invariant.1.rise c.read-cell.ensures.stays.rise; home = c.read-cell.ensures.stays.home ∙ c.loop-port.invariant.1.home },
)
