-- The line stands behind what is held.
use Rattle.std.proofs.Common.{refl}
use Rattle.candump_log.proofs.Texts.{added_text}
use Rattle.candump_log.proofs.writer.LogWriter.write.Goals as goal

pub returns-clause-line : goal.returns-clause-line
returns-clause-line g c is =
    added_text _ _ c.args.self.now c.make_room.new.self _ _ (c.make_room.ensures.text is) refl (rw (c.as_slice.ensures.value, c.frame_line-line.ensures.text) at c.add.ensures)
