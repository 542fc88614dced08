use Rattle.std.proofs.Common.{Some, [], ◌∷◌, ◌++◌, length, refl, ap, ◌∙◌}
use Rattle.tp_receiver.specs.Table.{after_opening, begun, Grants, NoBufferFirst, Opened}
use Rattle.tp_receiver.specs.State.{RxState, reception_of, state_of}
use Rattle.tp_unit.specs.Unit.{FirstFrame, Offers, box_meaning_of}
use Rattle.tp_receiver.proofs.Composing.{idle-is, over-by, over-opened, over-same, over-starts}
use Rattle.tp_receiver.proofs.receiver.Receiver.first_frame.Goals as goal

pub returns-in-Err-clause-over : goal.returns-in-Err-clause-over
returns-in-Err-clause-over g c =
    over-starts _ _ _ _ _ (state_of c.args.self.now) (state_of c.interrupt-acts.new.self) _ (FirstFrame c.args.len c.args.bytes.now) _ _ (box_meaning_of c.told-told.result.fc) _ _ _ _ (record (state_of c.open.new.self) { refusing = Some c.args.tick.0 }) _ _ [] _
    c.interrupt-acts.ensures.over (ap (λ r. r.set) c.interrupt-acts.ensures.receiver) (ap state_of c.interrupt-acts.ensures.receiver) c.interrupt-acts.ensures.home.rise
    (over-by c.in-Err.ensures.refused (λ calls row. NoBufferFirst c.requires.more (record {
      number = row.number;
      free = row.free;
      need = row.need;
      need_is = row.need_is;
      calls = row.calls_are;
      act_is = c.told-told.ensures.fc ∙ ap Offers c.overflow.ensures;
      records = c.told-told.ensures.records ∙ ap (λ r. r ∷ []) row.told_is;
      new = ap (λ (s : RxState). record s { refusing = Some c.args.tick.0 }) c.in-Err.ensures.numbers;
    })))
    (c.then.ensures.moves ∙ ap (λ ms. c.interrupt-acts.result.moves.items ++ ms) c.told-told.ensures.moves) c.then.ensures.fc c.then.ensures.records
    refl

pub returns-in-Ok-clause-over : goal.returns-in-Ok-clause-over
returns-in-Ok-clause-over g c =
    over-starts _ _ _ _ _ (state_of c.args.self.now) (state_of c.interrupt-acts.new.self) _ (FirstFrame c.args.len c.args.bytes.now) _ _ (box_meaning_of c.after-begun.result.fc) _ _ _ _ (state_of c.grant-granted.new.self) _ _ _ _
    c.interrupt-acts.ensures.over (ap (λ r. r.set) c.interrupt-acts.ensures.receiver) (ap state_of c.interrupt-acts.ensures.receiver) c.interrupt-acts.ensures.home.rise
    (over-by (over-opened _ _ _ c.interrupt-acts.new.self.set c.interrupt-acts.new.self.next_seq c.args.size c.args.len c.args.bytes.now (reception_of c.in-Ok.reception).opened c.args.tick.0 (box_meaning_of c.grant-granted.result.fc) _ _ _ _ _ _ c.after-begun.result.moves.items
    (Grants c.interrupt-acts.new.self.set (after_opening (state_of c.interrupt-acts.new.self)) (begun c.interrupt-acts.new.self.next_n c.args.len c.args.size (length c.args.bytes.now) c.args.tick.0 (reception_of c.in-Ok.reception).opened))
    c.in-Ok.ensures.opened.over c.in-Ok.ensures.home.rise
    (over-same _ _ _ _ _ _ _ _ _ (λ set old busy calls. Grants set old busy (record { tick = c.args.tick.0; calls = calls; act = box_meaning_of c.grant-granted.result.fc; records = c.grant-granted.result.records.items; new = state_of c.grant-granted.new.self }))
    c.in-Ok.ensures.set (idle-is c.open.new.self c.in-Ok.ensures.state ∙ c.in-Ok.ensures.numbers) c.in-Ok.ensures.opened.is c.grant-granted.ensures.over)
    (c.after-begun.ensures.moves ∙ ap (λ m. m ∷ c.grant-granted.result.moves.items) c.taken-take.ensures) c.after-begun.ensures.fc c.after-begun.ensures.records)
    (λ calls row. Opened c.requires.more (reception_of c.in-Ok.reception).opened row.0 row.1 row.2))
    c.then-in-Ok.ensures.moves c.then-in-Ok.ensures.fc c.then-in-Ok.ensures.records
    refl
