use Rattle.std.proofs.Common.{[], length, refl, ap, ◌∙◌, arith}
use Rattle.std.proofs.lemmas.Bool.{iff_false}
use Rattle.tp_receiver.specs.State.{idle, state_of}
use Rattle.tp_receiver.specs.Table.{gone_on, After, Ends, GoesOn, GrantsAnew, puts, NoneReadsOn, TooLittleRoom, Adds, EndsBlock, Fills}
use Rattle.gw_base.specs.Cell.{counted}
use Rattle.hub_core.specs.declared.record.SessionResult.TheVariants.{NoReaders, NoRoom, Whole}
use Rattle.tp_receiver.proofs.Composing.{over-by, over-asked, over-put}
use Rattle.tp_receiver.proofs.receiver.Receiver.carry.Goals as goal

pub returns-then-room-eq0-clause-over : goal.returns-then-room-eq0-clause-over
returns-then-room-eq0-clause-over g c =
    rw (c.requires.state) (over-by
    (over-asked _ _ _ c.args.self.now.set c.args.reception c.room-room.result c.room-room.new.at _ _ _ _ _ (λ busy m. Ends c.args.self.now.set (idle (state_of c.args.self.now)) busy NoReaders m)
    c.requires.knows.path_is c.room-room.ensures.token c.room-room.ensures.view c.room-room.ensures.stays.rise c.room-room.ensures.fresh c.end.ensures.over)
    (λ calls row. NoneReadsOn c.room-room.result.cells c.room-room.result.readers c.if-room-eq0.true row))

pub returns-then-room-need-clause-over : goal.returns-then-room-need-clause-over
returns-then-room-need-clause-over g c =
    rw (c.requires.state) (over-by
    (over-asked _ _ _ c.args.self.now.set c.args.reception c.room-room.result c.room-room.new.at _ _ _ _ _ (λ busy m. Ends c.args.self.now.set (idle (state_of c.args.self.now)) busy (NoRoom c.room-room.result.cells c.len-need.result) m)
    c.requires.knows.path_is c.room-room.ensures.token c.room-room.ensures.view c.room-room.ensures.stays.rise c.room-room.ensures.fresh c.end-then-room-need.ensures.over)
    (λ calls row. TooLittleRoom c.room-room.result.cells c.room-room.result.readers c.len-need.result (omega (arith, c.if-room-eq0.false)) (c.len-need.ensures.value ∙ c.pack-cells.ensures.number) c.if-room-need.true row))

pub returns-then-reception-clause-over : goal.returns-then-reception-clause-over
returns-then-reception-clause-over g c =
    rw (c.requires.state) (over-by
    (over-asked _ _ _ c.args.self.now.set c.args.reception c.room-room.result c.room-room.new.at _ _ _ _ _
    (λ busy m. After (puts c.args.self.now.set.path.0 busy.opened.seq c.as_slice.result.now) m (Ends c.args.self.now.set (idle (state_of c.args.self.now)) (gone_on busy (length c.args.bytes.now) c.args.tick.0) Whole))
    c.requires.knows.path_is c.room-room.ensures.token c.room-room.ensures.view c.room-room.ensures.stays.rise c.room-room.ensures.fresh
    (over-put _ _ _ c.args.self.now.set (record c.args.reception { writer = c.room-room.new.at }) c.gone_on-reception.result c.put_all.new.writer c.as_slice.result.now (length c.args.bytes.now) c.args.tick.0 _ _ _ _
    (λ busy m. Ends c.args.self.now.set (idle (state_of c.args.self.now)) busy Whole m)
    (ap (λ p. p.0) c.room-room.ensures.token.path ∙ c.requires.knows.path_is) (ap counted c.as_slice.ensures.value ∙ c.pack-cells.ensures.counted) c.put_all.ensures.fields c.put_all.ensures.view c.put_all.ensures.home.rise c.gone_on-reception.ensures.busy c.end-then-reception.ensures.over))
    (λ calls row. Fills c.room-room.result.cells c.room-room.result.readers c.as_slice.result.now (omega (arith, c.if-room-eq0.false))
    (omega (arith, c.if-room-need.false, c.len-need.ensures.value, ap length c.as_slice.ensures.value)) (rw c.as_slice.ensures.value c.pack-cells.ensures.packed)
    (omega (arith, c.if-reception.true, ap (λ w. w.given) c.gone_on-reception.ensures.writer, ap (λ w. w.len) c.gone_on-reception.ensures.writer, c.put_all.ensures.fields.given, c.put_all.ensures.fields.len, c.room-room.ensures.token.given, c.room-room.ensures.token.len, ap counted c.as_slice.ensures.value, c.pack-cells.ensures.counted)) row))

pub returns-clause-over : goal.returns-clause-over
returns-clause-over g c =
    over-by
    (over-asked _ _ _ c.args.self.now.set c.args.reception c.room-room.result c.room-room.new.at _ _ _ _ _
    (λ busy m. After (puts c.args.self.now.set.path.0 busy.opened.seq c.as_slice.result.now) m (GoesOn (idle (state_of c.args.self.now)) (gone_on busy (length c.args.bytes.now) c.args.tick.0)))
    c.requires.knows.path_is c.room-room.ensures.token c.room-room.ensures.view c.room-room.ensures.stays.rise c.room-room.ensures.fresh
    (over-put _ _ _ c.args.self.now.set (record c.args.reception { writer = c.room-room.new.at }) c.gone_on-reception.result c.put_all.new.writer c.as_slice.result.now (length c.args.bytes.now) c.args.tick.0 _ _ _ _
    (λ busy m. GoesOn (idle (state_of c.args.self.now)) busy m)
    (ap (λ p. p.0) c.room-room.ensures.token.path ∙ c.requires.knows.path_is) (ap counted c.as_slice.ensures.value ∙ c.pack-cells.ensures.counted) c.put_all.ensures.fields c.put_all.ensures.view c.put_all.ensures.home.rise c.gone_on-reception.ensures.busy
    (record {
      calls = [];
      grown = refl;
      fresh = tt;
      moves_are = c.nothing.ensures.moves;
      row = record {
        more_due = omega (arith, c.if-reception.false, c.requires.within, ap (λ w. w.given) c.gone_on-reception.ensures.writer, ap (λ w. w.len) c.gone_on-reception.ensures.writer, c.put_all.ensures.fields.given, c.put_all.ensures.fields.len, c.room-room.ensures.token.given, c.room-room.ensures.token.len, ap counted c.as_slice.ensures.value, c.pack-cells.ensures.counted);
        calls = refl;
        act = c.nothing.ensures.fc;
        records = c.nothing.ensures.records;
        new = refl;
      };
    })))
    (λ calls row. Adds c.room-room.result.cells c.room-room.result.readers c.as_slice.result.now (omega (arith, c.if-room-eq0.false))
    (omega (arith, c.if-room-need.false, c.len-need.ensures.value, ap length c.as_slice.ensures.value)) (rw c.as_slice.ensures.value c.pack-cells.ensures.packed) (iff_false c.ends_block-ends_block.ensures c.if-ends_block.false) row)

pub returns-then-ends_block-clause-over : goal.returns-then-ends_block-clause-over
returns-then-ends_block-clause-over g c =
    over-by
    (over-asked _ _ _ c.args.self.now.set c.args.reception c.room-room.result c.room-room.new.at _ _ _ _ _
    (λ busy m. After (puts c.args.self.now.set.path.0 busy.opened.seq c.as_slice.result.now) m (GrantsAnew c.args.self.now.set (idle (state_of c.args.self.now)) (gone_on busy (length c.args.bytes.now) c.args.tick.0)))
    c.requires.knows.path_is c.room-room.ensures.token c.room-room.ensures.view c.room-room.ensures.stays.rise c.room-room.ensures.fresh
    (over-put _ _ _ c.args.self.now.set (record c.args.reception { writer = c.room-room.new.at }) c.gone_on-reception.result c.put_all.new.writer c.as_slice.result.now (length c.args.bytes.now) c.args.tick.0 _ _ _ _
    (λ busy m. GrantsAnew c.args.self.now.set (idle (state_of c.args.self.now)) busy m)
    (ap (λ p. p.0) c.room-room.ensures.token.path ∙ c.requires.knows.path_is) (ap counted c.as_slice.ensures.value ∙ c.pack-cells.ensures.counted) c.put_all.ensures.fields c.put_all.ensures.view c.put_all.ensures.home.rise c.gone_on-reception.ensures.busy
    (over-by c.grant.ensures.over (λ calls row. record {
      more_due = omega (arith, c.if-reception.false, c.requires.within, ap (λ w. w.given) c.gone_on-reception.ensures.writer, ap (λ w. w.len) c.gone_on-reception.ensures.writer, c.put_all.ensures.fields.given, c.put_all.ensures.fields.len, c.room-room.ensures.token.given, c.room-room.ensures.token.len, ap counted c.as_slice.ensures.value, c.pack-cells.ensures.counted);
      grants = row;
    }))))
    (λ calls row. EndsBlock c.room-room.result.cells c.room-room.result.readers c.as_slice.result.now (omega (arith, c.if-room-eq0.false))
    (omega (arith, c.if-room-need.false, c.len-need.ensures.value, ap length c.as_slice.ensures.value)) (rw c.as_slice.ensures.value c.pack-cells.ensures.packed) (c.ends_block-ends_block.ensures.0 c.if-ends_block.true) row)
