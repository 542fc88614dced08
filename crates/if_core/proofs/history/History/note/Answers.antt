use Rattle.std.proofs.Common.{rules, ap, refl, ◌≡◌}
use Rattle.atomic_table.specs.Table.{keeps}
use Rattle.if_core.specs.Past.{done_to, lane_of}
use Rattle.if_core.specs.declared.history.Deed.{Deed}
use Rattle.if_core.proofs.history.History.note.Goals as goal

pub compare_exchange_with-requires : goal.compare_exchange_with-requires
compare_exchange_with-requires c =
    let before = lane_of c.args.self.now.seat.me.0 in
    let after = done_to c.args.deed.now before in (
      search rules,
      search rules,
      λ table holds there found small. (record { offers = after.offers; takes = after.takes }, keeps, tt, tt, λ deed is. let same : c.args.deed.now ≡ deed = cc in ap (λ (d : Deed). done_to d before) same),
    )

pub returns : goal.returns
returns c = c.compare_exchange_with.ensures.2 c.args.deed.now refl
