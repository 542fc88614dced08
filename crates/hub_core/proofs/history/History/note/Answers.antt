use Rattle.std.proofs.Common.{rules, ap, refl, ◌≡◌, ◌∷◌}
use Rattle.atomic_table.specs.Table.{keeps}
use Rattle.hub_core.specs.declared.history.Deed.{Deed}
use Rattle.hub_core.proofs.history.History.note.Goals as goal

pub compare_exchange_with-requires : goal.compare_exchange_with-requires
compare_exchange_with-requires c =
    let before = c.args.self.now.seat.me.0.deeds in (
      search rules,
      search rules,
      λ table holds there found small. (record { deeds = c.args.deed ∷ before }, keeps, tt, tt, λ deed is. let same : c.args.deed ≡ deed = cc in ap (λ (d : Deed). d ∷ before) same),
    )

pub returns : goal.returns
returns c = c.compare_exchange_with.ensures.2 c.args.deed refl
