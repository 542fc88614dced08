use Rattle.std.proofs.Common.{◌∙◌, List, [], ℕ, ap, sym, subst}
use Rattle.atomic_table.specs.Table.{opening}
use Rattle.hub_core.specs.Groups.{grouped}
use Rattle.hub_layout.specs.Places.{words_in}
use Rattle.hub_shared.proofs.Seats.{opens-at}
use Rattle.hub_shared.proofs.hub.SharedHub.new.Goals as goal
use Rattle.hub_shared.specs.Rule.{Kept}
use Rattle.hub_shared.specs.Sights.{newcomer}

pub of_words-requires : goal.of_words-requires
of_words-requires c =
    let counts = c.in_ok-from_slice-2.ensures.items in
    let cells = c.in_ok-from_slice.ensures.items in
    let words = c.deref.ensures.value in
    let P : List ℕ × List ℕ × List ℕ → Type 0 = λ x. Kept (grouped x.0 x.1) (opening x.2 [] (newcomer (grouped x.0 x.1))) in
    subst P (λ i. (sym counts i, sym cells i, sym words i))
    (opens-at c.args.counts.now c.args.cells.now c.in_ok-words.words.items c.requires (c.in_ok-words.ensures.all ∙ ap (λ l. words_in l.groups l.cells) c.of-layout.ensures) c.in_ok-words.ensures.pools c.in_ok-words.ensures.others)
