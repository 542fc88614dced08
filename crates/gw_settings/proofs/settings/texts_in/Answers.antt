use Rattle.std.proofs.Common.{◌≡◌, true, false, Some, is_some, sym, ◌∙◌, refl}
use Rattle.std.specs.List.{list_all}
use Rattle.toml.specs.Data.{as_array, as_str}
use Rattle.toml.specs.View.{view, array_view}
use Rattle.gw_settings.proofs.TreeLemmas.{all_of-values}
use Rattle.gw_settings.proofs.settings.texts_in.Goals as goal

pub returns-then-are_texts : goal.returns-then-are_texts
returns-then-are_texts c =
    let same : Some (array_view c.in_ok-array.array.now) ≡ as_array (view c.args.value.now) = rw c.in_ok-array.was at c.as_array.ensures in
    let all : list_all (λ value. is_some (as_str (view value))) c.in_ok-array.array.now.items ≡ true = rw (← c.as_slice.ensures.value, ← c.are_texts.ensures) c.if-are_texts.true in
    rw c.count_of.ensures (sym (all_of-values (λ element. is_some (as_str element)) _ c.in_ok-array.array.now.items same ∙ rw all refl))

pub returns-else-are_texts : goal.returns-else-are_texts
returns-else-are_texts c =
    let same : Some (array_view c.in_ok-array.array.now) ≡ as_array (view c.args.value.now) = rw c.in_ok-array.was at c.as_array.ensures in
    let some_other : list_all (λ value. is_some (as_str (view value))) c.in_ok-array.array.now.items ≡ false = rw (← c.as_slice.ensures.value, ← c.are_texts.ensures) c.if-are_texts.false in
    sym (all_of-values (λ element. is_some (as_str element)) _ c.in_ok-array.array.now.items same ∙ rw some_other refl)
