use Rattle.std.proofs.Common.{◌≡◌, true, false, Some, sym, ◌∙◌, refl}
use Rattle.std.specs.List.{list_all}
use Rattle.toml.specs.Data.{as_array}
use Rattle.toml.specs.View.{view, array_view}
use Rattle.gw_settings.specs.Readings.{is_group}
use Rattle.gw_settings.proofs.TreeLemmas.{all_of-values}
use Rattle.gw_settings.proofs.groups.groups_in.Goals as goal

pub returns-then-are_groups : goal.returns-then-are_groups
returns-then-are_groups c =
    let same : Some (array_view c.in_ok-array.array.now) ≡ as_array (view c.args.value.now) = rw c.in_ok-array.was at c.as_array.ensures in
    let all : list_all (λ value. is_group (view value)) c.in_ok-array.array.now.items ≡ true = rw (← c.as_slice.ensures.value, ← c.are_groups.ensures) c.if-are_groups.true in
    rw c.count_of.ensures (sym (all_of-values is_group _ c.in_ok-array.array.now.items same ∙ rw all refl))

pub returns-else-are_groups : goal.returns-else-are_groups
returns-else-are_groups c =
    let same : Some (array_view c.in_ok-array.array.now) ≡ as_array (view c.args.value.now) = rw c.in_ok-array.was at c.as_array.ensures in
    let some_other : list_all (λ value. is_group (view value)) c.in_ok-array.array.now.items ≡ false = rw (← c.as_slice.ensures.value, ← c.are_groups.ensures) c.if-are_groups.false in
    sym (all_of-values is_group _ c.in_ok-array.array.now.items same ∙ rw some_other refl)
