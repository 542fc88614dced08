use Rattle.std.proofs.Common.{◌≡◌, true, false, Some, is_some, sym, ◌∙◌, refl}
use Rattle.std.specs.List.{list_all}
use Rattle.toml.specs.Data.{as_array, as_table}
use Rattle.toml.specs.View.{view, array_view}
use Rattle.gw_settings.proofs.TreeLemmas.{all_of-values}
use Rattle.gw_settings.proofs.settings.tables_in.Goals as goal

pub returns-then-are_tables : goal.returns-then-are_tables
returns-then-are_tables c =
    let same : Some (array_view c.in_ok-array.array.now) ≡ as_array (view c.args.value.now) = rw c.in_ok-array.was at c.as_array.ensures in
    let all : list_all (λ value. is_some (as_table (view value))) c.in_ok-array.array.now.items ≡ true = rw (← c.as_slice.ensures.value, ← c.are_tables.ensures) c.if-are_tables.true in
    rw c.count_of.ensures (sym (all_of-values (λ element. is_some (as_table element)) _ c.in_ok-array.array.now.items same ∙ rw all refl))

pub returns-else-are_tables : goal.returns-else-are_tables
returns-else-are_tables c =
    let same : Some (array_view c.in_ok-array.array.now) ≡ as_array (view c.args.value.now) = rw c.in_ok-array.was at c.as_array.ensures in
    let some_other : list_all (λ value. is_some (as_table (view value))) c.in_ok-array.array.now.items ≡ false = rw (← c.as_slice.ensures.value, ← c.are_tables.ensures) c.if-are_tables.false in
    sym (all_of-values (λ element. is_some (as_table element)) _ c.in_ok-array.array.now.items same ∙ rw some_other refl)
