-- The groups of buffers that a configuration is printed with are read as they are.
use Rattle.std.proofs.Common.{◌≡◌, ℕ, ◌≤◌, ◌^◌, ◌-◌, true, ◌&&◌, List, length, map, min, is_some, pos, Some, Ok, zero-add, refl, arith}
use Rattle.std.proofs.lemmas.Bool.{and_parts}
use Rattle.std.proofs.lemmas.List.{length-map}
use Rattle.std.specs.List.{list_all}
use Rattle.toml.specs.Data.{Data, integer, as_integer}
use Rattle.gw_settings.specs.declared.key.Key.TheVariants as key
use Rattle.gw_settings.specs.declared.table_kind.TableKind.TheVariants as table
use Rattle.gw_settings.specs.Readings.{group_size, is_group}
use Rattle.gw_settings.specs.Tree.{element_at, group_element}
use Rattle.gw_config.specs.declared.keys.TheConstants as row
use Rattle.gw_config.specs.Groups.{buffer_at, group_at, group_fits}
use Rattle.gw_config.specs.Rows.{each_from, list_fits, number_fits}
use Rattle.config_text.specs.Printed.{group_value}
use Rattle.config_text.proofs.ReadBack.{all_fit, all_pass, each_back, elements-items_of, few}

-- a printed group is an array of integers alone
pub is_group-value : (group : List ℕ) → is_group (group_value group) ≡ true
is_group-value group =
    rw (elements-items_of (map (λ cells. integer (pos cells)) group), all_pass (λ cells. integer (pos cells)) (λ element. is_some (as_integer element)) (λ cells. refl) group) refl

module _ (root : Data) (index : ℕ) (group : List ℕ) (fits : group_fits group ≡ true) (stands : element_at root table.Top 0 key.Groups index ≡ Some (group_value group)) where
  count_fits : list_fits row.GROUP (length group) ≡ true
  count_fits = (and_parts (list_fits row.GROUP (length group)) (list_all (number_fits row.GROUP_BUFFER) group) fits).0

  each_fits : list_all (number_fits row.GROUP_BUFFER) group ≡ true
  each_fits = (and_parts (list_fits row.GROUP (length group)) (list_all (number_fits row.GROUP_BUFFER) group) fits).1

  size_back : group_size root index ≡ Ok (length group)
  size_back =
      let few_buffers : length group ≤ 2 ^ 32 - 1 = few 1 32 (length group) count_fits (omega arith) in
      let least : min (length group) (2 ^ 32 - 1) ≡ length group = omega (arith, few_buffers) in
      rw (stands, elements-items_of (map (λ cells. integer (pos cells)) group), length-map group (λ cells. integer (pos cells)), least) refl

  buffers_back : each_from (buffer_at root index) 0 (length group) ≡ Ok group
  buffers_back =
      each_back (λ cells. integer (pos cells)) (λ cells. number_fits row.GROUP_BUFFER cells ≡ true) (buffer_at root index) (group_element root index)
      (λ at cells fit is. rw (is, fit) refl) group 0 (all_fit (number_fits row.GROUP_BUFFER) group each_fits)
      (λ k. rw (stands, zero-add k) refl)

  pub group_back : group_at root index ≡ Ok group
  group_back = rw (size_back, count_fits, buffers_back) refl
