-- Arrays and tables beside the lists of their elements and names.
use Rattle.std.proofs.Common.{◌≡◌, ℕ, Bool, true, false, ◌&&◌, if◌then◌else◌, Option, Some, None, Ok, Err, List, [], ◌∷◌, length, Global, String, string_bytes, refl, ap, sym, ◌∙◌, arith}
use Rattle.std.specs.List.{list_all}
use Rattle.std.specs.Map.{keys_of}
use Rattle.std.specs.Result.{result_ok}
use Rattle.toml.specs.Data.{Data, Items}
use Rattle.toml.specs.View.{view, items_view, members_view}
use Rattle.toml.specs.declared.value.Value.{Value}
use Rattle.gw_settings.specs.declared.fault.FaultKind.TheVariants.{WrongKind}
use Rattle.gw_settings.specs.Readings.{all_of, count_of}
use Rattle.gw_settings.specs.Tree.{elements, names}

-- an array has as many elements as values
pub length-elements : (values : List Value) → length (elements (items_view values)) ≡ length values
length-elements [] = refl
length-elements (value ∷ values) = grind (arith, length-elements values)

-- a test of each element is one of each value
pub list_all-elements : (test : Data → Bool) (values : List Value) → list_all test (elements (items_view values)) ≡ list_all (λ value. test (view value)) values
list_all-elements test [] = refl
list_all-elements test (value ∷ values) = ap (λ rest. test (view value) && rest) (list_all-elements test values)

-- a test of each name is one of each key
pub list_all-names : (test : List ℕ → Bool) (entries : List (String Global × Value)) →
    list_all test (names (members_view entries)) ≡ list_all (λ name. test (string_bytes name)) (keys_of entries)
list_all-names test [] = refl
list_all-names test (entry ∷ entries) = ap (λ rest. test (string_bytes entry.0) && rest) (list_all-names test entries)

pub ruleset element_counts = length-elements

chosen : (all : Bool) (count : ℕ) → result_ok (if all then Ok count else Err WrongKind) ≡ (if all then Some count else None)
chosen true count = refl
chosen false count = refl

-- the number of an array's elements, where its values are of one kind alone
pub all_of-values : (is_kind : Data → Bool) (items : Option Items) (values : List Value) → Some (items_view values) ≡ items →
    result_ok (all_of is_kind items) ≡ (if list_all (λ value. is_kind (view value)) values then Some (count_of (items_view values)) else None)
all_of-values is_kind items values same = rw (← same, list_all-elements is_kind values) (chosen _ _)

module _ (test : List ℕ → Bool) (entries : List (String Global × Value)) (rest : List (String Global))
    (so_far : list_all (λ name. test (string_bytes name)) rest ≡ list_all (λ name. test (string_bytes name)) (keys_of entries)) where
  -- the rest decides, and its first name fails
  pub fails_next : (name : String Global) (after : List (String Global)) → rest ≡ name ∷ after → test (string_bytes name) ≡ false → false ≡ list_all test (names (members_view entries))
  fails_next name after begins fails = sym (list_all-names test entries ∙ sym so_far ∙ rw (begins, fails) refl)

  -- the rest decides, and it is empty
  pub passes_all : rest ≡ [] → true ≡ list_all test (names (members_view entries))
  passes_all empty = sym (list_all-names test entries ∙ sym so_far ∙ rw empty refl)
