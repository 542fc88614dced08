-- A map in which a key is put after all others.
use Rattle.std.proofs.Common.{◌≡◌, List, [], ◌∷◌, Global, String, string_bytes, Ordering, Less, Equal, Greater, refl, ◌∙◌}
use Rattle.std.specs.BTreeMap.{insert_entry}
use Rattle.std.specs.Ordering.{match_ordering}
use Rattle.std.specs.String.{string_cmp}
use Rattle.toml.specs.View.{view, members_view}
use Rattle.toml.specs.declared.value.Value.{Value}
use Rattle.toml.proofs.Views.{view-Boolean, view-Integer, view-String, view-Array, view-Table}
use Rattle.config_text.specs.Puts.{put_name}

pub ruleset value_views = (view-Boolean, view-Integer, view-String, view-Array, view-Table)

match_members : (order : Ordering) (a b c : List (String Global × Value)) → members_view (match_ordering order a b c) ≡ match_ordering order (members_view a) (members_view b) (members_view c)
match_members Less a b c = refl
match_members Equal a b c = refl
match_members Greater a b c = refl

-- the map with a key put in
pub view-insert : (key : String Global) (value : Value) (entries : List (String Global × Value)) →
    members_view (insert_entry string_cmp entries key value) ≡ put_name (string_bytes key) (view value) (members_view entries)
view-insert key value [] = refl
view-insert key value (entry ∷ entries) = match_members (string_cmp key entry.0) _ _ _ ∙ rw (view-insert key value entries) refl

pub ruleset puts = view-insert
