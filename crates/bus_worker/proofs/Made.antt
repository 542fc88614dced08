-- What a machine's calls made stands in a view, and still stands there after further calls of whoever made them.
use Rattle.std.proofs.Common.{◌≡◌, zero, suc, ℕ, List, [], ◌∷◌, ◌++◌, refl, ap, sym, ◌∙◌, subst, append-nil, append_assoc}
use Rattle.std.specs.Prelude.{Some, slice_get}
use Rattle.std.specs.List.{AllByRecursion, flat_map}
use Rattle.std.proofs.lemmas.Grind.{flat_map-append}
use Rattle.gw_base.proofs.Lists.{all-join, all-weaker, slice_get-more}
use Rattle.hub_core.proofs.Beside.{change_by, changes-added, refusal_by, refused-added}
use Rattle.hub_core.specs.View.{Change, Event, Refusal, View, empty_view, grow, grows}
use Rattle.gw_law.specs.Deeds.{IsMadeIn, StandsIn, own_view}

-- what calls add
pub changes-of : (calls : List Event) (v : View) → (grows calls v).changes ≡ v.changes ++ flat_map change_by calls
changes-of [] v = sym (append-nil v.changes)
changes-of (call ∷ calls) v = changes-of calls (grow call v) ∙ ap (λ l. l ++ flat_map change_by calls) (changes-added call v) ∙ append_assoc v.changes (change_by call) (flat_map change_by calls)

pub refused-of : (calls : List Event) (v : View) → (grows calls v).refused ≡ v.refused ++ flat_map refusal_by calls
refused-of [] v = sym (append-nil v.refused)
refused-of (call ∷ calls) v = refused-of calls (grow call v) ∙ ap (λ l. l ++ flat_map refusal_by calls) (refused-added call v) ∙ append_assoc v.refused (refusal_by call) (flat_map refusal_by calls)

-- items that stand in a list stand in it with others before or after them
front : {A : Type 0} (xs ys zs : List A) → AllByRecursion (StandsIn ys) xs → AllByRecursion (StandsIn (ys ++ zs)) xs
front xs ys zs all = all-weaker (StandsIn ys) (StandsIn (ys ++ zs)) xs (λ x is. (is.0, slice_get-more ys zs is.0 x is.1)) all

past : {A : Type 0} (ys xs : List A) (place : ℕ) (x : A) → slice_get xs place ≡ Some x → StandsIn (ys ++ xs) x
past [] xs place x is = (place, is)
past (y ∷ ys) xs place x is = let so = past ys xs place x is in (suc so.0, so.1)

back : {A : Type 0} (xs ys : List A) → AllByRecursion (StandsIn (ys ++ xs)) xs
back [] ys = tt
back {A = A} (x ∷ xs) ys =
    let P : List A → Type 0 = λ l. AllByRecursion (StandsIn l) xs in
    (past ys (x ∷ xs) zero x refl, subst P (append_assoc ys (x ∷ []) xs) (back xs (ys ++ x ∷ [])))

-- after some calls of others
pub made-stays : (calls others : List Event) (v w : View) → w ≡ grows others v → IsMadeIn v calls → IsMadeIn w calls
made-stays calls others v w is made =
    let C : List Change → Type 0 = λ l. AllByRecursion (StandsIn l) (own_view calls).changes in
    let R : List Refusal → Type 0 = λ l. AllByRecursion (StandsIn l) (own_view calls).refused in
    record {
      changes = subst C (sym (ap (λ (x : View). x.changes) is ∙ changes-of others v)) (front (own_view calls).changes v.changes (flat_map change_by others) made.changes);
      refused = subst R (sym (ap (λ (x : View). x.refused) is ∙ refused-of others v)) (front (own_view calls).refused v.refused (flat_map refusal_by others) made.refused);
    }

-- of items that each call adds: those before and those of further calls stand in all
added : {A : Type 0} (by : Event → List A) (old new : List A) (calls more : List Event) → new ≡ old ++ flat_map by more → AllByRecursion (StandsIn old) (flat_map by calls) → AllByRecursion (StandsIn new) (flat_map by (calls ++ more))
added {A = A} by old new calls more is stands =
    let P : List A → Type 0 = λ l. AllByRecursion (StandsIn l) (flat_map by (calls ++ more)) in
    let Q : List A → Type 0 = λ l. AllByRecursion (StandsIn (old ++ flat_map by more)) l in
    subst P (sym is) (subst Q (sym (flat_map-append by calls more)) (all-join (StandsIn (old ++ flat_map by more)) (flat_map by calls) (flat_map by more) (front (flat_map by calls) old (flat_map by more) stands) (back (flat_map by more) old)))

-- after some calls of its own
pub made-more : (calls more : List Event) (v w : View) → w ≡ grows more v → IsMadeIn v calls → IsMadeIn w (calls ++ more)
made-more calls more v w is made =
    let C : List Change → Type 0 = λ l. AllByRecursion (StandsIn w.changes) l in
    let R : List Refusal → Type 0 = λ l. AllByRecursion (StandsIn w.refused) l in
    let C' : List Change → Type 0 = λ l. AllByRecursion (StandsIn v.changes) l in
    let R' : List Refusal → Type 0 = λ l. AllByRecursion (StandsIn v.refused) l in
    record {
      changes = subst C (sym (changes-of (calls ++ more) empty_view)) (added change_by v.changes w.changes calls more (ap (λ (x : View). x.changes) is ∙ changes-of more v) (subst C' (changes-of calls empty_view) made.changes));
      refused = subst R (sym (refused-of (calls ++ more) empty_view)) (added refusal_by v.refused w.refused calls more (ap (λ (x : View). x.refused) is ∙ refused-of more v) (subst R' (refused-of calls empty_view) made.refused));
    }
