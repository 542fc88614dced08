-- A hub's closing reads one more word.
use Rattle.std.proofs.Common.{◌≡◌, ℕ, ◌+◌, ◌/◌, ◌%◌, ◌^◌, ◌<◌, inl, inr, zero, suc, List, [], ◌∷◌, ◌++◌, length, get_or, refl, ap, sym, ◌∙◌, subst, arith, length-append}
use Rattle.std.proofs.lemmas.Bool.Decides.{eqb_tells}
use Rattle.hub_core.specs.Groups.{IsWordOf}
use Rattle.hub_core.specs.Joint.{Joint}
use Rattle.hub_core.specs.View.{View}
use Rattle.hub_shared.specs.Closing.{HasRead}
use Rattle.hub_shared.specs.Seats.{IsSeatOf, as_port, groups_of, parts_of, seat_view}
use Rattle.hub_shared.specs.declared.hub.SharedHub.{SharedHub}
use Rattle.hub_shared.specs.declared.seat.HubSeat.{HubSeat}

before-last : (words : List ℕ) (word i : ℕ) → i < length words → get_or (words ++ word ∷ []) i 0 ≡ get_or words i 0
before-last [] word i below = absurd (omega (arith, below))
before-last (x ∷ words) word zero below = refl
before-last (x ∷ words) word (suc i) below = before-last words word i (omega (arith, below))

the-last : (words : List ℕ) (word : ℕ) → get_or (words ++ word ∷ []) (length words) 0 ≡ word
the-last [] word = refl
the-last (x ∷ words) word = the-last words word

pub reads-more : (hub : SharedHub) (first seat next : HubSeat) (group word : ℕ) (words more : List ℕ) → parts_of first ≡ 1024 → HasRead hub first seat group words → IsSeatOf hub next × (as_port next ≡ as_port seat) →
    (parts_of seat ≡ 1024 → IsWordOf (groups_of hub) group (seat_view seat) (word / 2 ^ 32) (word % 2 ^ 32)) → (parts_of seat ≡ 1024 → Joint (groups_of hub) (seat_view seat)) → more ≡ words ++ word ∷ [] → HasRead hub first next (group + 1) more
reads-more hub first seat next group word words more all so same word-is joint is = record {
  of = same.0;
  same = same.1 ∙ so.same;
  long = ap (λ (l : List ℕ). length l) is ∙ length-append words (word ∷ []) ∙ omega (arith, so.long);
  words_are = λ g below. elim (eqb_tells g group) [
    | inl here ↦
        subst (λ (x : ℕ × ℕ). IsWordOf (groups_of hub) x.0 (seat_view first) (x.1 / 2 ^ 32) (x.1 % 2 ^ 32)) (λ i. (sym here.1 i, sym (last g here.1) i))
        (subst (λ (v : View). IsWordOf (groups_of hub) group v (word / 2 ^ 32) (word % 2 ^ 32)) (ap (λ p. p.view) so.same) (word-is parts))
    | inr other ↦
        let low : g < group = omega (arith, below, other.1) in
        subst (λ (n : ℕ). IsWordOf (groups_of hub) g (seat_view first) (n / 2 ^ 32) (n % 2 ^ 32)) (sym (ap (λ (l : List ℕ). get_or l g 0) is ∙ before-last words word g (omega (arith, low, so.long)))) (so.words_are g low)
  ];
  joint = λ some. subst (Joint (groups_of hub)) (ap (λ p. p.view) so.same) (joint parts);
}
  where
    parts : parts_of seat ≡ 1024
    parts = ap (λ p. p.home.1) so.same ∙ all

    last : (g : ℕ) → g ≡ group → get_or more g 0 ≡ word
    last g here = ap (λ (l : List ℕ). get_or l g 0) is ∙ ap (λ (n : ℕ). get_or (words ++ word ∷ []) n 0) (here ∙ sym so.long) ∙ the-last words word
