-- A buffer that one seat holds, as seats change, are divided and joined.
use Rattle.std.proofs.Common.{◌≡◌, ◌≢◌, ℕ, ◌+◌, ◌≤◌, ◌⊎◌, inl, inr, List, [], ◌∷◌, ◌++◌, set, Option, Some, None, refl, ap, sym, ◌∙◌, arith}
use mathlib.Core.Option.{some}
use lib.ListN.{get_elem?}
use Rattle.atomic_table.proofs.Lists.{at_set}
use Rattle.hub_core.specs.Parts.{first_of}
use Rattle.hub_core.specs.View.{Taking}
use Rattle.hub_shared.proofs.Dealt.{each-set, each-added, total-set, total-two, total-added}
use Rattle.hub_shared.specs.Counts.{counts_some, IsHeldByOne}
use Rattle.hub_shared.specs.declared.sight.Sight.{Sight}

module _ (own : Sight → Option Taking) (whole : Option Taking) (views : List Sight) (so : IsHeldByOne own whole views) (id : ℕ) (v : Sight) (at : get_elem? views id ≡ some v) where
  abbrev Holds : Option Taking → Sight → Type 0
  Holds all u = (own u ≡ None) ⊎ (own u ≡ all)

  -- a seat keeps what it holds
  pub held-same : (w : Sight) → own w ≡ own v → IsHeldByOne own whole (set views id w)
  held-same w same = record {
    one = let t = total-set (λ u. counts_some (own u)) views id v w at in omega (arith, t, so.one, ap counts_some same);
    each = each-set (λ j u. Holds whole u) views id w (elim (so.each id v at) [ inl none ↦ inl (same ∙ none) | inr all ↦ inr (same ∙ all) ]) (λ j u other is. so.each j u is);
  }

  -- nobody holds a buffer that isn't held
  nobody : whole ≡ None → (j : ℕ) (u : Sight) → get_elem? views j ≡ some u → own u ≡ None
  nobody none j u is = elim (so.each j u is) [ inl mine ↦ mine | inr all ↦ all ∙ none ]

  -- a seat takes it
  pub held-taken : (w : Sight) (t : Taking) → whole ≡ None → own w ≡ Some t → IsHeldByOne own (Some t) (set views id w)
  held-taken w t none mine = record {
    one = let n = total-set (λ u. counts_some (own u)) views id v w at in omega (arith, n, so.one, ap counts_some none, ap counts_some mine, ap counts_some (nobody none id v at));
    each = each-set (λ j u. Holds (Some t) u) views id w (inr mine) (λ j u other is. inl (nobody none j u is));
  }

  -- who has it is the only one
  pub others-none : (t : Taking) → own v ≡ Some t → (j : ℕ) (u : Sight) → j ≢ id → get_elem? views j ≡ some u → own u ≡ None
  others-none t mine j u other is = go (own u) refl
    where
      most : counts_some whole ≤ 1
      most = few whole
        where
          few : (x : Option Taking) → counts_some x ≤ 1
          few None = omega arith
          few (Some y) = omega arith

      go : (x : Option Taking) → own u ≡ x → own u ≡ None
      go None none = none
      go (Some y) theirs = absurd (let h = total-two (λ x. counts_some (own x)) views id j v u (λ e. other (sym e)) at is in omega (arith, h, so.one, most, ap counts_some mine, ap counts_some theirs))

  -- and uses it
  pub held-used : (w : Sight) (t : Taking) → own v ≡ Some t → own w ≡ None → IsHeldByOne own None (set views id w)
  held-used w t mine none = record {
    one = let n = total-set (λ u. counts_some (own u)) views id v w at in let m = whole-is in omega (arith, n, so.one, ap counts_some m, ap counts_some mine, ap counts_some none);
    each = each-set (λ j u. Holds None u) views id w (inl none) (λ j u other is. inl (others-none t mine j u other is));
  }
    where
      whole-is : whole ≡ Some t
      whole-is = elim (so.each id v at) [ inl nothing ↦ absurd (let no : None ≡ Some t = sym nothing ∙ mine in cc) | inr all ↦ sym all ∙ mine ]

  -- a seat is divided, and keeps it
  pub held-divided : (l r : Sight) → own l ≡ own v → own r ≡ None → IsHeldByOne own whole (set views id l ++ r ∷ [])
  held-divided l r same none = record {
    one =
        let t = total-set (λ u. counts_some (own u)) views id v l at in
        let n = total-added (λ u. counts_some (own u)) (set views id l) r in
        omega (arith, t, n, so.one, ap counts_some same, ap counts_some none);
    each = each-added (λ j u. Holds whole u) (set views id l) r (λ j. inl none)
        (each-set (λ j u. Holds whole u) views id l (elim (so.each id v at) [ inl nothing ↦ inl (same ∙ nothing) | inr all ↦ inr (same ∙ all) ]) (λ j u other is. so.each j u is));
  }

  -- a seat takes in another
  pub held-joined : (other : ℕ) (w b gone : Sight) → other ≢ id → get_elem? (set views id b) other ≡ some w → own b ≡ first_of (own w) (own v) → own gone ≡ None → IsHeldByOne own whole (set (set views id b) other gone)
  held-joined other w b gone apart found is none = record {
    one =
        let t = total-set (λ u. counts_some (own u)) views id v b at in
        let n = total-set (λ u. counts_some (own u)) (set views id b) other w gone found in
        omega (arith, t, n, so.one, ap counts_some none, sum);
    each = each-set (λ j u. Holds whole u) (set views id b) other gone (inl none)
        (λ j u ne e. each-set (λ i x. Holds whole x) views id b (mine (so.each id v at) (so.each other w theirs)) (λ i x away was. so.each i x was) j u e);
  }
    where
      theirs : get_elem? views other ≡ some w
      theirs = elim (at_set views id other b w found) [ inl same ↦ absurd (apart same.0) | inr was ↦ was.1 ]

      first-none : (x y : Option Taking) → x ≡ None → first_of x y ≡ y
      first-none x y none = ap (λ z. first_of z y) none

      first-some : (x y : Option Taking) (t : Taking) → x ≡ Some t → first_of x y ≡ Some t
      first-some x y t has = ap (λ z. first_of z y) has

      mine : Holds whole v → Holds whole w → Holds whole b
      mine hv hw = go (own w) refl
        where
          go : (x : Option Taking) → own w ≡ x → Holds whole b
          go None nothing = elim hv [ inl empty ↦ inl (is ∙ first-none (own w) (own v) nothing ∙ empty) | inr all ↦ inr (is ∙ first-none (own w) (own v) nothing ∙ all) ]
          go (Some t) has = elim hw [ inl empty ↦ absurd (let no : None ≡ Some t = sym empty ∙ has in cc) | inr all ↦ inr (is ∙ first-some (own w) (own v) t has ∙ sym has ∙ all) ]

      sum : counts_some (own b) ≡ counts_some (own v) + counts_some (own w)
      sum = go (own w) refl
        where
          go : (x : Option Taking) → own w ≡ x → counts_some (own b) ≡ counts_some (own v) + counts_some (own w)
          go None nothing = omega (arith, ap counts_some (is ∙ first-none (own w) (own v) nothing), ap counts_some nothing)
          go (Some t) has =
              let none-mine = others-none-of t has in
              omega (arith, ap counts_some (is ∙ first-some (own w) (own v) t has), ap counts_some has, ap counts_some none-mine)
            where
              others-none-of : (t : Taking) → own w ≡ Some t → own v ≡ None
              others-none-of t has = rest (own v) refl
                where
                  few : (x : Option Taking) → counts_some x ≤ 1
                  few None = omega arith
                  few (Some y) = omega arith

                  rest : (y : Option Taking) → own v ≡ y → own v ≡ None
                  rest None nothing = nothing
                  rest (Some y) mine' = absurd (let h = total-two (λ x. counts_some (own x)) views id other v w (λ e. apart (sym e)) at theirs in omega (arith, h, so.one, few whole, ap counts_some mine', ap counts_some has))
