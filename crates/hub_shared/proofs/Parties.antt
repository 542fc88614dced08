-- A party's list, which one seat has, as seats change, are divided and joined.
use Rattle.std.proofs.Common.{◌≡◌, ◌≢◌, ℕ, ◌+◌, ◌≤◌, inl, inr, Bool, true, false, List, [], ◌∷◌, ◌++◌, set, refl, ap, sym, ◌∙◌, arith, append-nil}
use Rattle.std.specs.Prelude.{if◌then◌else◌, ◌||◌}
use mathlib.Core.Option.{some}
use lib.ListN.{get_elem?}
use Rattle.atomic_table.proofs.Lists.{at_set}
use Rattle.hub_shared.proofs.Dealt.{each-set, each-added, total-set, total-two, total-added}
use Rattle.hub_shared.specs.Counts.{counts_one, IsOfOne}
use Rattle.hub_shared.specs.declared.sight.Sight.{Sight}

module _ {A : Type 0} (acts : Sight → Bool) (own : Sight → List A) (whole : List A) (views : List Sight) (so : IsOfOne acts own whole views) (id : ℕ) (v : Sight) (at : get_elem? views id ≡ some v) where
  abbrev Has : Sight → Type 0
  Has u = own u ≡ (if acts u then whole else [])

  -- a seat changes nothing of the party
  pub of-one-same : (w : Sight) → acts w ≡ acts v → own w ≡ own v → IsOfOne acts own whole (set views id w)
  of-one-same w role list = record {
    one = let t = total-set (λ u. counts_one (acts u)) views id v w at in omega (arith, t, so.one, ap counts_one role);
    each = each-set (λ j u. Has u) views id w (list ∙ so.each id v at ∙ ap (λ b. if b then whole else []) (sym role)) (λ j u other is. so.each j u is);
  }

  -- the seat that acts for the party changes its list
  pub of-one-own : (w : Sight) (more : List A) → acts v ≡ true → acts w ≡ true → own w ≡ more → IsOfOne acts own more (set views id w)
  of-one-own w more is role list = record {
    one = let t = total-set (λ u. counts_one (acts u)) views id v w at in omega (arith, t, so.one, ap counts_one role, ap counts_one is);
    each = each-set (λ j u. own u ≡ (if acts u then more else [])) views id w (list ∙ ap (λ b. if b then more else []) (sym role))
        (λ j u other there. so.each j u there ∙ ap (λ b. if b then whole else []) (not-two (acts u) j u other there refl) ∙ sym (ap (λ b. if b then more else []) (not-two (acts u) j u other there refl)));
  }
    where
      not-two : (b : Bool) (j : ℕ) (u : Sight) → j ≢ id → get_elem? views j ≡ some u → acts u ≡ b → acts u ≡ false
      not-two false j u other there role = role
      not-two true j u other there role = absurd (let h = total-two (λ x. counts_one (acts x)) views id j v u (λ e. other (sym e)) at there in omega (arith, h, so.one, ap counts_one is, ap counts_one role))

  -- a seat is divided, and the party goes to the new seat where it is named
  pub of-one-divided : (named : Bool) (l r : Sight) → acts l ≡ (if named then false else acts v) → acts r ≡ (if named then acts v else false) → own l ≡ (if named then [] else own v) → own r ≡ (if named then own v else []) →
      IsOfOne acts own whole (set views id l ++ r ∷ [])
  of-one-divided named l r left right mine theirs = record {
    one =
        let t = total-set (λ u. counts_one (acts u)) views id v l at in
        let n = total-added (λ u. counts_one (acts u)) (set views id l) r in
        omega (arith, t, n, so.one, ap counts_one left, ap counts_one right, sum named);
    each = each-added (λ j u. Has u) (set views id l) r (λ j. theirs ∙ right-has named ∙ ap (λ b. if b then whole else []) (sym right))
        (each-set (λ j u. Has u) views id l (mine ∙ left-has named ∙ ap (λ b. if b then whole else []) (sym left)) (λ j u other is. so.each j u is));
  }
    where
      sum : (b : Bool) → counts_one (if b then false else acts v) + counts_one (if b then acts v else false) ≡ counts_one (acts v)
      sum true = omega arith
      sum false = omega arith

      right-has : (b : Bool) → (if b then own v else []) ≡ (if (if b then acts v else false) then whole else [])
      right-has true = so.each id v at
      right-has false = refl

      left-has : (b : Bool) → (if b then [] else own v) ≡ (if (if b then false else acts v) then whole else [])
      left-has true = refl
      left-has false = so.each id v at

  -- a seat takes in another, which acts for nobody any more
  pub of-one-joined : (other : ℕ) (w b gone : Sight) → other ≢ id → get_elem? (set views id b) other ≡ some w → acts b ≡ (acts v || acts w) → own b ≡ own v ++ own w → acts gone ≡ false → own gone ≡ [] → IsOfOne acts own whole (set (set views id b) other gone)
  of-one-joined other w b gone apart found role list none empty = record {
    one =
        let t = total-set (λ u. counts_one (acts u)) views id v b at in
        let n = total-set (λ u. counts_one (acts u)) (set views id b) other w gone found in
        omega (arith, t, n, so.one, ap counts_one role, ap counts_one none, sum (acts v) (acts w) both-most);
    each = each-set (λ j u. Has u) (set views id b) other gone (empty ∙ ap (λ b. if b then whole else []) (sym none))
        (λ j u ne is. each-set (λ i x. Has x) views id b (list ∙ ap (λ (p : List A × List A). p.0 ++ p.1) (λ i. (so.each id v at i, so.each other w theirs i)) ∙ joined (acts v) (acts w) both-most ∙ ap (λ b. if b then whole else []) (sym role)) (λ i x away was. so.each i x was) j u is);
  }
    where
      theirs : get_elem? views other ≡ some w
      theirs = elim (at_set views id other b w found) [ inl same ↦ absurd (apart same.0) | inr was ↦ was.1 ]

      both-most : counts_one (acts v) + counts_one (acts w) ≤ 1
      both-most = let h = total-two (λ u. counts_one (acts u)) views id other v w (λ e. apart (sym e)) at theirs in omega (arith, h, so.one)

      sum : (b c : Bool) → counts_one b + counts_one c ≤ 1 → counts_one (b || c) ≡ counts_one b + counts_one c
      sum true true most = absurd (omega (arith, most))
      sum true false most = omega arith
      sum false c most = omega arith

      joined : (b c : Bool) → counts_one b + counts_one c ≤ 1 → (if b then whole else []) ++ (if c then whole else []) ≡ (if b || c then whole else [])
      joined true true most = absurd (omega (arith, most))
      joined true false most = append-nil whole
      joined false c most = refl
