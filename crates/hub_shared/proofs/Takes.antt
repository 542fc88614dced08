-- A take and an overflow keep the rule.
use Rattle.std.proofs.Common.{◌≡◌, ℕ, ◌+◌, ◌-◌, ◌/◌, ◌%◌, ◌^◌, ◌<◌, inl, inr, List, [], ◌∷◌, ◌++◌, length, set, get_or, Some, refl, ap, sym, ◌∙◌, subst, arith, eqb, append-nil, length-append, length-set, get_or-set_same}
use Rattle.std.proofs.lemmas.Bool.Decides.{eqb_tells}
use Rattle.std.proofs.lemmas.List.{get_or-set_other}
use Rattle.std.specs.Prelude.{slice_get, IsBitSet, Option, None}
use mathlib.Core.Option.{none, some}
use lib.ListN.{get_elem?}
use prog.Atomic.{either}
use Rattle.atomic_table.specs.Table.{step, keeps, Allows}
use Rattle.atomic_table.proofs.Lists.{exchanged}
use Rattle.gw_base.specs.Fit.{IsSmallest, NoneFits}
use Rattle.hub_core.proofs.Growing.{at_one-same, at_one-other}
use Rattle.hub_core.proofs.Pools.{pool-pushed, pool-beside}
use Rattle.hub_core.specs.Core.{Takes as TakesStep, Refuses as RefusesStep}
use Rattle.hub_core.specs.Groups.{all_sizes, group_of, place_of, sizes_of, changes_in}
use Rattle.hub_core.specs.Joint.{IsQuiet}
use Rattle.hub_core.specs.Plain.{pool_after}
use Rattle.hub_core.specs.View.{View, Change, Taken, Taking, at_one, Took as TookEvent, Refused as RefusedEvent, grow}
use Rattle.hub_core.specs.declared.history.Deed.TheVariants.{Took, Refused}
use Rattle.hub_layout.specs.Places.{Length}
use Rattle.pool_words.specs.Pools.{pool_of}
use Rattle.pool_words.specs.declared.pool.Pool.{Pool}
use Rattle.hub_shared.proofs.Cores.{HubState, law, count-now, was-pushed, freed-pushed, free-unheld, shown-on}
use Rattle.hub_shared.proofs.Counted.{count-more}
use Rattle.hub_shared.proofs.Holding.{held-same, held-taken}
use Rattle.hub_shared.specs.Plays.{SeatMe, with_take, with_overflow, taking, refusing}
use Rattle.hub_shared.specs.Cards.{place_of_word}
use Rattle.hub_shared.specs.Counts.{IsHeldByOne}
use Rattle.hub_shared.specs.Rule.{Kept}
use Rattle.hub_shared.specs.Sights.{view_of}
use Rattle.hub_shared.specs.declared.sight.Hand.TheVariants.{Looked}
use Rattle.hub_shared.specs.declared.sight.Note.TheVariants.{Takes, Refuses}
use Rattle.hub_shared.proofs.Steps.{Goes, IsDid, did, loses, same-word}

-- a quiet state stays quiet as one more change comes, of no party
quiet-took : (groups : List (List ℕ)) (core : View) (group number buf size need : ℕ) → ((g : ℕ) → Rattle.hub_core.specs.Journal.AreInOrder (changes_in groups g core)) → IsQuiet groups core → IsQuiet groups (grow (TookEvent group number buf size need) core)
unfolding grow
quiet-took groups core group number buf size need order quiet path seq t at over =
    freed-pushed groups core (grow (TookEvent group number buf size need) core) (Taken number buf need) refl order t (quiet path seq t at (record { writer = over.writer; dests = over.dests }))

-- a take by the word that was looked at
module _ (groups : List (List ℕ)) (slots id group old new need buf cells : ℕ) (m : SeatMe) (live : 0 < m.0.parts) (spare : 0 < m.0.takes) (there : group < length groups) (hand : m.0.hand ≡ Looked group old) where
  pub record IsTaking : Type 0 where
    pub its : group_of groups buf ≡ group
    pub smallest : IsSmallest (sizes_of groups group) (old % 2 ^ 32) need (place_of groups buf)
    pub size : slice_get (sizes_of groups group) (place_of groups buf) ≡ Some cells
    pub next : pool_of new ≡ record { changes = old / 2 ^ 32 + 1; free = old % 2 ^ 32 - 2 ^ place_of groups buf }

  takes-now : IsTaking → (s : HubState) (k : Kept groups s) (at : get_elem? s.views id ≡ some m.0) → get_or s.words group 0 ≡ old → IsDid groups s k id m.0 at live (Took group (old / 2 ^ 32 + 1) buf cells need) (TakesStep group (old / 2 ^ 32 + 1) buf cells need) (Taken (old / 2 ^ 32 + 1) buf need ∷ []) [] (set s.words group new)
  unfolding grow
  takes-now so s k at hit = record {
    may = record {
      its = so.its;
      next = number;
      smallest = subst (λ (f : ℕ). IsSmallest (sizes_of groups group) f need (place_of groups buf)) free so.smallest;
      size_is = so.size;
    };
    is = refl;
    changes = λ u. refl;
    refused = λ u. sym (append-nil u.refused);
    sessions = λ u. refl;
    readings = λ u. refl;
    quiet = quiet-took groups k.core group (old / 2 ^ 32 + 1) buf cells need order k.quiet;
    was = was-pushed groups k.core next c refl order;
    holders = λ w is b. elim (eqb_tells b buf) [
      | inl same ↦
          let mine : (view_of w).held b ≡ Some t = is b ∙ ap (at_one buf (Some t) (view_of m.0).held) same.1 ∙ at_one-same buf (Some t) (view_of m.0).held in
          let all : at_one buf (Some t) k.core.held b ≡ Some t = ap (at_one buf (Some t) k.core.held) same.1 ∙ at_one-same buf (Some t) k.core.held in
          subst (λ (x : Option Taking). IsHeldByOne (λ u. (view_of u).held b) x (set s.views id w)) (sym all) (held-taken _ _ s.views (k.holders b) id m.0 at w t (ap k.core.held same.1 ∙ unheld) mine)
      | inr other ↦
          subst (λ (x : Option Taking). IsHeldByOne (λ u. (view_of u).held b) x (set s.views id w)) (sym (at_one-other buf b (Some t) k.core.held other.1))
          (held-same _ _ s.views (k.holders b) id m.0 at w (is b ∙ at_one-other buf b (Some t) (view_of m.0).held other.1))
    ];
    shown = shown-on groups s.words group new k.core next there refl refl k.shown;
    entered = λ path. let more = count-more k.core.held buf (Some t) (length (all_sizes groups)) in omega (arith, more, k.entered path, length-append k.core.changes (c ∷ []));
    lengths = λ o is. get_or-set_other s.words group (place_of_word groups (Length o.buf)) new 0 (λ e. omega (arith, e, there)) ∙ is;
    wide = omega (arith, k.wide, length-set s.words group new);
    pools = λ g below. elim (eqb_tells g group) [
      | inl same ↦
          ap (λ (n : ℕ). pool_of (get_or (set s.words group new) n 0)) same.1
          ∙ ap pool_of (get_or-set_same s.words group new 0 (omega (arith, k.wide, there)))
          ∙ so.next
          ∙ ap (λ (f : ℕ). let p : Pool = record { changes = old / 2 ^ 32 + 1; free = f - 2 ^ place_of groups buf } in p) free
          ∙ sym (pool-pushed groups group k.core.changes c (order group) so.its number)
          ∙ ap (λ (n : ℕ). pool_after groups n (k.core.changes ++ c ∷ [])) (sym same.1)
      | inr other ↦ ap pool_of (get_or-set_other s.words group g new 0 other.1) ∙ k.pools g below ∙ sym (pool-beside groups group g k.core.changes c so.its other.1)
    ];
    few = omega arith;
  }
    where
      c : Change
      c = Taken (old / 2 ^ 32 + 1) buf need

      next : View
      next = grow (TookEvent group (old / 2 ^ 32 + 1) buf cells need) k.core

      order : (g : ℕ) → Rattle.hub_core.specs.Journal.AreInOrder (changes_in groups g k.core)
      order = (law groups s k).order

      t : Taking
      t = record { number = old / 2 ^ 32 + 1; size = cells }

      number : old / 2 ^ 32 + 1 ≡ length (changes_in groups group k.core) + 1
      number = omega (arith, count-now groups s k group there, hit)

      free : old % 2 ^ 32 ≡ Rattle.hub_core.specs.Groups.free_in groups group k.core
      free = ap (λ (n : ℕ). n % 2 ^ 32) (sym hit) ∙ ap (λ (p : Pool). p.free) (k.pools group there)

      unheld : k.core.held buf ≡ None
      unheld = free-unheld groups s k buf (subst (λ (x : ℕ × ℕ). IsBitSet (Rattle.hub_core.specs.Groups.free_in groups x.0 k.core) (place_of groups buf)) (λ i. (sym so.its i, 0)) (subst (λ (f : ℕ). IsBitSet f (place_of groups buf)) free so.smallest.fits.is_free))

  pub takes : IsTaking → Allows (Kept groups) slots id m group (λ n. either (eqb n old) new n) (taking (step slots group old new (some (Takes need buf cells))) m)
  takes so s k long at low =
      let n : ℕ = get_or s.words group 0 in
      let tale : ℕ → SeatMe → Type 0 = taking (step slots group old new (some (Takes need buf cells))) m in
      exchanged n old new (Goes groups s id group m tale n)
      (λ hit. (
        with_take group old need buf cells m.0,
        keeps,
        tt,
        did groups s k id m.0 at live (Took group (old / 2 ^ 32 + 1) buf cells need) (TakesStep group (old / 2 ^ 32 + 1) buf cells need) (Taken (old / 2 ^ 32 + 1) buf need ∷ []) [] (set s.words group new) (takes-now so s k at hit) spare,
        ((λ won need' buf' cells' said. (let same : Takes need buf cells ≡ Takes need' buf' cells' = mathlib.Core.Option.some-injective _ _ said in told need' buf' cells' same)), λ lost. absurd (lost hit)),
      ))
      (λ other. loses groups s k id group old m tale at live there hand other (λ lost. ((λ won. absurd (other won)), λ _. lost)))
    where
      told : (need' buf' cells' : ℕ) → Takes need buf cells ≡ Takes need' buf' cells' → ◌≡◌ {A = SeatMe} (with_take group old need buf cells m.0, m.1) (with_take group old need' buf' cells' m.0, m.1)
      told need' buf' cells' same = let a : need ≡ need' = cc in let b : buf ≡ buf' = cc in let c : cells ≡ cells' = cc in λ i. (with_take group old (a i) (b i) (c i) m.0, m.1)

-- an overflow by the word that was looked at
quiet-refused : (groups : List (List ℕ)) (core : View) (group number free need : ℕ) → IsQuiet groups core → IsQuiet groups (grow (RefusedEvent group number free need) core)
unfolding grow
quiet-refused groups core group number free need quiet path seq t at over = quiet path seq t at (record { writer = over.writer; dests = over.dests })

module _ (groups : List (List ℕ)) (slots id group old need : ℕ) (m : SeatMe) (live : 0 < m.0.parts) (spare : 0 < m.0.takes) (there : group < length groups) (hand : m.0.hand ≡ Looked group old) (none-fits : NoneFits (sizes_of groups group) (old % 2 ^ 32) need) where
  refuses-now : (s : HubState) (k : Kept groups s) (at : get_elem? s.views id ≡ some m.0) → get_or s.words group 0 ≡ old →
      IsDid groups s k id m.0 at live (Refused group (old / 2 ^ 32) (old % 2 ^ 32) need) (RefusesStep group (old / 2 ^ 32) (old % 2 ^ 32) need) [] (record { group = group; number = old / 2 ^ 32; free = old % 2 ^ 32; need = need } ∷ []) s.words
  unfolding grow
  refuses-now s k at hit = record {
    may = record { there = there; now = omega (arith, count-now groups s k group there, hit); set = ap (λ (n : ℕ). n % 2 ^ 32) (sym hit) ∙ ap (λ (p : Pool). p.free) (k.pools group there); none_fits = none-fits };
    is = refl;
    changes = λ u. sym (append-nil u.changes);
    refused = λ u. refl;
    sessions = λ u. refl;
    readings = λ u. refl;
    quiet = quiet-refused groups k.core group (old / 2 ^ 32) (old % 2 ^ 32) need k.quiet;
    was = λ g word so. so;
    holders = λ w is b. held-same _ _ s.views (k.holders b) id m.0 at w (is b);
    shown = record { cards = k.shown.cards; lengths = k.shown.lengths; small = k.shown.small; empty = k.shown.empty };
    entered = k.entered;
    lengths = λ o is. is;
    wide = k.wide;
    pools = k.pools;
    few = omega arith;
  }

  pub refuses : Allows (Kept groups) slots id m group (λ n. either (eqb n old) old n) (refusing (step slots group old old (some (Refuses need))) m)
  refuses s k long at low =
      let n : ℕ = get_or s.words group 0 in
      let tale : ℕ → SeatMe → Type 0 = refusing (step slots group old old (some (Refuses need))) m in
      exchanged n old old (Goes groups s id group m tale n)
      (λ hit. (
        with_overflow group old need m.0,
        keeps,
        tt,
        subst (λ (z : ℕ). Kept groups (record { words = set s.words group z; homes = s.homes; views = set s.views id (with_overflow group old need m.0) })) hit
            (same-word groups s (set s.views id (with_overflow group old need m.0)) group
            (did groups s k id m.0 at live (Refused group (old / 2 ^ 32) (old % 2 ^ 32) need) (RefusesStep group (old / 2 ^ 32) (old % 2 ^ 32) need) [] (record { group = group; number = old / 2 ^ 32; free = old % 2 ^ 32; need = need } ∷ []) s.words (refuses-now s k at hit) spare)),
        ((λ won need' said. (let same : Refuses need ≡ Refuses need' = mathlib.Core.Option.some-injective _ _ said in told need' same)), λ lost. absurd (lost hit)),
      ))
      (λ other. loses groups s k id group old m tale at live there hand other (λ lost. ((λ won. absurd (other won)), λ _. lost)))
    where
      told : (need' : ℕ) → Refuses need ≡ Refuses need' → ◌≡◌ {A = SeatMe} (with_overflow group old need m.0, m.1) (with_overflow group old need' m.0, m.1)
      told need' same = let a : need ≡ need' = cc in λ i. (with_overflow group old (a i) m.0, m.1)
