-- The state of the plain machine that the words show, and what one more change leaves of what was known.
use Rattle.std.proofs.Common.{◌≡◌, ◌≢◌, ℕ, ◌+◌, ◌/◌, ◌%◌, ◌^◌, ◌<◌, ◌≤◌, inl, inr, zero, suc, List, [], ◌∷◌, ◌++◌, length, set, get_or, get_or-set_same, Some, refl, ap, sym, ◌∙◌, subst, arith, length-append}
use Rattle.std.proofs.lemmas.Bool.Decides.{eqb_tells}
use Rattle.std.proofs.lemmas.List.{get_or-set_other}
use Rattle.std.specs.Prelude.{slice_index, replicate, IsBitSet, Option, None}
use Rattle.atomic_table.specs.Table.{State}
use Rattle.hub_core.proofs.EveryStep.{Lawful, lawful-of, joint}
use Rattle.hub_core.proofs.Grouped.{pushed-same, pushed-else}
use Rattle.hub_core.proofs.Numbered.{numbered-old, replay-old, taken-clear}
use Rattle.hub_core.proofs.Owning.{held-last, held-taken}
use Rattle.hub_core.proofs.Pools.{fewer-changes}
use Rattle.hub_core.specs.Core.{AreJoint}
use Rattle.hub_core.specs.Groups.{free_in, group_of, place_of, sizes_of, in_group, journal_of, changes_in}
use Rattle.hub_core.specs.Joint.{IsFreed}
use Rattle.hub_core.specs.Journal.{AreInOrder, numbered, replay, changed_buf}
use Rattle.hub_core.specs.View.{View, Change, Freed, Taking, Session, Reading}
use Rattle.pool_words.specs.Pools.{full_pool, pool_of}
use Rattle.pool_words.specs.declared.pool.Pool.{Pool}
use Rattle.hub_layout.specs.Places.{Card, Length}
use Rattle.hub_shared.specs.Cards.{ShowCards, place_of_word}
use Rattle.hub_shared.specs.Rule.{AreClear, IsPast, WasWord, Kept}
use Rattle.hub_shared.specs.declared.sight.Note.{Note}
use Rattle.hub_shared.specs.declared.sight.Sight.{Sight}

abbrev pub HubState : Type 0
HubState = State Note Sight

-- one more pool word is whole
pub one-whole : (words counts : List ℕ) (group at word : ℕ) → at ≡ group → group < length words → pool_of word ≡ full_pool (get_or counts group 0) → ((g : ℕ) → g < group → pool_of (get_or words g 0) ≡ full_pool (get_or counts g 0)) →
    (g : ℕ) → g < group + 1 → pool_of (get_or (set words at word) g 0) ≡ full_pool (get_or counts g 0)
one-whole words counts group at word here there is before g below = elim (eqb_tells g group) [
  | inl same ↦ ap (λ (x : ℕ × ℕ). pool_of (get_or (set words x.0 word) x.1 0)) (λ i. (here i, same.1 i)) ∙ ap pool_of (get_or-set_same words group word 0 there) ∙ is ∙ ap (λ (n : ℕ). full_pool (get_or counts n 0)) (sym same.1)
  | inr other ↦ ap (λ (n : ℕ). pool_of (get_or (set words n word) g 0)) here ∙ ap pool_of (get_or-set_other words group g word 0 other.1) ∙ before g (omega (arith, below, other.1))
]

module _ (groups : List (List ℕ)) (s : HubState) (k : Kept groups s) where
  pub lawful : Lawful groups k.core
  lawful = lawful-of groups k.steps k.core k.leads

  pub law : AreJoint groups k.core
  law = joint groups k.core lawful

  -- a group's word is of all its changes, which are few
  pub count-now : (group : ℕ) → group < length groups → slice_index s.words group / 2 ^ 32 ≡ length (changes_in groups group k.core)
  count-now group there = ap (λ (p : Pool). p.changes) (k.pools group there)

  pub few-now : (group : ℕ) → length (changes_in groups group k.core) ≤ 8000000
  few-now group = omega (arith, fewer-changes groups group k.core.changes, k.takes)

  pub was-now : (group : ℕ) → group < length groups → WasWord groups group k.core (slice_index s.words group)
  was-now group there = record {
    there = omega (arith, count-now group there);
    free = ap (λ (p : Pool). p.free) (k.pools group there) ∙ ap (replay (sizes_of groups group) (changes_in groups group k.core)) (sym (count-now group there));
  }

  -- a word that was seen is another one only where it has fewer changes
  pub fewer-then : (group word : ℕ) → group < length groups → WasWord groups group k.core word → slice_index s.words group ≢ word → word / 2 ^ 32 < slice_index s.words group / 2 ^ 32
  fewer-then group word there was other = elim (eqb_tells (word / 2 ^ 32) (slice_index s.words group / 2 ^ 32)) [
    | inl same ↦ absurd (other (let free = was.free ∙ ap (replay (sizes_of groups group) (changes_in groups group k.core)) same.1 ∙ sym (was-now group there).free in omega (arith, same.1, free)))
    | inr apart ↦ omega (arith, was.there, count-now group there, apart.1)
  ]

-- a free buffer isn't held
pub free-unheld : (groups : List (List ℕ)) (s : HubState) (k : Kept groups s) (buf : ℕ) → IsBitSet (free_in groups (group_of groups buf) k.core) (place_of groups buf) → k.core.held buf ≡ None
free-unheld groups s k buf free = go (k.core.held buf) refl
  where
    go : (found : Option Taking) → k.core.held buf ≡ found → k.core.held buf ≡ None
    go None is = is
    go (Some t) is =
        let so = lawful groups s k in
        let takes = held-taken groups k.core so.owned buf t is in
        absurd (taken-clear (sizes_of groups (group_of groups buf)) (changes_in groups (group_of groups buf) k.core) t.number (place_of groups buf) takes.need (so.journals (group_of groups buf)) takes.take (held-last groups k.core so.owned buf t is) free)

-- the words of the sessions are as before as a pool word changes, and no party's list
pub shown-on : (groups : List (List ℕ)) (words : List ℕ) (group word : ℕ) (core next : View) → group < length groups → next.sessions ≡ core.sessions → next.readings ≡ core.readings → ShowCards groups words core → ShowCards groups (set words group word) next
shown-on groups words group word core next there sessions readings so = subst (λ (x : (ℕ → List Session) × (ℕ → ℕ → List Reading)). ShowCards groups (set words group word) (record next { sessions = x.0; readings = x.1 })) (λ i. (sym sessions i, sym readings i)) (record {
  cards = λ path seq s at some. get_or-set_other words group (place_of_word groups (Card s.buf)) word 0 (λ e. past-card s.buf e) ∙ so.cards path seq s at some;
  lengths = λ path seq s at some. get_or-set_other words group (place_of_word groups (Length s.buf)) word 0 (λ e. past-length s.buf e) ∙ so.lengths path seq s at some;
  small = so.small;
  empty = λ buf below none. ap (λ (n : ℕ). n % 2 ^ 9) (get_or-set_other words group (place_of_word groups (Card buf)) word 0 (λ e. past-card buf e)) ∙ so.empty buf below none;
})
  where
    past-card : (buf : ℕ) → place_of_word groups (Card buf) ≡ group → ⊥
    past-card buf is = omega (arith, is, there)

    past-length : (buf : ℕ) → place_of_word groups (Length buf) ≡ group → ⊥
    past-length buf is = omega (arith, is, there)

-- one more change of a group
module _ (groups : List (List ℕ)) (core next : View) (c : Change) (pushed : next.changes ≡ core.changes ++ c ∷ []) (order : (group : ℕ) → AreInOrder (changes_in groups group core)) where
  -- a group's changes are as before, or one more
  journal-next : (group : ℕ) → (P : List Change → Type 0) → P (changes_in groups group core) → (group_of groups (changed_buf c) ≡ group → P (changes_in groups group core ++ in_group groups c ∷ [])) → P (changes_in groups group next)
  journal-next group P was more = subst (λ (l : List Change). P (journal_of groups group l)) (sym pushed) (elim (eqb_tells (group_of groups (changed_buf c)) group) [
    | inl same ↦ subst P (sym (pushed-same groups group core.changes c same.1)) (more same.1)
    | inr other ↦ subst P (sym (pushed-else groups group core.changes c other.1)) was
  ])

  pub was-pushed : (group word : ℕ) → WasWord groups group core word → WasWord groups group next word
  was-pushed group word was = journal-next group (λ js. IsPast (sizes_of groups group) js word) was (λ its. record {
    there = omega (arith, was.there, length-append (changes_in groups group core) (in_group groups c ∷ []));
    free = was.free ∙ sym (replay-old (sizes_of groups group) (changes_in groups group core) (in_group groups c) (word / 2 ^ 32) (order group) was.there);
  })

  -- what was freed stays freed
  pub freed-pushed : (t : Session) → IsFreed groups core t → IsFreed groups next t
  freed-pushed t freed = (
    freed.0,
    freed.1,
    journal-next (group_of groups t.buf) (λ js. numbered js freed.0 ≡ Some (Freed freed.0 (place_of groups t.buf))) freed.2
        (λ its. numbered-old (changes_in groups (group_of groups t.buf) core) (in_group groups c) freed.0 (Freed freed.0 (place_of groups t.buf)) freed.2),
  )

-- words that are all 0
pub all-clear : (first count : ℕ) (words : List ℕ) → words ≡ replicate count 0 → AreClear first words
all-clear first count words is at past = ap (λ (l : List ℕ). get_or l at 0) is ∙ zeros count at
  where
    zeros : (n i : ℕ) → ◌≡◌ {A = ℕ} (get_or (replicate n 0) i 0) 0
    zeros zero i = refl
    zeros (suc n) zero = refl
    zeros (suc n) (suc i) = zeros n i
