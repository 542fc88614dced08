-- The pool words of all groups, as one more change comes to one of them.
use Rattle.std.proofs.Common.{◌≡◌, ◌≢◌, ℕ, ◌+◌, ◌<◌, ◌≤◌, inl, inr, suc, List, [], ◌∷◌, ◌++◌, length, Option, Some, ap, sym, ◌∙◌, arith, length-append}
use Rattle.std.proofs.lemmas.Bool.Decides.{eqb_tells}
use Rattle.std.proofs.lemmas.Option.{slice_get_within}
use Rattle.std.specs.Prelude.{if◌then◌else◌, slice_get, slice_set}
use Rattle.hub_core.proofs.Grouped.{pushed-same, pushed-else, group-number}
use Rattle.hub_core.proofs.Numbered.{numbered-new, replay-old}
use Rattle.hub_core.proofs.Rows.{set-here, set-else}
use Rattle.hub_core.specs.Groups.{group_of, sizes_of, in_group, journal_of}
use Rattle.hub_core.specs.Journal.{AreInOrder, number_of, replay, moved, numbered, changed_buf}
use Rattle.hub_core.specs.Plain.{pool_after}
use Rattle.hub_core.specs.View.{Change}
use Rattle.pool_words.specs.declared.pool.Pool.{Pool}

-- the free set after one more change
free-pushed : (sizes : List ℕ) (changes : List Change) (c : Change) → AreInOrder changes → number_of c ≡ length changes + 1 → replay sizes (changes ++ c ∷ []) (length (changes ++ c ∷ [])) ≡ moved (Some c) (replay sizes changes (length changes))
free-pushed sizes changes c order next =
    let long : length (changes ++ c ∷ []) ≡ suc (length changes) = omega (arith, length-append changes (c ∷ [])) in
    let number : suc (length changes) ≡ number_of c = omega (arith, next) in
    ap (replay sizes (changes ++ c ∷ [])) long
    ∙ ap (λ (d : Option Change). moved d (replay sizes (changes ++ c ∷ []) (length changes))) (ap (numbered (changes ++ c ∷ [])) number ∙ numbered-new changes c order next)
    ∙ ap (moved (Some c)) (replay-old sizes changes c (length changes) order (omega arith))

-- each group has the word that its changes lead to
abbrev pub AreWords : List (List ℕ) → List Pool → List Change → Type 0
AreWords groups pools changes = (group : ℕ) → group < length groups → slice_get pools group ≡ Some (pool_after groups group changes)

-- a group's word after its next change
abbrev pub pool_next : List (List ℕ) → (group : ℕ) → List Change → Change → Pool
pool_next groups group changes c = record { changes = number_of c; free = moved (Some (in_group groups c)) (pool_after groups group changes).free }

-- one more change makes that word of its group's, and leaves the others
pub pool-pushed : (groups : List (List ℕ)) (group : ℕ) (changes : List Change) (c : Change) → AreInOrder (journal_of groups group changes) → group_of groups (changed_buf c) ≡ group → number_of c ≡ length (journal_of groups group changes) + 1 →
    pool_after groups group (changes ++ c ∷ []) ≡ pool_next groups group changes c
pool-pushed groups group changes c order its next = ap (λ (x : ℕ × ℕ). let pool : Pool = record { changes = x.0; free = x.1 } in pool) (λ i. (count i, free i))
  where
    mine : List Change
    mine = journal_of groups group changes

    grown : journal_of groups group (changes ++ c ∷ []) ≡ mine ++ in_group groups c ∷ []
    grown = pushed-same groups group changes c its

    number : number_of (in_group groups c) ≡ length mine + 1
    number = group-number groups c ∙ next

    count : length (journal_of groups group (changes ++ c ∷ [])) ≡ number_of c
    count = omega (arith, ap (λ (l : List Change). length l) grown, length-append mine (in_group groups c ∷ []), next)

    free : (pool_after groups group (changes ++ c ∷ [])).free ≡ moved (Some (in_group groups c)) (pool_after groups group changes).free
    free = ap (λ (l : List Change). replay (sizes_of groups group) l (length l)) grown ∙ free-pushed (sizes_of groups group) mine (in_group groups c) order number

pub pool-beside : (groups : List (List ℕ)) (group g : ℕ) (changes : List Change) (c : Change) → group_of groups (changed_buf c) ≡ group → g ≢ group → pool_after groups g (changes ++ c ∷ []) ≡ pool_after groups g changes
pool-beside groups group g changes c its other =
    ap (λ (l : List Change). let pool : Pool = record { changes = length l; free = replay (sizes_of groups g) l (length l) } in pool) (pushed-else groups g changes c (λ same. other (sym same ∙ its)))

pub words-pushed : (groups : List (List ℕ)) (group : ℕ) (pools more : List Pool) (changes : List Change) (c : Change) → AreWords groups pools changes → AreInOrder (journal_of groups group changes) → group_of groups (changed_buf c) ≡ group →
    number_of c ≡ length (journal_of groups group changes) + 1 → more ≡ slice_set pools group (pool_next groups group changes c) → AreWords groups more (changes ++ c ∷ [])
words-pushed groups group pools more changes c words order its next set g below = ap (λ (l : List Pool). slice_get l g) set ∙ elim (eqb_tells g group) [
  | inl same ↦
      ap (slice_get (slice_set pools group (pool_next groups group changes c))) same.1
      ∙ set-here pools group (pool_next groups group changes c) (slice_get_within pools group _ (words group (omega (arith, below, same.1))))
      ∙ ap Some (sym (pool-pushed groups group changes c order its next))
      ∙ ap (λ (x : ℕ). Some (pool_after groups x (changes ++ c ∷ []))) (sym same.1)
  | inr other ↦ set-else pools group g (pool_next groups group changes c) other.1 ∙ words g below ∙ ap Some (sym (pool-beside groups group g changes c its other.1))
]

-- a group has no more changes than all have
pub fewer-changes : (groups : List (List ℕ)) (group : ℕ) (changes : List Change) → length (journal_of groups group changes) ≤ length changes
fewer-changes groups group [] = omega arith
fewer-changes groups group (c ∷ changes) = elim (eqb_tells (group_of groups (changed_buf c)) group) [
  | inl same ↦ (let h = fewer-changes groups group changes in omega (arith, h, ap (λ b. length (if b then in_group groups c ∷ journal_of groups group changes else journal_of groups group changes)) same.0))
  | inr other ↦ (let h = fewer-changes groups group changes in omega (arith, h, ap (λ b. length (if b then in_group groups c ∷ journal_of groups group changes else journal_of groups group changes)) other.0))
]
