-- The journals of groups, as one more change comes to one of them.
use Rattle.std.proofs.Common.{◌≡◌, ◌≢◌, ℕ, inl, inr, List, [], ◌∷◌, ◌++◌, Some, refl, sym, subst, arith}
use Rattle.std.proofs.lemmas.Bool.Decides.{eqb_tells}
use Rattle.hub_core.proofs.Numbered.{Journal, IsNext, numbered-old, journal-pushed, overflow-pushed}
use Rattle.hub_core.specs.Groups.{group_of, sizes_of, in_group, journal_of}
use Rattle.hub_core.specs.Journal.{number_of, numbered, IsOverflow, changed_buf}
use Rattle.hub_core.specs.View.{Change, Taken, Freed, Refusal}

-- a change's number is the same in its group
pub group-number : (groups : List (List ℕ)) (c : Change) → number_of (in_group groups c) ≡ number_of c
group-number groups (Taken number buf need) = refl
group-number groups (Freed number buf) = refl

-- one more change comes to the journal of its group alone
pub pushed-same : (groups : List (List ℕ)) (group : ℕ) (changes : List Change) (c : Change) →
    group_of groups (changed_buf c) ≡ group →
    journal_of groups group (changes ++ c ∷ []) ≡ journal_of groups group changes ++ in_group groups c ∷ []
pushed-same groups group [] c is = grind (arith, is)
pushed-same groups group (x ∷ changes) c is = grind (arith, pushed-same groups group changes c is)

pub pushed-else : (groups : List (List ℕ)) (group : ℕ) (changes : List Change) (c : Change) →
    group_of groups (changed_buf c) ≢ group →
    journal_of groups group (changes ++ c ∷ []) ≡ journal_of groups group changes
pushed-else groups group [] c is = grind (arith, is)
pushed-else groups group (x ∷ changes) c is = grind (arith, pushed-else groups group changes c is)

-- all groups' journals, and the change that comes next to one of them
abbrev pub Journals : List (List ℕ) → List Change → Type 0
Journals groups changes = (group : ℕ) → Journal (sizes_of groups group) (journal_of groups group changes)

abbrev pub ComesNext : List (List ℕ) → List Change → Change → Type 0
ComesNext groups changes c =
    let group : ℕ = group_of groups (changed_buf c) in
    IsNext (sizes_of groups group) (journal_of groups group changes) (in_group groups c)

module _ (groups : List (List ℕ)) (changes : List Change) (c : Change) where
  abbrev group : ℕ
  group = group_of groups (changed_buf c)

  abbrev before : ℕ → List Change
  before g = journal_of groups g changes

  abbrev now : ℕ → List Change
  now g = journal_of groups g (changes ++ c ∷ [])

  -- what is so of its group's journal with it, and of all others without it, is so of each
  pub each-group : (P : ℕ → List Change → Type 0) → P group (before group ++ in_group groups c ∷ []) →
      ((g : ℕ) → P g (before g)) → (g : ℕ) → P g (now g)
  each-group P new old g = elim (eqb_tells group g) [
    | inl same ↦
        let mine = subst (λ x. P x (before x ++ in_group groups c ∷ [])) same.1 new in
        subst (P g) (sym (pushed-same groups g changes c same.1)) mine
    | inr other ↦ subst (P g) (sym (pushed-else groups g changes c other.1)) (old g)
  ]

  pub found-old : (g n : ℕ) (d : Change) → numbered (before g) n ≡ Some d → numbered (now g) n ≡ Some d
  found-old = each-group (λ g l. (n : ℕ) (d : Change) → numbered (before g) n ≡ Some d → numbered l n ≡ Some d)
      (numbered-old (before group) (in_group groups c)) (λ g n d is. is)

  pub journals-pushed : Journals groups changes → ComesNext groups changes c → Journals groups (changes ++ c ∷ [])
  journals-pushed journals next = each-group (λ g l. Journal (sizes_of groups g) l)
      (journal-pushed (sizes_of groups group) (before group) (in_group groups c) (journals group) next) journals

  -- an overflow is of an earlier word, which stays
  pub overflow-stays : Journals groups changes → (g : ℕ) (r : Refusal) →
      IsOverflow (sizes_of groups g) (before g) r → IsOverflow (sizes_of groups g) (now g) r
  overflow-stays journals g r =
      let is : ℕ → List Change → Type 0 = λ g l. IsOverflow (sizes_of groups g) l r in
      let mine = overflow-pushed (sizes_of groups group) (before group) (in_group groups c) r (journals group).order in
      each-group (λ g l. is g (before g) → is g l) mine (λ g old. old) g
