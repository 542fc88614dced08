-- The changes of the hub and the moves that a report tells: numbers, free sets, and the next one of a buffer.
use Rattle.std.proofs.Common.{◌≡◌, ◌≢◌, ℕ, ◌+◌, ◌<◌, ◌≤◌, ◌==◌, zero, suc, Bool, true, false, cond, Option, Some, None, option_map, List, [], ◌∷◌, map, inl, inr, refl, ap, sym, ◌∙◌, subst, arith, eq-eqb}
use Rattle.hub_core.specs.Moves.{move_of}
use Rattle.std.specs.Prelude.{slice_get}
use Rattle.std.proofs.lemmas.Bool.{ne_eqb, cases_lt}
use Rattle.std.proofs.lemmas.Bool.Decides.{eqb_tells}
use Rattle.hub_core.specs.Groups.{group_of, in_group, journal_of}
use Rattle.hub_core.specs.Journal.{ChangesBuf, IsLawful, IsNextChange, changed_buf, moved, number_of, numbered, replay}
use Rattle.hub_core.specs.View.{Change, Taken, Freed}
use Rattle.hub_core.specs.declared.record.Move.{Move}
use Rattle.gw_law.specs.Pool.{IsLawfulMove, IsNextMove, MovesBuf, free_after, free_at, move_numbered, moves_of}
use Rattle.receiver_law.specs.Source.{CountsFrom}

-- the moves of changes, by their numbers
picked : (b : Bool) (x : Change) (change : Option Change) (move : Option Move) → move ≡ option_map move_of change → cond b (Some (move_of x)) move ≡ option_map move_of (cond b (Some x) change)
picked true x change move is = refl
picked false x change move is = is

same-number : (x : Change) → (move_of x).change ≡ number_of x
same-number (Taken number buf need) = refl
same-number (Freed number buf) = refl

pub numbered-map : (changes : List Change) (number : ℕ) → move_numbered (map move_of changes) number ≡ option_map move_of (numbered changes number)
numbered-map [] number = refl
numbered-map (x ∷ changes) number = rw (same-number x) (picked (number_of x == number) x (numbered changes number) (move_numbered (map move_of changes) number) (numbered-map changes number))

pub numbers-map : (changes : List Change) → map (λ (move : Move). move.change) (map move_of changes) ≡ map number_of changes
numbers-map [] = refl
numbers-map (x ∷ changes) = rw (same-number x, numbers-map changes) refl

after-change : (change : Option Change) (free : ℕ) → free_after (option_map move_of change) free ≡ moved change free
after-change None free = refl
after-change (Some (Taken number buf need)) free = refl
after-change (Some (Freed number buf)) free = refl

pub free-is : (sizes : List ℕ) (changes : List Change) (number : ℕ) → free_at sizes (map move_of changes) number ≡ replay sizes changes number
free-is sizes changes zero = refl
free-is sizes changes (suc number) =
    ap (λ c. free_after c (free_at sizes (map move_of changes) number)) (numbered-map changes (suc number)) ∙ ap (free_after (option_map move_of (numbered changes (suc number)))) (free-is sizes changes number)
    ∙ after-change (numbered changes (suc number)) (replay sizes changes number)

pub lawful : (sizes : List ℕ) (free : ℕ) (change : Change) → IsLawful sizes free change → IsLawfulMove sizes free (move_of change)
lawful sizes free (Taken number buf need) is = record { there = is.fits.there; kind = ((λ took. is.fits.is_free), (λ set. refl)) }
lawful sizes free (Freed number buf) is = record { there = is.0; kind = ((λ took. absurd cc), (λ set. absurd (is.1 set))) }

-- the change in a place of the list has the place's number, and is found by it
pub number-at : (first : ℕ) (changes : List Change) (place : ℕ) (change : Change) → CountsFrom first (map number_of changes) → slice_get changes place ≡ Some change → number_of change ≡ first + place
number-at first [] place change counts there = absurd cc
number-at first (x ∷ changes) zero change counts there = let same : x ≡ change = cc in ap number_of (sym same) ∙ counts.0 ∙ omega arith
number-at first (x ∷ changes) (suc place) change counts there = number-at (first + 1) changes place change counts.1 there ∙ omega arith

pub numbered-at : (first : ℕ) (changes : List Change) (place number : ℕ) (change : Change) → CountsFrom first (map number_of changes) → number ≡ first + place → slice_get changes place ≡ Some change → numbered changes number ≡ Some change
numbered-at first [] place number change counts is there = absurd cc
numbered-at first (x ∷ changes) zero number change counts is there =
    let same : x ≡ change = cc in
    ap (λ b. cond b (Some x) (numbered changes number)) (eq-eqb (number_of x) number (omega (arith, counts.0, is))) ∙ ap Some same
numbered-at first (x ∷ changes) (suc place) number change counts is there =
    let other : number_of x ≢ number = λ e. absurd (omega (arith, counts.0, is, e)) in
    ap (λ b. cond b (Some x) (numbered changes number)) (ne_eqb (number_of x) number other) ∙ numbered-at (first + 1) changes place number change counts.1 (omega (arith, is)) there

-- the moves of a group's changes are the group's moves
pub grouped-moves : (groups : List (List ℕ)) (group : ℕ) (changes : List Change) → moves_of groups group (map move_of changes) ≡ map move_of (journal_of groups group changes)
grouped-moves groups group [] = refl
grouped-moves groups group (Taken number buf need ∷ changes) = by (group_of groups buf == group) (grouped-moves groups group changes)
  where
    by : (b : Bool) → moves_of groups group (map move_of changes) ≡ map move_of (journal_of groups group changes) →
        cond b (move_of (in_group groups (Taken number buf need)) ∷ moves_of groups group (map move_of changes)) (moves_of groups group (map move_of changes)) ≡ map move_of (cond b (in_group groups (Taken number buf need) ∷ journal_of groups group changes) (journal_of groups group changes))
    by true rest = ap (λ l. move_of (in_group groups (Taken number buf need)) ∷ l) rest
    by false rest = rest
grouped-moves groups group (Freed number buf ∷ changes) = by (group_of groups buf == group) (grouped-moves groups group changes)
  where
    by : (b : Bool) → moves_of groups group (map move_of changes) ≡ map move_of (journal_of groups group changes) →
        cond b (move_of (in_group groups (Freed number buf)) ∷ moves_of groups group (map move_of changes)) (moves_of groups group (map move_of changes)) ≡ map move_of (cond b (in_group groups (Freed number buf) ∷ journal_of groups group changes) (journal_of groups group changes))
    by true rest = ap (λ l. move_of (in_group groups (Freed number buf)) ∷ l) rest
    by false rest = rest

-- a move's change
changed : (change : Option Change) (move : Move) → option_map move_of change ≡ Some move → (x : Change) × (change ≡ Some x) × (move_of x ≡ move)
changed None move is = absurd cc
changed (Some x) move is = (x, refl, cc)

same-buf : (x : Change) → (move_of x).buf.0 ≡ changed_buf x
same-buf (Taken number buf need) = refl
same-buf (Freed number buf) = refl

moves-buf : (changes : List Change) (buf number : ℕ) → ChangesBuf changes buf number → MovesBuf (map move_of changes) buf number
moves-buf changes buf number is = (move_of is.0, numbered-map changes number ∙ ap (option_map move_of) is.1, same-buf is.0 ∙ is.2)

pub changes-buf : (changes : List Change) (buf number : ℕ) → MovesBuf (map move_of changes) buf number → ChangesBuf changes buf number
changes-buf changes buf number is =
    let x = changed (numbered changes number) is.0 (sym (numbered-map changes number) ∙ is.1) in
    (x.0, x.1, sym (same-buf x.0) ∙ ap (λ (m : Move). m.buf.0) x.2 ∙ is.2)

numbered-is : (changes : List Change) (number : ℕ) (change : Change) → numbered changes number ≡ Some change → number_of change ≡ number
numbered-is [] number change is = absurd cc
numbered-is (x ∷ changes) number change is = elim (eqb_tells (number_of x) number) [
  | inl same ↦ let one : Some x ≡ Some change = ap (λ b. cond b (Some x) (numbered changes number)) (sym same.0) ∙ is in let equal : x ≡ change = cc in ap number_of (sym equal) ∙ same.1
  | inr other ↦ numbered-is changes number change (ap (λ b. cond b (Some x) (numbered changes number)) (sym other.0) ∙ is)
]

take-by : (x : Change) (move : Move) → move_of x ≡ move → move.took ≡ true → (need : ℕ) × (x ≡ Taken (number_of x) move.buf.0 need)
take-by (Taken number buf need) move is took = (need, ap (λ b. Taken number b need) (ap (λ (m : Move). m.buf.0) is))
take-by (Freed number buf) move is took = let no : false ≡ true = ap (λ (m : Move). m.took) is ∙ took in absurd cc

pub take-in : (changes : List Change) (number : ℕ) (move : Move) → move_numbered (map move_of changes) number ≡ Some move → move.took ≡ true → (need : ℕ) × (numbered changes number ≡ Some (Taken number move.buf.0 need))
take-in changes number move is took =
    let x = changed (numbered changes number) move (sym (numbered-map changes number) ∙ is) in
    let take = take-by x.0 move x.2 took in
    (take.0, x.1 ∙ ap Some take.1 ∙ ap (λ n. Some (Taken n move.buf.0 take.0)) (numbered-is changes number x.0 x.1))

pub next-change : (changes : List Change) (buf number next : ℕ) → IsNextMove (map move_of changes) buf number next → IsNextChange changes buf number next
next-change changes buf number next is = record { changes_buf = changes-buf changes buf next is.moves_buf; after = is.after; first = λ other here after. is.first other (moves-buf changes buf other here) after }

pub next-move : (changes : List Change) (buf number next : ℕ) → IsNextChange changes buf number next → IsNextMove (map move_of changes) buf number next
next-move changes buf number next is = record { moves_buf = moves-buf changes buf next is.changes_buf; after = is.after; first = λ other here after. is.first other (changes-buf changes buf other here) after }

-- of the changes of a buffer after a number there is a first one
abbrev pub None-before : List Change → (buf number at : ℕ) → Type 0
None-before changes buf number at = (other : ℕ) → ChangesBuf changes buf other → number < other → at ≤ other

passed : (changes : List Change) (buf number at : ℕ) → None-before changes buf number at → (ChangesBuf changes buf at → ⊥) → None-before changes buf number (at + 1)
passed changes buf number at none other-buf other here after = elim (cases_lt at other) [
  | inl above ↦ omega (arith, above)
  | inr below ↦ let same : other ≡ at = omega (arith, below, none other here after) in let P : ℕ → Type 0 = λ n. ChangesBuf changes buf n in absurd (other-buf (subst P same here))
]

first-by : (changes : List Change) (buf number at : ℕ) (change : Option Change) → numbered changes at ≡ change → number < at → None-before changes buf number at →
    (None-before changes buf number (at + 1) → (next : ℕ) × IsNextChange changes buf number next) → (next : ℕ) × IsNextChange changes buf number next
first-by changes buf number at None is after none later = later (passed changes buf number at none (λ here. let no : None ≡ Some here.0 = sym is ∙ here.1 in absurd cc))
first-by changes buf number at (Some x) is after none later = elim (eqb_tells (changed_buf x) buf) [
  | inl same ↦ (at, record { changes_buf = (x, is, same.1); after = after; first = none })
  | inr other ↦ later (passed changes buf number at none (λ here. let one : Some x ≡ Some here.0 = sym is ∙ here.1 in let equal : x ≡ here.0 = cc in other.1 (ap changed_buf equal ∙ here.2)))
]

pub first-after : (changes : List Change) (buf number end far at : ℕ) → end ≡ at + far → number < at → None-before changes buf number at → ChangesBuf changes buf end → (next : ℕ) × IsNextChange changes buf number next
first-after changes buf number end zero at is after none there =
    let same : end ≡ at = omega (arith, is) in let P : ℕ → Type 0 = λ n. ChangesBuf changes buf n in (at, record { changes_buf = subst P same there; after = after; first = none })
first-after changes buf number end (suc far) at is after none there =
    first-by changes buf number at (numbered changes at) refl after none (λ later. first-after changes buf number end far (at + 1) (omega (arith, is)) (omega (arith, after)) later there)
