-- Changes in the order of their numbers, the free set that they lead to, and the free that follows a take, as one more
-- change comes.
use Rattle.std.proofs.Common.{◌≡◌, ℕ, zero, suc, ◌+◌, ◌<◌, ◌≤◌, ◌⊎◌, inl, inr, List, [], ◌∷◌, ◌++◌, length, map}
use Rattle.std.proofs.Common.{Some, All, refl, ap, ◌∙◌, subst, arith, length-append}
use Rattle.std.proofs.lemmas.Bool.{cases_lt}
use Rattle.std.proofs.lemmas.Bool.Decides.{eqb_tells}
use Rattle.std.proofs.lemmas.List.Folds.{find-append}
use Rattle.std.proofs.lemmas.Option.{slice_get-get_or}
use Rattle.std.specs.Prelude.{IsBitSet, ◌==◌, slice_get}
use Rattle.gw_base.proofs.Lists.{there-at}
use Rattle.hub_core.specs.Journal.{CountsFrom, AreInOrder, number_of, numbered, moved, replay, IsLawful, IsOverflow, changed_buf, ChangesBuf}
use Rattle.hub_core.specs.View.{Change, Taken, Freed, Refusal}
use Rattle.pool_words.proofs.Bits.{take-clears, take-leaves, free-leaves}

-- a change is found by its number, and has it
pub numbered-number : (changes : List Change) (n : ℕ) (d : Change) → numbered changes n ≡ Some d → number_of d ≡ n
numbered-number [] n d is = absurd cc
numbered-number (c ∷ changes) n d is = grind (arith, numbered-number changes n d)

-- what is found stays found as one more change comes, and what is found then was found before, or is the new one
pub numbered-old : (changes : List Change) (c : Change) (n : ℕ) (d : Change) →
    numbered changes n ≡ Some d → numbered (changes ++ c ∷ []) n ≡ Some d
numbered-old changes c n d is = grind (arith, find-append (λ (x : Change). number_of x == n) changes (c ∷ []))

numbered-back : (changes : List Change) (c : Change) (n : ℕ) (d : Change) →
    numbered (changes ++ c ∷ []) n ≡ Some d → (numbered changes n ≡ Some d) ⊎ ((n ≡ number_of c) × (d ≡ c))
numbered-back changes c n d is = grind (arith, find-append (λ (x : Change). number_of x == n) changes (c ∷ []))

-- numbers that count from one on are the places, and stay so as the next change comes
counts-at : (first : ℕ) (changes : List Change) (k : ℕ) → CountsFrom first (map number_of changes) →
    numbered changes (first + k) ≡ slice_get changes k
counts-at first [] k counts = refl
counts-at first (c ∷ changes) zero counts = grind (arith, counts)
counts-at first (c ∷ changes) (suc k) counts = grind (arith, counts, counts-at (first + 1) changes k counts.1)

counts-within : (first : ℕ) (changes : List Change) (n : ℕ) (d : Change) → CountsFrom first (map number_of changes) →
    numbered changes n ≡ Some d → (first ≤ n) × (n < first + length changes)
counts-within first [] n d counts is = absurd cc
counts-within first (c ∷ changes) n d counts is = grind (arith, counts, counts-within (first + 1) changes n d counts.1)

counts-pushed : (first : ℕ) (changes : List Change) (c : Change) → CountsFrom first (map number_of changes) →
    number_of c ≡ first + length changes → CountsFrom first (map number_of (changes ++ c ∷ []))
counts-pushed first [] c counts next = (omega (arith, next), tt)
counts-pushed first (x ∷ changes) c counts next =
    (counts.0, counts-pushed (first + 1) changes c counts.1 (omega (arith, next)))

pub within : (changes : List Change) (n : ℕ) (d : Change) → AreInOrder changes → numbered changes n ≡ Some d →
    (1 ≤ n) × (n ≤ length changes)
within changes n d order is = grind (arith, counts-within 1 changes n d order is)

-- each change is found by its number
found : (changes : List Change) (number : ℕ) → AreInOrder changes → number < length changes →
    (d : Change) × (numbered changes (number + 1) ≡ Some d)
found changes number order below = grind (arith, counts-at 1 changes number order, there-at changes number below)

pub own-numbers : (changes : List Change) → AreInOrder changes →
    All (λ change. numbered changes (number_of change) ≡ Some change) changes
own-numbers changes order k d below =
    let at = counts-at 1 changes k order ∙ slice_get-get_or changes k d below in
    rw (numbered-number changes (1 + k) _ at) at

-- the changes are lawful, one after another
abbrev pub AreLawful : List ℕ → List Change → Type 0
AreLawful sizes changes = (number : ℕ) → number < length changes → (change : Change)
    × (numbered changes (number + 1) ≡ Some change) × IsLawful sizes (replay sizes changes number) change

-- a group's changes are in order and lawful, and a change may come next
pub record Journal (sizes : List ℕ) (changes : List Change) : Type 0 where
  pub order : AreInOrder changes
  pub lawful : AreLawful sizes changes

pub record IsNext (sizes : List ℕ) (changes : List Change) (c : Change) : Type 0 where
  pub number : number_of c ≡ length changes + 1
  pub lawful : IsLawful sizes (replay sizes changes (length changes)) c

-- the next change of an ordered list is found by its number, and leaves the free sets before it
pub numbered-new : (changes : List Change) (c : Change) → AreInOrder changes → number_of c ≡ length changes + 1 →
    numbered (changes ++ c ∷ []) (number_of c) ≡ Some c
numbered-new changes c order next =
    let joined = find-append (λ (x : Change). number_of x == number_of c) changes (c ∷ []) in
    grind (arith, joined, within changes (number_of c))

pub replay-old : (sizes : List ℕ) (changes : List Change) (c : Change) (number : ℕ) → AreInOrder changes →
    number ≤ length changes → replay sizes (changes ++ c ∷ []) number ≡ replay sizes changes number
replay-old sizes changes c zero order most = refl
replay-old sizes changes c (suc number) order most =
    let before = replay-old sizes changes c number order in
    grind (arith, found changes number order, numbered-old changes c (suc number), before)

pub journal-pushed : (sizes : List ℕ) (changes : List Change) (c : Change) → Journal sizes changes →
    IsNext sizes changes c → Journal sizes (changes ++ c ∷ [])
journal-pushed sizes changes c was next = record {
  order = counts-pushed 1 changes c was.order (omega (arith, next.number));
  lawful = λ number below. elim (cases_lt number (length changes)) [
    | inl before ↦
        let still = replay-old sizes changes c number was.order in
        grind (arith, was.lawful number before, numbered-old changes c (number + 1), still)
    | inr past ↦
        let last : number ≡ length changes = omega (arith, length-append changes (c ∷ [])) in
        let its : number_of c ≡ number + 1 = omega (arith, next.number) in
        let still = replay-old sizes changes c number was.order (omega arith) ∙ ap (replay sizes changes) last in
        (c, rw (← its) (numbered-new changes c was.order next.number), rw still next.lawful)
  ];
}

pub overflow-pushed : (sizes : List ℕ) (changes : List Change) (c : Change) (r : Refusal) → AreInOrder changes →
    IsOverflow sizes changes r → IsOverflow sizes (changes ++ c ∷ []) r
overflow-pushed sizes changes c r order is =
    grind (arith, is.none_fits, length-append changes (c ∷ []), replay-old sizes changes c r.number order)

-- a buffer whose last change is a take isn't free
module _ (sizes : List ℕ) (changes : List Change) (number buf need : ℕ) (journal : Journal sizes changes)
    (is : numbered changes number ≡ Some (Taken number buf need))
    (last : (later : ℕ) → ChangesBuf changes buf later → later ≤ number) where
  clear-until : (until : ℕ) → number ≤ until → until ≤ length changes → IsBitSet (replay sizes changes until) buf → ⊥
  clear-until zero low most set = absurd (omega (arith, (within changes number _ journal.order is).0))
  clear-until (suc until) low most set =
      let law = journal.lawful until (omega arith) in
      let free = replay sizes changes until in
      let next : suc until ≡ until + 1 = omega arith in
      let there = ap (numbered changes) next ∙ law.1 in
      let now = subst (λ d. IsBitSet (moved d free) buf) there set in
      elim (cases_lt until number) [
        | inl here ↦
            let same : suc until ≡ number = omega arith in
            grind (arith, same, is, there, law.2, now, take-clears free buf)
        | inr past ↦
            let other = λ (e : changed_buf law.0 ≡ buf). last (suc until) (law.0, there, e) in
            let before = clear-until until past (omega arith) in
            grind (arith, other, before, law.2, now, take-leaves free, free-leaves free)
      ]

  pub taken-clear : IsBitSet (replay sizes changes (length changes)) buf → ⊥
  taken-clear = clear-until (length changes) (within changes number _ journal.order is).1 (omega arith)

-- no change of the buffer comes after that one
abbrev pub IsLast : List Change → (buf number : ℕ) → Type 0
IsLast changes buf number = (later : ℕ) → ChangesBuf changes buf later → later ≤ number

-- the next change of a taken buffer is its free
pub record IsFreedNext (changes : List Change) (buf number : ℕ) : Type 0 where
  pub free : ℕ
  pub after : number < free
  pub first : (other : ℕ) → ChangesBuf changes buf other → number < other → free ≤ other
  pub freed : numbered changes free ≡ Some (Freed free buf)

-- each take is its buffer's last change, or is done with and freed
abbrev pub AreFreed : (ℕ → Type 0) → List Change → Type 0
AreFreed Done changes = (number buf need : ℕ) → numbered changes number ≡ Some (Taken number buf need) →
    IsLast changes buf number ⊎ (Done number × IsFreedNext changes buf number)

-- a change comes after a buffer's take only as its free, once that is done with
abbrev pub Ends : (ℕ → Type 0) → List Change → Change → Type 0
Ends Done changes c = (number need : ℕ) → numbered changes number ≡ Some (Taken number (changed_buf c) need) →
    IsLast changes (changed_buf c) number → Done number × (c ≡ Freed (number_of c) (changed_buf c))

module _ (Done : ℕ → Type 0) (changes : List Change) (c : Change) (order : AreInOrder changes)
    (next : number_of c ≡ length changes + 1) where
  -- a change of a buffer came before the new one, or is the new one
  back : (buf later : ℕ) → ChangesBuf (changes ++ c ∷ []) buf later →
      (ChangesBuf changes buf later × (later < number_of c)) ⊎ ((later ≡ number_of c) × (changed_buf c ≡ buf))
  back buf later is = grind (arith, numbered-back changes c later is.0 is.1, within changes later is.0 order, is)

  pub freed-pushed : Ends Done changes c → AreFreed Done changes → AreFreed Done (changes ++ c ∷ [])
  freed-pushed ends old n p need take = elim (numbered-back changes c n (Taken n p need) take) [
    | inl was ↦ elim (old n p need was) [
      | inl last ↦ elim (eqb_tells (changed_buf c) p) [
        | inl same ↦
            let end = ends n need (rw same.1 was) (rw same.1 last) in
            let now = numbered-new changes c order next in
            inr (
              end.0,
              record {
                free = number_of c;
                after = grind (arith, within changes n _ order was);
                first = λ l is after. grind (arith, back p l is, last l);
                freed = now ∙ ap Some (end.1 ∙ ap (Freed (number_of c)) same.1);
              },
            )
        | inr other ↦ inl (λ l is. grind (arith, back p l is, last l, other))
      ]
      | inr e ↦ inr (
        e.0,
        record {
          free = e.1.free;
          after = e.1.after;
          first = λ l is after. grind (arith, back p l is, e.1.first l, within changes e.1.free _ order e.1.freed);
          freed = numbered-old changes c e.1.free _ e.1.freed;
        },
      )
    ]
    | inr new ↦ inl (λ l is. grind (arith, back p l is, new))
  ]
