-- The changes of a pool and its overflows: their numbers, the free sets between them, and what makes them lawful.
use Rattle.std.specs.Prelude.{◌≡◌, ℕ, ◌+◌, ◌-◌, ◌^◌, ◌<◌, ◌≤◌, ◌==◌, zero, suc, List, [], ◌∷◌, length, map, find, All, Option, Some, None, IsBitSet}
use Rattle.gw_base.specs.Fit.{IsSmallest, NoneFits}
use Rattle.hub_core.specs.View.{Change, Taken, Freed, Refusal}

-- a change's number
abbrev pub number_of : Change → ℕ
number_of (Taken number buf need) = number
number_of (Freed number buf) = number

-- the numbers from one on, each once and in order
abbrev pub CountsFrom : ℕ → List ℕ → Type 0
CountsFrom first [] = Unit {0}
CountsFrom first (number ∷ numbers) = (number ≡ first) × CountsFrom (first + 1) numbers

-- the changes stand in the order of their numbers, from 1
abbrev pub AreInOrder : List Change → Type 0
AreInOrder changes = CountsFrom 1 (map number_of changes)

-- the change of a number, where there is one
abbrev pub numbered : List Change → ℕ → Option Change
numbered changes number = find (λ change. number_of change == number) changes

-- the free set after a change: a taken buffer's bit goes, a freed one's comes back
abbrev pub moved : Option Change → ℕ → ℕ
moved None free = free
moved (Some (Taken number buf need)) free = free - 2 ^ buf
moved (Some (Freed number buf)) free = free + 2 ^ buf

-- the free set after the changes up to a number; at first all buffers are free
abbrev pub replay : List ℕ → List Change → ℕ → ℕ
replay sizes changes zero = 2 ^ length sizes - 1
replay sizes changes (suc number) = moved (numbered changes (suc number)) (replay sizes changes number)

-- a lawful change of a free set: the smallest fitting buffer is taken, and what is freed wasn't free
abbrev pub IsLawful : List ℕ → ℕ → Change → Type 0
IsLawful sizes free (Taken number buf need) = IsSmallest sizes free need buf
IsLawful sizes free (Freed number buf) = (buf < length sizes) × (IsBitSet free buf → ⊥)

-- the word of an overflow: a number of changes there were, their free set, and no buffer in it that fits
pub record IsOverflow (sizes : List ℕ) (changes : List Change) (refusal : Refusal) : Type 0 where
  pub there : refusal.number ≤ length changes
  pub set : refusal.free ≡ replay sizes changes refusal.number
  pub none_fits : NoneFits sizes refusal.free refusal.need

-- the buffer that a change takes or frees
abbrev pub changed_buf : Change → ℕ
changed_buf (Taken number buf need) = buf
changed_buf (Freed number buf) = buf

-- the change of a number takes or frees the buffer
abbrev pub ChangesBuf : List Change → (buf number : ℕ) → Type 0
ChangesBuf changes buf number = (change : Change) × (numbered changes number ≡ Some change) × (changed_buf change ≡ buf)

-- the first number after another whose change takes or frees the buffer
pub record IsNextChange (changes : List Change) (buf number next : ℕ) : Type 0 where
  pub changes_buf : ChangesBuf changes buf next
  pub after : number < next
  pub first : (other : ℕ) → ChangesBuf changes buf other → number < other → next ≤ other

-- a group's changes, with their number and the free set after them: each has its number from 1 on once, is found by it, and is lawful
pub record IsGroupJournal (sizes : List ℕ) (count free : ℕ) (changes : List Change) : Type 0 where
  pub count_is : count ≡ length changes
  pub free_is : free ≡ replay sizes changes count
  pub own : All (λ change. numbered changes (number_of change) ≡ Some change) changes
  pub each : (number : ℕ) → number < count → (change : Change) × (numbered changes (number + 1) ≡ Some change) × IsLawful sizes (replay sizes changes number) change
