-- Numbers and lists of all seats, added up.
use Rattle.std.specs.Prelude.{◌≡◌, ℕ, ◌+◌, ◌⊎◌, zero, suc, if◌then◌else◌, Bool, List, [], ◌∷◌, Option, Some, None}
use mathlib.Core.Option.{some}
use lib.ListN.{get_elem?}
use Rattle.hub_core.specs.View.{Taking}
use Rattle.hub_shared.specs.declared.sight.Sight.{Sight}

-- the items of a list, weighed and added up; and a number of each seat, added up
abbrev pub weigh : {A : Type 0} → (A → ℕ) → List A → ℕ
weigh h [] = 0
weigh h (x ∷ xs) = h x + weigh h xs

abbrev pub total : (Sight → ℕ) → List Sight → ℕ
total f [] = 0
total f (v ∷ vs) = f v + total f vs

-- what all seats have of a list is the whole of it together, in some order: so it is however the items are weighed
abbrev pub AreDealt : {A : Type 0} → (Sight → List A) → List A → List Sight → Type 0
AreDealt {A} own whole views = (h : A → ℕ) → total (λ v. weigh h (own v)) views ≡ weigh h whole

abbrev pub counts_one : Bool → ℕ
counts_one b = if b then 1 else 0

abbrev pub counts_some : Option Taking → ℕ
counts_some None = 0
counts_some (Some t) = 1

-- the buffers below a number that are held
abbrev pub count_held : (ℕ → Option Taking) → ℕ → ℕ
count_held held zero = 0
count_held held (suc buf) = counts_some (held buf) + count_held held buf

-- just one seat acts for a party, and has the party's whole list; the others have nothing of it
pub record IsOfOne {A : Type 0} (acts : Sight → Bool) (own : Sight → List A) (whole : List A) (views : List Sight) : Type 0 where
  pub one : total (λ v. counts_one (acts v)) views ≡ 1
  pub each : (id : ℕ) (v : Sight) → get_elem? views id ≡ some v → own v ≡ (if acts v then whole else [])

-- a buffer that is held is held by just one seat
pub record IsHeldByOne (own : Sight → Option Taking) (whole : Option Taking) (views : List Sight) : Type 0 where
  pub one : total (λ v. counts_some (own v)) views ≡ counts_some whole
  pub each : (id : ℕ) (v : Sight) → get_elem? views id ≡ some v → (own v ≡ None) ⊎ (own v ≡ whole)
