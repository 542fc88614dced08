-- Buffers in one list, and the groups that they are cut into.
use Rattle.std.proofs.Common.{◌≡◌, ℕ, ◌+◌, ◌-◌, ◌<◌, ◌≤◌, inl, inr, zero, suc, List, [], ◌∷◌, ◌++◌, length, take, drop, Some, All, refl, ap, sym, ◌∙◌, subst, arith}
use Rattle.std.proofs.lemmas.Bool.{cases_lt}
use Rattle.std.proofs.lemmas.List.{take-append-drop, length-drop, length-take-le}
use Rattle.std.proofs.lemmas.List.Elements.{All-head, All-tail, All-weaker}
use Rattle.std.proofs.lemmas.List.Sums.{sum_by-cons, sum_by-le, sum_by-take-le}
use Rattle.std.proofs.lemmas.Option.{same_Some}
use Rattle.std.specs.Prelude.{slice_get, get_or, sum}
use Rattle.hub_core.specs.Groups.{grouped, first_of, all_sizes, group_of, place_of, sizes_of}

-- a buffer of the first group, and one of a later group
pub first-group : (sizes : List ℕ) (groups : List (List ℕ)) (buf : ℕ) → buf < length sizes →
    (group_of (sizes ∷ groups) buf ≡ 0) × (place_of (sizes ∷ groups) buf ≡ buf)
first-group sizes groups buf below = grind arith

pub later-group : (sizes : List ℕ) (groups : List (List ℕ)) (buf : ℕ) → length sizes ≤ buf →
    (group_of (sizes ∷ groups) buf ≡ suc (group_of groups (buf - length sizes)))
    × (place_of (sizes ∷ groups) buf ≡ place_of groups (buf - length sizes))
later-group sizes groups buf past = grind arith

-- an item of two lists, one after the other
first-part : {A : Type 0} (xs ys : List A) (k : ℕ) → k < length xs → slice_get (xs ++ ys) k ≡ slice_get xs k
first-part [] ys k below = absurd (omega (arith, below))
first-part (x ∷ xs) ys zero below = refl
first-part (x ∷ xs) ys (suc k) below = first-part xs ys k (omega (arith, below))

second-part : {A : Type 0} (xs ys : List A) (k : ℕ) → length xs ≤ k → slice_get (xs ++ ys) k ≡ slice_get ys (k - length xs)
second-part [] ys k past = ap (slice_get ys) (let same : k ≡ k - 0 = omega arith in same)
second-part (x ∷ xs) ys zero past = absurd (omega (arith, past))
second-part (x ∷ xs) ys (suc k) past = second-part xs ys k (omega (arith, past)) ∙ ap (slice_get ys) (let same : k - length xs ≡ suc k - suc (length xs) = omega arith in same)

-- a buffer has the cells that it has in its group
pub size-in : (groups : List (List ℕ)) (buf : ℕ) → slice_get (sizes_of groups (group_of groups buf)) (place_of groups buf) ≡ slice_get (all_sizes groups) buf
size-in [] buf = refl
size-in (sizes ∷ groups) buf = elim (cases_lt buf (length sizes)) [
  | inl below ↦ (let its = first-group sizes groups buf below in
      ap (λ (x : ℕ × ℕ). slice_get (sizes_of (sizes ∷ groups) x.0) x.1) (λ i. (its.0 i, its.1 i)) ∙ sym (first-part sizes (all_sizes groups) buf below))
  | inr past ↦ (let its = later-group sizes groups buf past in
      ap (λ (x : ℕ × ℕ). slice_get (sizes_of (sizes ∷ groups) x.0) x.1) (λ i. (its.0 i, its.1 i)) ∙ size-in groups (buf - length sizes) ∙ sym (second-part sizes (all_sizes groups) buf past))
]

sum-cons : (n : ℕ) (counts : List ℕ) → sum (n ∷ counts) ≡ n + sum counts
sum-cons n counts = sum_by-cons (λ (x : ℕ). x) n counts

pub all-cut : (counts cells : List ℕ) → sum counts ≡ length cells → all_sizes (grouped counts cells) ≡ cells
all-cut [] [] all = refl
all-cut [] (x ∷ cells) all = absurd (omega (arith, all))
all-cut (n ∷ counts) cells all =
    ap (λ l. take n cells ++ l) (all-cut counts (drop n cells) (omega (arith, all, sum-cons n counts, length-drop n cells))) ∙ take-append-drop n cells

pub groups-cut : (counts cells : List ℕ) → length (grouped counts cells) ≡ length counts
groups-cut [] cells = refl
groups-cut (n ∷ counts) cells = ap suc (groups-cut counts (drop n cells))

drop-more : {A : Type 0} (n m : ℕ) (xs : List A) → drop m (drop n xs) ≡ drop (n + m) xs
drop-more zero m xs = ap (λ k. drop k xs) (let same : m ≡ 0 + m = omega arith in same)
drop-more {A = A} (suc n) m [] = nothing m ∙ sym (nothing (suc n + m))
  where
    nothing : (k : ℕ) → drop {A = A} k [] ≡ []
    nothing zero = refl
    nothing (suc k) = refl
drop-more (suc n) m (x ∷ xs) = drop-more n m xs ∙ ap (λ k. drop k (x ∷ xs)) (let same : suc (n + m) ≡ suc n + m = omega arith in same)

-- a group's buffers are so many from its first one on
pub group-cut : (counts cells : List ℕ) (group : ℕ) → group < length counts → sizes_of (grouped counts cells) group ≡ take (get_or counts group 0) (drop (first_of counts group) cells)
group-cut [] cells group below = absurd (omega (arith, below))
group-cut (n ∷ counts) cells zero below = refl
group-cut (n ∷ counts) cells (suc group) below =
    group-cut counts (drop n cells) group (omega (arith, below))
    ∙ ap (take (get_or counts group 0)) (drop-more n (first_of counts group) cells ∙ ap (λ k. drop k cells) (sym (sum-cons n (take group counts))))

first-within : (counts : List ℕ) (group : ℕ) → group < length counts → first_of counts group + get_or counts group 0 ≤ sum counts
first-within [] group below = absurd (omega (arith, below))
first-within (n ∷ counts) zero below = omega (arith, sum-cons n counts)
first-within (n ∷ counts) (suc group) below = (let h = first-within counts group (omega (arith, below)) in omega (arith, h, sum-cons n counts, sum-cons n (take group counts)))

pub last-within : (counts cells : List ℕ) (group : ℕ) → group < length counts → sum counts ≡ length cells → first_of counts group + get_or counts group 0 ≤ length cells
last-within counts cells group below all = omega (arith, first-within counts group below, all)

pub count-cut : (counts cells : List ℕ) (group : ℕ) → group < length counts → sum counts ≡ length cells → length (sizes_of (grouped counts cells) group) ≡ get_or counts group 0
count-cut counts cells group below all =
    ap (λ (l : List ℕ). length l) (group-cut counts cells group below)
    ∙ length-take-le (get_or counts group 0) (drop (first_of counts group) cells) (omega (arith, first-within counts group below, all, length-drop (first_of counts group) cells))

-- a buffer's group, and its number there
pub buffer-cut : (counts cells : List ℕ) (group place : ℕ) → sum counts ≤ length cells → place < get_or counts group 0 → (group_of (grouped counts cells) (first_of counts group + place) ≡ group) × (place_of (grouped counts cells) (first_of counts group + place) ≡ place)
buffer-cut [] cells group place most below = absurd (none group below)
  where
    none : (g : ℕ) → place < get_or [] g 0 → ⊥
    none zero low = absurd (omega (arith, low))
    none (suc g) low = absurd (omega (arith, low))
buffer-cut (n ∷ counts) cells zero place most below =
    let long : length (take n cells) ≡ n = length-take-le n cells (omega (arith, most, sum-cons n counts)) in
    let its = first-group (take n cells) (grouped counts (drop n cells)) place (omega (arith, long, below)) in
    let same : first_of (n ∷ counts) 0 + place ≡ place = omega arith in
    (ap (group_of (grouped (n ∷ counts) cells)) same ∙ its.0, ap (place_of (grouped (n ∷ counts) cells)) same ∙ its.1)
buffer-cut (n ∷ counts) cells (suc group) place most below =
    let long : length (take n cells) ≡ n = length-take-le n cells (omega (arith, most, sum-cons n counts)) in
    let buf : ℕ = first_of (n ∷ counts) (suc group) + place in
    let is : buf - length (take n cells) ≡ first_of counts group + place = omega (arith, long, sum-cons n (take group counts)) in
    let its = later-group (take n cells) (grouped counts (drop n cells)) buf (omega (arith, long, sum-cons n (take group counts))) in
    let rest = buffer-cut counts (drop n cells) group place (omega (arith, most, sum-cons n counts, length-drop n cells)) below in
    (its.0 ∙ ap (λ b. suc (group_of (grouped counts (drop n cells)) b)) is ∙ ap suc rest.0, its.1 ∙ ap (place_of (grouped counts (drop n cells))) is ∙ rest.1)

-- where a buffer is
pub record IsThere (counts cells : List ℕ) (buf : ℕ) : Type 0 where
  pub group : group_of (grouped counts cells) buf < length counts
  pub place : place_of (grouped counts cells) buf < get_or counts (group_of (grouped counts cells) buf) 0
  pub at : first_of counts (group_of (grouped counts cells) buf) + place_of (grouped counts cells) buf ≡ buf

pub there-cut : (counts cells : List ℕ) (buf : ℕ) → sum counts ≡ length cells → buf < length cells → IsThere counts cells buf
there-cut [] cells buf all below = absurd (omega (arith, all, below))
there-cut (n ∷ counts) cells buf all below = elim (cases_lt buf (length (take n cells))) [
  | inl low ↦ (let its = first-group (take n cells) (grouped counts (drop n cells)) buf low in
      record { group = omega (arith, its.0); place = subst (λ (x : ℕ × ℕ). x.1 < get_or (n ∷ counts) x.0 0) (λ i. (sym its.0 i, sym its.1 i)) (omega (arith, long, low)); at = ap (λ (x : ℕ × ℕ). first_of (n ∷ counts) x.0 + x.1) (λ i. (its.0 i, its.1 i)) ∙ (let same : first_of (n ∷ counts) 0 + buf ≡ buf = omega arith in same) })
  | inr past ↦
      let its = later-group (take n cells) (grouped counts (drop n cells)) buf past in
      let rest = there-cut counts (drop n cells) (buf - length (take n cells)) (omega (arith, all, sum-cons n counts, length-drop n cells)) (omega (arith, all, below, past, long, length-drop n cells)) in
      record {
        group = omega (arith, its.0, rest.group);
        place = subst (λ (x : ℕ × ℕ). x.1 < get_or (n ∷ counts) x.0 0) (λ i. (sym its.0 i, sym its.1 i)) rest.place;
        at = ap (λ (x : ℕ × ℕ). first_of (n ∷ counts) x.0 + x.1) (λ i. (its.0 i, its.1 i)) ∙ omega (arith, rest.at, past, long, sum-cons n (take (group_of (grouped counts (drop n cells)) (buf - length (take n cells))) counts));
      }
]
  where
    long : length (take n cells) ≡ n
    long = length-take-le n cells (omega (arith, all, sum-cons n counts))

pub first-few : (counts : List ℕ) (group : ℕ) → length counts ≤ 4 → All (λ n. (1 ≤ n) × (n ≤ 32)) counts → first_of counts group ≤ 128
first-few counts group few each =
    let h = sum_by-le (λ (x : ℕ). x) 32 counts (All-weaker (λ n. (1 ≤ n) × (n ≤ 32)) (λ n. n ≤ 32) (λ n is. is.1) counts each) in
    omega (arith, h, few, sum_by-take-le (λ (x : ℕ). x) counts group)

-- an item of a part of a list
pub part-get : {A : Type 0} (xs : List A) (first count k : ℕ) → k < count → slice_get (take count (drop first xs)) k ≡ slice_get xs (first + k)
part-get xs zero count k below = taken xs count k below ∙ ap (slice_get xs) (let same : k ≡ 0 + k = omega arith in same)
  where
    taken : {A : Type 0} (xs : List A) (count k : ℕ) → k < count → slice_get (take count xs) k ≡ slice_get xs k
    taken xs zero k below = absurd (omega (arith, below))
    taken [] (suc count) k below = refl
    taken (x ∷ xs) (suc count) zero below = refl
    taken (x ∷ xs) (suc count) (suc k) below = taken xs count k (omega (arith, below))
part-get [] (suc first) zero k below = absurd (omega (arith, below))
part-get [] (suc first) (suc count) k below = refl
part-get (x ∷ xs) (suc first) count k below = part-get xs first count k below ∙ ap (slice_get (x ∷ xs)) (let same : suc (first + k) ≡ suc first + k = omega arith in same)

-- what holds of all items holds of each
pub all-there : {A : Type 0} (P : A → Type 0) (xs : List A) (k : ℕ) (x : A) → All P xs → slice_get xs k ≡ Some x → P x
all-there P [] k x all is = absurd cc
all-there P (first ∷ xs) zero x all is = subst P (same_Some first x is) (All-head P first xs all)
all-there P (first ∷ xs) (suc k) x all is = all-there P xs k x (All-tail P first xs all) is

-- the buffers of all groups are few
pub few-buffers : (counts cells : List ℕ) → length counts ≤ 4 → All (λ n. (1 ≤ n) × (n ≤ 32)) counts → sum counts ≡ length cells → length cells ≤ 128
few-buffers counts cells few each all =
    let h = sum_by-le (λ (x : ℕ). x) 32 counts (All-weaker (λ n. (1 ≤ n) × (n ≤ 32)) (λ n. n ≤ 32) (λ n is. is.1) counts each) in
    omega (arith, h, few, all)
