-- A plain hub as it is made: all buffers are free, and nothing was done.
use Rattle.std.proofs.Common.{◌≡◌, ℕ, ◌+◌, ◌<◌, ◌≤◌, zero, suc, List, [], ◌∷◌, length, map, take, drop, replicate, Some, All, refl, ap, sym, ◌∙◌, subst, arith}
use Rattle.std.proofs.lemmas.List.{take_more, length-drop, length-take-le}
use Rattle.std.proofs.lemmas.List.Sums.{sum_by-cons, sum_by_push}
use Rattle.std.specs.Prelude.{slice_get, get_or, sum, sum_by}
use Rattle.hub_core.proofs.Led.{led-opening}
use Rattle.hub_core.proofs.Pools.{AreWords}
use Rattle.hub_core.proofs.Starts.{few-words}
use Rattle.hub_core.specs.Groups.{grouped}
use Rattle.hub_core.specs.Plain.{IsShown, start_of, reserved, taken}
use Rattle.pool_words.specs.Pools.{full_pool}
use Rattle.hub_core.specs.View.{View, empty_view}
use Rattle.hub_core.specs.declared.place.Place.{Place}
use Rattle.hub_core.specs.declared.place.Place.TheVariants.{Free, Occupied}
use Rattle.hub_core.specs.declared.place.Row.{Row}
use Rattle.pool_words.specs.declared.pool.Pool.{Pool}

none-there : (n k : ℕ) (row : Row) → slice_get (replicate n Free) k ≡ Some (Occupied row) → ⊥
none-there zero k row is = absurd cc
none-there (suc n) zero row is = absurd cc
none-there (suc n) (suc k) row is = none-there n k row is

none-counted : (f : Place → ℕ) (n : ℕ) → f Free ≡ 0 → sum_by f (replicate n Free) ≡ 0
none-counted f zero is = refl
none-counted f (suc n) is = sum_by-cons f Free (replicate n Free) ∙ omega (arith, is, none-counted f n is)

-- the words of groups whose buffers are all free
pub full-words : (counts cells : List ℕ) → sum counts ≡ length cells → AreWords (grouped counts cells) (map full_pool counts) []
full-words [] cells all group below = absurd (omega (arith, below))
full-words (n ∷ counts) cells all zero below = ap (λ (k : ℕ). Some (full_pool k)) (sym (length-take-le n cells (omega (arith, all, sum_by-cons (λ (x : ℕ). x) n counts))))
full-words (n ∷ counts) cells all (suc group) below = full-words counts (drop n cells) (omega (arith, all, sum_by-cons (λ (x : ℕ). x) n counts, length-drop n cells)) group (omega (arith, below))

-- nothing is shown yet
pub begins : (groups : List (List ℕ)) (words : List ℕ) (places : List Place) (pools : List Pool) (buffers takes : ℕ) (v : View) → v ≡ empty_view → places ≡ replicate buffers Free → AreWords groups pools [] → takes ≡ 1000000 → IsShown groups places words pools takes v
begins groups words places pools buffers takes v is all set left = subst (IsShown groups places words pools takes) (sym is) (record {
  places_show = record {
    rows = λ b r at. absurd (none-there buffers b r (ap (λ (l : List Place). slice_get l b) (sym all) ∙ at));
    party = λ b r s at there over. none-there buffers b r (ap (λ (l : List Place). slice_get l b) (sym all) ∙ at);
    sessions = λ p k s at. absurd cc;
    held = λ b t at. absurd cc;
  };
  words_show = record { cells = λ p k s at. absurd cc; ring = λ p k i cell s at. absurd cc };
  counts = record {
    words = set;
    moves = omega (arith, left, ap (sum_by taken) all, none-counted taken buffers refl);
    sessions = λ p. omega (arith, left, ap (sum_by reserved) all, none-counted reserved buffers refl);
    some = λ p k s at. absurd cc;
    dests = λ p k s at. absurd cc;
  };
  led = led-opening groups;
})

-- where the next ring begins
pub start-next : (sizes : List ℕ) (buf : ℕ) → buf < length sizes → start_of sizes (buf + 1) ≡ start_of sizes buf + get_or sizes buf 0
start-next sizes buf below = ap sum (take_more sizes buf 0 below) ∙ sum_by_push (λ (x : ℕ). x) (take buf sizes) (get_or sizes buf 0)

pub start-most : (sizes : List ℕ) (buf : ℕ) → length sizes ≤ 128 → All (λ n. (1 ≤ n) × (n ≤ 8192)) sizes → start_of sizes buf ≤ 1048576
start-most sizes buf few each = omega (arith, few-words sizes few each, Rattle.std.proofs.lemmas.List.Sums.sum_by-take-le (λ (x : ℕ). x) sizes buf)
