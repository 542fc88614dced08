-- The pieces of a transmission in the order of their ticks: those that left before a tick, up to it, and after it.
use Rattle.std.proofs.Common.{◌≡◌, ℕ, ◌+◌, ◌<◌, ◌≤◌, Bool, true, false, nat_le, List, [], ◌∷◌, ◌++◌, length, map, inl, inr, refl, ap, ◌∙◌, subst, arith, append-nil}
use Rattle.std.specs.Prelude.{filter, nat_lt}
use Rattle.std.specs.List.{AllByRecursion}
use Rattle.std.proofs.lemmas.Bool.{cases_lt}
use Rattle.std.proofs.lemmas.Bool.Decides.{nat_tests}
use Rattle.std.proofs.lemmas.List.{length-append, map-append}
use Rattle.std.proofs.lemmas.List.Elements.{filter-append}
use Rattle.std.proofs.lemmas.Grind.{flat_map-append}
use Rattle.flow_plan.proofs.Paces.{AreInOrder, in-order}
use Rattle.flow_plan.specs.Pace.{Control}
use Rattle.gw_base.proofs.Lists.{all-map, all-weaker}
use Rattle.sender_law.proofs.causes.TxCausesLists.{left-all}
use Rattle.sender_law.specs.Pacing.{Paced}
use Rattle.sender_law.specs.TransmissionCauses.{left_up_to}
use Rattle.tp_attempts.specs.Walk.{Piece, joined}
use Rattle.gw_law.specs.JointCauses.{left_before}
use Rattle.gw_law.specs.Timely.{bytes_to}

-- pieces in the order of their ticks
abbrev pub Ordered : List Piece → Type 0
Ordered [] = Unit {0}
Ordered (piece ∷ []) = Unit {0}
Ordered (piece ∷ next ∷ later) = (piece.at ≤ next.at) × Ordered (next ∷ later)

pub ordered-from : (piece : Piece) (pieces : List Piece) → AreInOrder piece.at (map (λ (p : Piece). p.at) pieces) → Ordered (piece ∷ pieces)
ordered-from piece [] is = tt
ordered-from piece (next ∷ pieces) is = (is.0, ordered-from next pieces is.1)

pub paced-ordered : (controls : List Control) (pieces : List Piece) → Paced controls pieces → Ordered pieces
paced-ordered controls [] paced = tt
paced-ordered controls (first ∷ later) paced = ordered-from first later (in-order controls first.at (map (λ (p : Piece). p.at) later) paced)

pub later-all : (tick : ℕ) (piece : Piece) (pieces : List Piece) → tick ≤ piece.at → Ordered (piece ∷ pieces) → AllByRecursion (λ (p : Piece). tick ≤ p.at) (piece ∷ pieces)
later-all tick piece [] le ordered = (le, tt)
later-all tick piece (next ∷ pieces) le ordered = (le, later-all tick next pieces (omega (arith, le, ordered.0)) ordered.1)

pub ordered-rest : (piece : Piece) (pieces : List Piece) → Ordered (piece ∷ pieces) → Ordered pieces
ordered-rest piece [] ordered = tt
ordered-rest piece (next ∷ pieces) ordered = ordered.1

-- the pieces below a tick, and from it on
pub record SplitAt (tick : ℕ) (pieces : List Piece) : Type 0 where
  pub early : List Piece
  pub later : List Piece
  pub is : pieces ≡ early ++ later
  pub below : AllByRecursion (λ (p : Piece). p.at < tick) early
  pub from : AllByRecursion (λ (p : Piece). tick ≤ p.at) later
  pub ordered : Ordered later

pub split-at : (tick : ℕ) (pieces : List Piece) → Ordered pieces → SplitAt tick pieces
split-at tick [] ordered = record { early = []; later = []; is = refl; below = tt; from = tt; ordered = tt }
split-at tick (piece ∷ pieces) ordered = elim (cases_lt piece.at tick) [
  | inl below ↦
      let so : SplitAt tick pieces = split-at tick pieces (ordered-rest piece pieces ordered) in
      record { early = piece ∷ so.early; later = so.later; is = ap (λ l. piece ∷ l) so.is; below = (below, so.below); from = so.from; ordered = so.ordered }
  | inr from ↦ record { early = []; later = piece ∷ pieces; is = refl; below = tt; from = later-all tick piece pieces from ordered; ordered = ordered }
]

-- what is kept of them
pub kept : {A : Type 0} (keeps : A → Bool) (xs : List A) → AllByRecursion (λ x. keeps x ≡ true) xs → filter keeps xs ≡ xs
kept keeps [] all = refl
kept keeps (x ∷ xs) all = rw all.0 (ap (λ l. x ∷ l) (kept keeps xs all.1))

pub dropped : {A : Type 0} (keeps : A → Bool) (xs : List A) → AllByRecursion (λ x. keeps x ≡ false) xs → filter keeps xs ≡ []
dropped keeps [] all = refl
dropped keeps (x ∷ xs) all = rw all.0 (dropped keeps xs all.1)

pub lt-true : (a b : ℕ) → a < b → nat_lt a b ≡ true
lt-true a b lt = grind (arith, nat_tests)

pub lt-false : (a b : ℕ) → b ≤ a → nat_lt a b ≡ false
lt-false a b le = grind (arith, nat_tests)

pub le-true : (a b : ℕ) → a ≤ b → nat_le a b ≡ true
le-true a b le = grind (arith, nat_tests)

pub le-false : (a b : ℕ) → b < a → nat_le a b ≡ false
le-false a b lt = grind (arith, nat_tests)

pub before-is : (tick : ℕ) (pieces : List Piece) (split : SplitAt tick pieces) → left_before tick pieces ≡ split.early
before-is tick pieces split =
    let keeps : Piece → Bool = λ p. nat_lt p.at tick in
    let early = kept keeps split.early (all-weaker (λ (p : Piece). p.at < tick) (λ (p : Piece). keeps p ≡ true) split.early (λ p lt. lt-true p.at tick lt) split.below) in
    let none = dropped keeps split.later (all-weaker (λ (p : Piece). tick ≤ p.at) (λ (p : Piece). keeps p ≡ false) split.later (λ p le. lt-false p.at tick le) split.from) in
    ap (filter keeps) split.is ∙ filter-append keeps split.early split.later ∙ rw (early, none) (append-nil split.early)

-- where no frame leaves in the tick, those that left up to it left before
pub none-now : (tick : ℕ) (pieces early later : List Piece) → pieces ≡ early ++ later → AllByRecursion (λ (p : Piece). p.at < tick) early → AllByRecursion (λ (p : Piece). tick < p.at) later → left_up_to tick (map (λ (p : Piece). p.at) pieces) ≡ map (λ (p : Piece). p.at) early
none-now tick pieces early later is below above =
    let at : Piece → ℕ = λ p. p.at in
    let keeps : ℕ → Bool = λ t. nat_le t tick in
    let first = left-all tick (map at early) (all-map (λ (t : ℕ). t ≤ tick) at early (all-weaker (λ (p : Piece). p.at < tick) (λ (p : Piece). p.at ≤ tick) early (λ p lt. omega (arith, lt)) below)) in
    let none = dropped keeps (map at later) (all-map (λ (t : ℕ). keeps t ≡ false) at later (all-weaker (λ (p : Piece). tick < p.at) (λ (p : Piece). keeps p.at ≡ false) later (λ p lt. le-false p.at tick lt) above)) in
    ap (λ l. left_up_to tick (map at l)) is ∙ ap (filter keeps) (map-append at early later) ∙ filter-append keeps (map at early) (map at later) ∙ rw (first, none) (append-nil (map at early))

-- where one does, its bytes are among those up to the tick
pub one-now : (tick : ℕ) (early : List Piece) (piece : Piece) (rest : List Piece) → AllByRecursion (λ (p : Piece). p.at < tick) early → piece.at ≤ tick → length (joined early) + length piece.bytes ≤ bytes_to tick (early ++ piece ∷ rest)
one-now tick early piece rest below now =
    let keeps : Piece → Bool = λ p. nat_le p.at tick in
    let first = kept keeps early (all-weaker (λ (p : Piece). p.at < tick) (λ (p : Piece). keeps p ≡ true) early (λ p lt. le-true p.at tick (omega (arith, lt))) below) in
    let all : filter keeps (early ++ piece ∷ rest) ≡ early ++ piece ∷ filter keeps rest = filter-append keeps early (piece ∷ rest) ∙ rw (first, le-true piece.at tick now) refl in
    let more : List Piece = filter keeps rest in
    omega (arith, ap (λ l. length (joined l)) all, ap length (flat_map-append (λ (p : Piece). p.bytes) early (piece ∷ more)), length-append (joined early) (joined (piece ∷ more)), length-append piece.bytes (joined more))

pub begins-below : (begin tick : ℕ) (early later : List Piece) → 0 < length early → AllByRecursion (λ (p : Piece). p.at < tick) early → AllByRecursion (λ (p : Piece). begin ≤ p.at) (early ++ later) → begin ≤ tick
begins-below begin tick [] later some below all = absurd (omega (arith, some))
begins-below begin tick (piece ∷ early) later some below all = omega (arith, below.0, all.0)

-- some frames of a transmission left by a tick
abbrev pub IsBegun : ℕ → List Piece → Type 0
IsBegun tick pieces = AllByRecursion (λ (p : Piece). tick < p.at) pieces → ⊥

-- those up to the tick are those before it
pub bytes-none-now : (tick : ℕ) (pieces early later : List Piece) → pieces ≡ early ++ later → AllByRecursion (λ (p : Piece). p.at < tick) early → AllByRecursion (λ (p : Piece). tick < p.at) later → bytes_to tick pieces ≡ length (joined early)
bytes-none-now tick pieces early later is below above =
    let keeps : Piece → Bool = λ p. nat_le p.at tick in
    let first = kept keeps early (all-weaker (λ (p : Piece). p.at < tick) (λ (p : Piece). keeps p ≡ true) early (λ p lt. le-true p.at tick (omega (arith, lt))) below) in
    let none = dropped keeps later (all-weaker (λ (p : Piece). tick < p.at) (λ (p : Piece). keeps p ≡ false) later (λ p lt. le-false p.at tick lt) above) in
    let all : filter keeps (early ++ later) ≡ early = filter-append keeps early later ∙ rw (first, none) (append-nil early) in
    ap (bytes_to tick) is ∙ ap (λ l. length (joined l)) all

pub begun-by : (tick : ℕ) (pieces early later : List Piece) → pieces ≡ early ++ later → 0 < length early → AllByRecursion (λ (p : Piece). p.at < tick) early → IsBegun tick pieces
begun-by tick pieces [] later is some below all = omega (arith, some)
begun-by tick pieces (piece ∷ early) later is some below all =
    let P : List Piece → Type 0 = λ l. AllByRecursion (λ (p : Piece). tick < p.at) l in
    omega (arith, below.0, (subst P is all).0)
