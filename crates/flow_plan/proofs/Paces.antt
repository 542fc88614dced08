-- The pace of a transmission, when one more flow control comes or one more frame leaves.
use Rattle.std.proofs.Common.{◌≡◌, ℕ, ◌+◌, ◌-◌, ◌<◌, ◌≤◌, Bool, true, false, Option, Some, None, List, [], ◌∷◌, ◌++◌, zero, suc, refl, ap, sym, subst, ◌∙◌, arith, append-nil}
use Rattle.std.specs.Prelude.{nat_le, if◌then◌else◌}
use Rattle.std.specs.List.{AllByRecursion}
use Rattle.std.proofs.lemmas.Bool.Decides.{nat_tests}
use Rattle.std.proofs.lemmas.Grind.{fold-append}
use Rattle.std.proofs.lemmas.List.Elements.{filter-append}
use Rattle.flow_plan.specs.Pace.{ArePacedFrom, Awaits, Control, IsPaced, May, MayLeave, Pace, Refused, after_frames, answered, answered_all, answered_by, block_of, came_to, gone_on}

-- all that came up to a tick stands in it
pub came-all : (tick : ℕ) (controls : List Control) → AllByRecursion (λ (c : Control). c.tick ≤ tick) controls → came_to tick controls ≡ controls
came-all tick [] all = refl
came-all tick (c ∷ controls) all =
    let is : nat_le c.tick tick ≡ true = grind (arith, nat_tests, all.0) in
    rw is (ap (λ l. c ∷ l) (came-all tick controls all.1))

-- and what comes later doesn't
pub came-none : (tick : ℕ) (controls : List Control) → AllByRecursion (λ (c : Control). tick + 1 ≤ c.tick) controls → came_to tick controls ≡ []
came-none tick [] all = refl
came-none tick (c ∷ controls) all =
    let is : nat_le c.tick tick ≡ false = grind (arith, nat_tests, all.0) in
    rw is (came-none tick controls all.1)

pub came-more : (tick : ℕ) (controls more : List Control) → AllByRecursion (λ (c : Control). tick + 1 ≤ c.tick) more → came_to tick (controls ++ more) ≡ came_to tick controls
came-more tick controls more later = filter-append (λ (c : Control). nat_le c.tick tick) controls more ∙ ap (λ l. came_to tick controls ++ l) (came-none tick more later) ∙ append-nil (came_to tick controls)

-- flow controls that come after frames
abbrev pub AreAfter : List ℕ → List Control → Type 0
AreAfter frames more = AllByRecursion (λ (at : ℕ). AllByRecursion (λ (c : Control). at + 1 ≤ c.tick) more) frames

pub after-more : (controls more : List Control) (pace : Pace) (frames : List ℕ) → AreAfter frames more → after_frames (controls ++ more) pace frames ≡ after_frames controls pace frames
after-more controls more pace [] later = refl
after-more controls more pace (tick ∷ frames) later =
    ap (λ c. after_frames (controls ++ more) (gone_on (answered_all pace c) tick) frames) (came-more tick controls more later.0) ∙ after-more controls more (gone_on (answered_all pace (came_to tick controls)) tick) frames later.1

pub paced-more : (controls more : List Control) (pace : Pace) (frames : List ℕ) → AreAfter frames more → ArePacedFrom controls pace frames → ArePacedFrom (controls ++ more) pace frames
paced-more controls more pace [] later paced = tt
paced-more controls more pace (tick ∷ frames) later paced =
    let same : came_to tick (controls ++ more) ≡ came_to tick controls = came-more tick controls more later.0 in
    let P : List Control → Type 0 = λ c. MayLeave (answered_all pace c) tick × ArePacedFrom (controls ++ more) (gone_on (answered_all pace c) tick) frames in
    subst P (sym same) (paced.0, paced-more controls more (gone_on (answered_all pace (came_to tick controls)) tick) frames later.1 paced.1)

-- one more flow control
pub answered-more : (pace : Pace) (controls more : List Control) → answered_all pace (controls ++ more) ≡ answered_all (answered_all pace controls) more
answered-more pace controls more = fold-append answered pace controls more

-- one more frame
pub after-next : (controls : List Control) (pace : Pace) (frames : List ℕ) (tick : ℕ) → after_frames controls pace (frames ++ tick ∷ []) ≡ gone_on (answered_all (after_frames controls pace frames) (came_to tick controls)) tick
after-next controls pace [] tick = refl
after-next controls pace (at ∷ frames) tick = after-next controls (gone_on (answered_all pace (came_to at controls)) at) frames tick

pub paced-next : (controls : List Control) (pace : Pace) (frames : List ℕ) (tick : ℕ) → MayLeave (answered_all (after_frames controls pace frames) (came_to tick controls)) tick → ArePacedFrom controls pace frames → ArePacedFrom controls pace (frames ++ tick ∷ [])
paced-next controls pace [] tick may paced = (may, tt)
paced-next controls pace (at ∷ frames) tick may paced = (paced.0, paced-next controls (gone_on (answered_all pace (came_to at controls)) at) frames tick may paced.1)

-- flow controls that come where none is awaited, or where the message was refused, are as if they hadn't come
pub may-stays : (from gap : ℕ) (more : Option ℕ) (controls : List Control) → answered_all (May from gap more) controls ≡ May from gap more
may-stays from gap more [] = refl
may-stays from gap more (c ∷ controls) = may-stays from gap more controls

pub refused-stays : (tick status : ℕ) (controls : List Control) → answered_all (Refused tick status) controls ≡ Refused tick status
refused-stays tick status [] = refl
refused-stays tick status (c ∷ controls) = refused-stays tick status controls

-- so are those of ticks up to that of the frame that they could answer
pub awaits-stays : (left since : ℕ) (controls : List Control) → AllByRecursion (λ (c : Control). c.tick ≤ left) controls → answered_all (Awaits left since) controls ≡ Awaits left since
awaits-stays left since [] all = refl
awaits-stays left since (c ∷ controls) all =
    let is : nat_le c.tick left ≡ true = grind (arith, nat_tests, all.0) in
    ap (λ p. answered_all p controls) (rw is refl) ∙ awaits-stays left since controls all.1

-- a flow control of a later tick is counted
pub is-counted : (left since : ℕ) (c : Control) → left < c.tick → answered (Awaits left since) c ≡ answered_by c left c.status
is-counted left since c later =
    let is : nat_le c.tick left ≡ false = grind (arith, nat_tests) in
    rw is refl

-- a frame that leaves while others may follow: the block is over, or the gap begins
pub gone-over : (from gap tick : ℕ) → gone_on (May from gap (block_of 1)) tick ≡ Awaits tick tick
gone-over from gap tick = refl

pub gone-next : (from gap tick block : ℕ) → (block ≡ 1 → ⊥) → gone_on (May from gap (block_of block)) tick ≡ May (tick + gap) gap (block_of (block - 1))
gone-next from gap tick zero out = let e : zero ≡ zero - 1 = omega arith in ap (λ n. May (tick + gap) gap (block_of n)) e
gone-next from gap tick (suc zero) out = absurd (out refl)
gone-next from gap tick (suc (suc more)) out = let e : suc more ≡ suc (suc more) - 1 = omega arith in ap (λ n. May (tick + gap) gap (block_of n)) e

-- the tick before which no frame leaves
abbrev floor_of : Pace → ℕ
floor_of (Awaits left since) = left
floor_of (May from gap more) = from
floor_of (Refused at status) = 0

floor-by : (c : Control) (left since status : ℕ) (t : ℕ) (later : List Control) → left < c.tick → ((p : Pace) → MayLeave (answered_all p later) t → floor_of p ≤ t) → MayLeave (answered_all (answered_by c left status) later) t → left ≤ t
floor-by c left since zero t later lt on may = omega (arith, on (May c.tick c.gap (block_of c.block)) may, lt)
floor-by c left since (suc zero) t later lt on may = on (Awaits left c.tick) may
floor-by c left since (suc (suc more)) t later lt on may =
    let M : Pace → Type 0 = λ p. MayLeave p t in absurd (subst M (refused-stays c.tick (suc (suc more)) later) may)

floor-one : (c : Control) (left since : ℕ) (t : ℕ) (later : List Control) (b : Bool) → nat_le c.tick left ≡ b → ((p : Pace) → MayLeave (answered_all p later) t → floor_of p ≤ t) → MayLeave (answered_all (if b then Awaits left since else answered_by c left c.status) later) t → left ≤ t
floor-one c left since t later true is on may = on (Awaits left since) may
floor-one c left since t later false is on may = floor-by c left since c.status t later (grind (arith, nat_tests)) on may

pub floor-below : (pace : Pace) (controls : List Control) (t : ℕ) → MayLeave (answered_all pace controls) t → floor_of pace ≤ t
floor-below (Awaits left since) [] t may = absurd may
floor-below (May from gap more) [] t may = may
floor-below (Refused at status) [] t may = absurd may
floor-below (Awaits left since) (c ∷ later) t may = floor-one c left since t later (nat_le c.tick left) refl (λ p m. floor-below p later t m) may
floor-below (May from gap more) (c ∷ later) t may = floor-below (May from gap more) later t may
floor-below (Refused at status) (c ∷ later) t may = omega arith

gone-floor : (pace : Pace) (tick : ℕ) → MayLeave pace tick → tick ≤ floor_of (gone_on pace tick)
gone-floor (Awaits left since) tick may = absurd may
gone-floor (May from gap None) tick may = omega arith
gone-floor (May from gap (Some zero)) tick may = omega arith
gone-floor (May from gap (Some (suc zero))) tick may = omega arith
gone-floor (May from gap (Some (suc (suc more)))) tick may = omega arith
gone-floor (Refused at status) tick may = absurd may

-- ticks one after another
abbrev pub AreInOrder : ℕ → List ℕ → Type 0
AreInOrder tick [] = Unit {0}
AreInOrder tick (next ∷ later) = (tick ≤ next) × AreInOrder next later

order-from : (controls : List Control) (pace : Pace) (tick : ℕ) (frames : List ℕ) → tick ≤ floor_of pace → ArePacedFrom controls pace frames → AreInOrder tick frames
order-from controls pace tick [] le paced = tt
order-from controls pace tick (next ∷ later) le paced = (
  omega (arith, le, floor-below pace (came_to next controls) next paced.0),
  order-from controls (gone_on (answered_all pace (came_to next controls)) next) next later (gone-floor (answered_all pace (came_to next controls)) next paced.0) paced.1,
)

-- frames that are paced leave one after another
pub in-order : (controls : List Control) (first : ℕ) (frames : List ℕ) → IsPaced controls first frames → AreInOrder first frames
in-order controls first frames paced = order-from controls (Awaits first first) first frames (omega arith) paced
