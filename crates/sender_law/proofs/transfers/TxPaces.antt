-- Pacing, when one more flow control comes or one more frame leaves.
use Rattle.std.proofs.Common.{◌≡◌, ℕ, ◌+◌, ◌<◌, ◌≤◌, Option, List, [], ◌∷◌, ◌++◌, map, refl, ap, sym, subst, ◌∙◌, arith}
use Rattle.std.proofs.lemmas.List.{map-append}
use Rattle.std.specs.List.{AllByRecursion}
use Rattle.flow_plan.specs.Pace.{ArePacedFrom, Awaits, Control, May, MayLeave as MayGo, Pace, Refused, after_frames, answered, answered_all, block_of, gone_on}
use Rattle.flow_plan.proofs.Paces.{AreAfter, after-more, after-next, answered-more, awaits-stays, came-all, paced-more as more-paced, paced-next as next-paced}
use Rattle.gw_base.proofs.Lists.{all-map, all-weaker}
use Rattle.tp_attempts.specs.Walk.{Piece}
use Rattle.sender_law.specs.Pacing.{Paced}

-- the ticks of some frames
abbrev pub ticks_at : List Piece → List ℕ
ticks_at pieces = map (λ (piece : Piece). piece.at) pieces

-- what a transmission is at once these frames left and all these flow controls came
abbrev pub pace_after : List Control → List Piece → Pace
pace_after controls [] = Refused 0 0
pace_after controls (first ∷ later) = answered_all (after_frames controls (Awaits first.at first.at) (ticks_at later)) controls

-- flow controls that come after frames
abbrev pub ComeAfter : List Piece → List Control → Type 0
ComeAfter pieces more = AllByRecursion (λ (piece : Piece). AllByRecursion (λ (c : Control). piece.at + 1 ≤ c.tick) more) pieces

pub come-after : (clear : ℕ) (pieces : List Piece) (more : List Control) → AllByRecursion (λ (piece : Piece). piece.at < clear) pieces → AllByRecursion (λ (c : Control). clear ≤ c.tick) more → ComeAfter pieces more
come-after clear pieces more before from =
    all-weaker (λ (piece : Piece). piece.at < clear) (λ (piece : Piece). AllByRecursion (λ (c : Control). piece.at + 1 ≤ c.tick) more) pieces
    (λ piece lt. all-weaker (λ (c : Control). clear ≤ c.tick) (λ (c : Control). piece.at + 1 ≤ c.tick) more (λ c le. omega (arith, le, lt)) from) before

are-after : (pieces : List Piece) (more : List Control) → ComeAfter pieces more → AreAfter (ticks_at pieces) more
are-after pieces more after = all-map (λ (at : ℕ). AllByRecursion (λ (c : Control). at + 1 ≤ c.tick) more) (λ (piece : Piece). piece.at) pieces after

-- more flow controls
pub paced-more : (controls more : List Control) (pieces : List Piece) → ComeAfter pieces more → Paced controls pieces → Paced (controls ++ more) pieces
paced-more controls more [] after paced = tt
paced-more controls more (first ∷ later) after paced = more-paced controls more (Awaits first.at first.at) (ticks_at later) (are-after later more after.1) paced

pub pace-answered : (controls : List Control) (c : Control) (pieces : List Piece) → ComeAfter pieces (c ∷ []) → pace_after (controls ++ c ∷ []) pieces ≡ answered (pace_after controls pieces) c
pace-answered controls c [] after = refl
pace-answered controls c (first ∷ later) after =
    let q : Pace = after_frames controls (Awaits first.at first.at) (ticks_at later) in
    ap (λ p. answered_all p (controls ++ c ∷ [])) (after-more controls (c ∷ []) (Awaits first.at first.at) (ticks_at later) (are-after later (c ∷ []) after.1)) ∙ answered-more q controls (c ∷ [])

-- the next frame may leave from some tick on, which isn't after that one
pub record Permits (controls : List Control) (pieces : List Piece) (block gap limit : ℕ) : Type 0 where
  pub from : ℕ
  pub is : pace_after controls pieces ≡ May from gap (block_of block)
  pub by : from ≤ limit

pub permits-later : (controls : List Control) (pieces : List Piece) (block gap limit later : ℕ) → limit ≤ later → Permits controls pieces block gap limit → Permits controls pieces block gap later
permits-later controls pieces block gap limit later le is = record { from = is.from; is = is.is; by = omega (arith, is.by, le) }

pub permits-more : (controls : List Control) (c : Control) (pieces : List Piece) (block gap limit : ℕ) → ComeAfter pieces (c ∷ []) → Permits controls pieces block gap limit → Permits (controls ++ c ∷ []) pieces block gap limit
permits-more controls c pieces block gap limit after is = record { from = is.from; is = pace-answered controls c pieces after ∙ ap (λ p. answered p c) is.is; by = is.by }

-- one more frame
may-go : (pace : Pace) (from gap : ℕ) (more : Option ℕ) (tick : ℕ) → pace ≡ May from gap more → from ≤ tick → MayGo pace tick
may-go pace from gap more tick is le = let P : Pace → Type 0 = λ p. MayGo p tick in subst P (sym is) le

pub paced-next : (controls : List Control) (pieces : List Piece) (next : Piece) (block gap : ℕ) → AllByRecursion (λ (c : Control). c.tick ≤ next.at) controls → Permits controls pieces block gap next.at → Paced controls pieces → Paced controls (pieces ++ next ∷ [])
paced-next controls [] next block gap past may paced = tt
paced-next controls (first ∷ later) next block gap past may paced =
    let q : Pace = after_frames controls (Awaits first.at first.at) (ticks_at later) in
    let M : List Control → Type 0 = λ l. MayGo (answered_all q l) next.at in
    let P : List ℕ → Type 0 = λ l. ArePacedFrom controls (Awaits first.at first.at) l in
    subst P (sym (map-append (λ (piece : Piece). piece.at) later (next ∷ [])))
    (next-paced controls (Awaits first.at first.at) (ticks_at later) next.at (subst M (sym (came-all next.at controls past)) (may-go (pace_after controls (first ∷ later)) may.from gap (block_of block) next.at may.is may.by)) paced)

pub pace-next : (controls : List Control) (pieces : List Piece) (next : Piece) (block gap : ℕ) → AllByRecursion (λ (c : Control). c.tick ≤ next.at) controls → (may : Permits controls pieces block gap next.at) →
    pace_after controls (pieces ++ next ∷ []) ≡ answered_all (gone_on (May may.from gap (block_of block)) next.at) controls
pace-next controls [] next block gap past may = let no : Refused 0 0 ≡ May may.from gap (block_of block) = may.is in cc
pace-next controls (first ∷ later) next block gap past may =
    let q : Pace = after_frames controls (Awaits first.at first.at) (ticks_at later) in
    ap (λ l. answered_all (after_frames controls (Awaits first.at first.at) l) controls) (map-append (λ (piece : Piece). piece.at) later (next ∷ []))
    ∙ ap (λ p. answered_all p controls) (after-next controls (Awaits first.at first.at) (ticks_at later) next.at ∙ ap (λ l. gone_on (answered_all q l) next.at) (came-all next.at controls past) ∙ ap (λ p. gone_on p next.at) may.is)

-- the first frame
pub pace-first : (controls : List Control) (first : Piece) → AllByRecursion (λ (c : Control). c.tick ≤ first.at) controls → pace_after controls (first ∷ []) ≡ Awaits first.at first.at
pace-first controls first past = awaits-stays first.at first.at controls past
