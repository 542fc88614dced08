-- Counted frames, the newest flow control by a tick, and waits that follow one another, as frames and ticks are added.
use Rattle.std.proofs.Common.{◌≡◌, ℕ, ◌+◌, ◌<◌, ◌≤◌, Some, List, [], ◌∷◌, ◌++◌, length, refl, arith}
use Rattle.std.specs.List.{AllByRecursion}
use Rattle.std.proofs.lemmas.Bool.Decides.{nat_tests}
use Rattle.tp_attempts.specs.Walk.{Piece, last_place}
use Rattle.receiver_law.specs.Receptions.{ControlKind, Continue, ControlLeft, Wait, counted, last_by, waits_in}

-- frames that came by a tick, or from it on
abbrev pub ComeBy : ℕ → List Piece → Type 0
ComeBy tick frames = AllByRecursion (λ (piece : Piece). piece.at ≤ tick) frames

abbrev pub ComeFrom : ℕ → List Piece → Type 0
ComeFrom tick frames = AllByRecursion (λ (piece : Piece). tick ≤ piece.at) frames

pub counted-append : (from to : ℕ) (xs ys : List Piece) → counted from to (xs ++ ys) ≡ counted from to xs + counted from to ys
counted-append from to [] ys = omega arith
counted-append from to (piece ∷ xs) ys = omega (arith, counted-append from to xs ys)

-- none came above the last tick, or below the first one
pub counted-above : (from to : ℕ) (frames : List Piece) → ComeFrom (to + 1) frames → counted from to frames ≡ 0
counted-above from to [] all = refl
counted-above from to (piece ∷ frames) all = let rest : counted from to frames ≡ 0 = counted-above from to frames all.1 in let late : to + 1 ≤ piece.at = all.0 in grind (arith, nat_tests)

pub counted-below : (from to : ℕ) (frames : List Piece) → ComeBy to frames → counted (to + 1) from frames ≡ 0
counted-below from to [] all = refl
counted-below from to (piece ∷ frames) all = let rest : counted (to + 1) from frames ≡ 0 = counted-below from to frames all.1 in let early : piece.at ≤ to = all.0 in grind (arith, nat_tests)

-- all came between them
pub counted-all : (from to : ℕ) (frames : List Piece) → ComeFrom from frames → ComeBy to frames → counted from to frames ≡ length frames
counted-all from to [] above by = refl
counted-all from to (piece ∷ frames) above by =
    let rest : counted from to frames ≡ length frames = counted-all from to frames above.1 by.1 in let late : from ≤ piece.at = above.0 in let early : piece.at ≤ to = by.0 in grind (arith, nat_tests)

-- no fewer came by a later tick
pub counted-later : (from to later : ℕ) (frames : List Piece) → to ≤ later → counted from to frames ≤ counted from later frames
counted-later from to later [] le = omega arith
counted-later from to later (piece ∷ frames) le = let rest : counted from to frames ≤ counted from later frames = counted-later from to later frames le in grind (arith, nat_tests)

-- and just as many where all came before
pub counted-on : (from to later : ℕ) (frames : List Piece) → to ≤ later → ComeBy to frames → counted from later frames ≡ counted from to frames
counted-on from to later [] le all = refl
counted-on from to later (piece ∷ frames) le all = let rest : counted from later frames ≡ counted from to frames = counted-on from to later frames le all.1 in let early : piece.at ≤ to = all.0 in grind (arith, nat_tests)

-- frames that come later aren't counted
pub counted-more : (from to : ℕ) (frames more : List Piece) → ComeFrom (to + 1) more → counted from to (frames ++ more) ≡ counted from to frames
counted-more from to frames more all = let none : counted from to more ≡ 0 = counted-above from to more all in omega (arith, counted-append from to frames more, none)

-- one that comes in the last tick is
pub counted-push : (from to : ℕ) (frames : List Piece) (piece : Piece) → from ≤ piece.at → piece.at ≤ to → 0 < counted from to (frames ++ piece ∷ [])
counted-push from to frames piece late early = let one : counted from to (piece ∷ []) ≡ 1 = counted-all from to (piece ∷ []) (late, tt) (early, tt) in omega (arith, counted-append from to frames (piece ∷ []), one)

-- waits, where frames come later
pub waits-more : (tick : ℕ) (frames more : List Piece) (controls : List ControlLeft) → ComeFrom (tick + 1) more → waits_in tick (frames ++ more) controls ≡ waits_in tick frames controls
waits-more tick frames more [] all = refl
waits-more tick frames more (control ∷ earlier) all =
    rw (counted-more (control.tick + 1) tick frames more all, waits-more tick frames more earlier all) refl

-- and where ticks pass
pub waits-on : (tick later : ℕ) (frames : List Piece) (controls : List ControlLeft) → tick ≤ later → ComeBy tick frames → waits_in later frames controls ≡ waits_in tick frames controls
waits-on tick later frames [] le all = refl
waits-on tick later frames (control ∷ earlier) le all =
    rw (counted-on (control.tick + 1) tick later frames le all, waits-on tick later frames earlier le all) refl

-- a frame that comes after all flow controls ends them
pub waits-end : (tick : ℕ) (frames : List Piece) (piece : Piece) (controls : List ControlLeft) → piece.at ≡ tick → AllByRecursion (λ (control : ControlLeft). control.tick < tick) controls → waits_in tick (frames ++ piece ∷ []) controls ≡ 0
waits-end tick frames piece [] at all = refl
waits-end tick frames piece (control ∷ earlier) at all =
    let some : 0 < counted (control.tick + 1) tick (frames ++ piece ∷ []) = counted-push (control.tick + 1) tick frames piece (omega (arith, at, all.0)) (omega (arith, at)) in grind (arith, nat_tests)

-- a flow control that lets frames come ends them too, and one that asks to wait is one more
pub waits-continue : (tick block left : ℕ) (frames : List Piece) (earlier : List ControlLeft) → waits_in tick frames (record { tick = left; kind = Continue block } ∷ earlier) ≡ 0
waits-continue tick block left frames earlier = refl

pub waits-one : (tick : ℕ) (frames : List Piece) (earlier : List ControlLeft) → ComeBy tick frames → waits_in tick frames (record { tick = tick; kind = Wait } ∷ earlier) ≡ 1 + waits_in tick frames earlier
waits-one tick frames earlier all = rw (counted-below tick tick frames all) refl

-- the newest one by a tick
pub last-now : (tick : ℕ) (kind : ControlKind) (earlier : List ControlLeft) → last_by tick (record { tick = tick; kind = kind } ∷ earlier) ≡ Some (record { tick = tick; kind = kind })
last-now tick kind earlier = grind (arith, nat_tests)

pub last-before : (tick : ℕ) (control : ControlLeft) (earlier : List ControlLeft) → tick < control.tick → last_by tick (control ∷ earlier) ≡ last_by tick earlier
last-before tick control earlier above = grind (arith, nat_tests)

pub last-newest : (tick : ℕ) (control : ControlLeft) (earlier : List ControlLeft) → control.tick ≤ tick → last_by tick (control ∷ earlier) ≡ Some control
last-newest tick control earlier by = grind (arith, nat_tests)

-- the last frame came by a tick
pub last-by : (tick at : ℕ) (frames : List Piece) → at ≤ tick → ComeBy tick frames → last_place at frames ≤ tick
last-by tick at [] by all = by
last-by tick at (piece ∷ frames) by all = last-by tick piece.at frames all.0 all.1
