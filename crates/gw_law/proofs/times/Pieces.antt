-- Attempts and their pieces up to a tick: what a front of the frames has of them.
use Rattle.std.proofs.Common.{◌≡◌, ℕ, ◌<◌, ◌≤◌, zero, suc, Bool, true, false, ◌&&◌, ◌==◌, nat_le, if◌then◌else◌, cond, Some, List, [], ◌∷◌, ◌++◌, length, take, refl, ap, ◌∙◌, arith, append-nil}
use Rattle.std.specs.Prelude.{filter, fold, slice_get}
use Rattle.std.specs.List.{AllByRecursion}
use Rattle.std.proofs.lemmas.Bool.Decides.{nat_tests}
use Rattle.std.proofs.lemmas.Grind.{fold-append}
use Rattle.std.proofs.lemmas.List.{length-append}
use Rattle.std.proofs.lemmas.List.Elements.{filter-append}
use Rattle.tp_attempts.specs.Cuts.{Cut, before_start, cuts}
use Rattle.tp_attempts.specs.Seen.{Seen}
use Rattle.tp_attempts.specs.Walk.{Piece, Walk, begun, due, due_number, is_open, joined, look, look_at, walk_of}
use Rattle.tp_attempts.proofs.Prefixes.{Onward, goes_on}
use Rattle.tp_unit.specs.Unit.{Meaning, SingleFrame, FirstFrame, ConsecutiveFrame, FlowControl, NoUnit}
use Rattle.gw_law.specs.Timely.{bytes_to}
use Rattle.gw_law.proofs.runs.Fronts.{More}
use Rattle.gw_base.proofs.Lists.{all-at, all-push}

-- a cut whose items all have that
abbrev pub CutIn : {T : Type 0} → (T → Type 0) → Cut T → Type 0
CutIn P cut = P cut.start × AllByRecursion P cut.after

before-by : {T : Type 0} (P : T → Type 0) (b : Bool) (x : T) (xs : List T) → P x → AllByRecursion P xs → AllByRecursion P (cond b [] (x ∷ xs))
before-by P true x xs is all = tt
before-by P false x xs is all = (is, all)

before-in : {T : Type 0} (P : T → Type 0) (starts : T → Bool) (xs : List T) → AllByRecursion P xs → AllByRecursion P (before_start starts xs)
before-in P starts [] all = tt
before-in P starts (x ∷ xs) all = before-by P (starts x) x (before_start starts xs) all.0 (before-in P starts xs all.1)

cuts-by : {T : Type 0} (P : T → Type 0) (b : Bool) (cut : Cut T) (later : List (Cut T)) → CutIn P cut → AllByRecursion (CutIn P) later → AllByRecursion (CutIn P) (cond b (cut ∷ later) later)
cuts-by P true cut later is all = (is, all)
cuts-by P false cut later is all = all

pub cuts-in : {T : Type 0} (P : T → Type 0) (starts : T → Bool) (xs : List T) → AllByRecursion P xs → AllByRecursion (CutIn P) (cuts starts xs)
cuts-in P starts [] all = tt
cuts-in P starts (x ∷ xs) all = cuts-by P (starts x) (record { start = x; after = before_start starts xs }) (cuts starts xs) (all.0, before-in P starts xs all.1) (cuts-in P starts xs all.1)

-- a cut of a list is one of its front, which went on, or stands after all of those
pub data CutFront {T : Type 0} (Late : T → Type 0) (fronts : List (Cut T)) (place : ℕ) (cut : Cut T) : Type 0 where
  After : length fronts ≤ place → CutIn Late cut → CutFront Late fronts place cut
  Within : (front : Cut T) → slice_get fronts place ≡ Some front → cut.start ≡ front.start → More Late front.after cut.after → CutFront Late fronts place cut

front-by : {T : Type 0} (Late : T → Type 0) (b : Bool) (x : T) (xs ys : List T) → More Late xs ys → More Late (cond b [] (x ∷ xs)) (cond b [] (x ∷ ys))
front-by Late true x xs ys more = record { more = []; is = refl; all = tt }
front-by Late false x xs ys more = record { more = more.more; is = ap (λ l. x ∷ l) more.is; all = more.all }

before-front : {T : Type 0} (Late : T → Type 0) (starts : T → Bool) (xs ys : List T) → AllByRecursion Late ys → More Late (before_start starts xs) (before_start starts (xs ++ ys))
before-front Late starts [] ys late = record { more = before_start starts ys; is = refl; all = before-in Late starts ys late }
before-front Late starts (x ∷ xs) ys late = front-by Late (starts x) x (before_start starts xs) (before_start starts (xs ++ ys)) (before-front Late starts xs ys late)

cut-next : {T : Type 0} (Late : T → Type 0) (first : Cut T) (fronts : List (Cut T)) (place : ℕ) (cut : Cut T) → CutFront Late fronts place cut → CutFront Late (first ∷ fronts) (suc place) cut
cut-next Late first fronts place cut (After long late) = After (omega (arith, long)) late
cut-next Late first fronts place cut (Within front is start more) = Within front is start more

cut-by : {T : Type 0} (Late : T → Type 0) (b : Bool) (x : T) (xs ys : List T) (fronts all : List (Cut T)) (place : ℕ) (cut : Cut T) → More Late xs ys → ((k : ℕ) → slice_get all k ≡ Some cut → CutFront Late fronts k cut) →
    slice_get (cond b (record { start = x; after = ys } ∷ all) all) place ≡ Some cut → CutFront Late (cond b (record { start = x; after = xs } ∷ fronts) fronts) place cut
cut-by Late true x xs ys fronts all zero cut more later is =
    let c : Cut _ = record { start = x; after = ys } in
    let same : c ≡ cut = cc in
    rw (← same) (Within (record { start = x; after = xs }) refl refl more)
cut-by Late true x xs ys fronts all (suc place) cut more later is = cut-next Late (record { start = x; after = xs }) fronts place cut (later place is)
cut-by Late false x xs ys fronts all place cut more later is = later place is

pub cut-front : {T : Type 0} (Late : T → Type 0) (starts : T → Bool) (xs ys : List T) (place : ℕ) (cut : Cut T) → AllByRecursion Late ys → slice_get (cuts starts (xs ++ ys)) place ≡ Some cut → CutFront Late (cuts starts xs) place cut
cut-front Late starts [] ys place cut late is = After (omega arith) (all-at (CutIn Late) (cuts starts ys) place cut (cuts-in Late starts ys late) is)
cut-front Late starts (x ∷ xs) ys place cut late is =
    cut-by Late (starts x) x (before_start starts xs) (before_start starts (xs ++ ys)) (cuts starts xs) (cuts starts (xs ++ ys)) place cut (before-front Late starts xs ys late) (λ k at. cut-front Late starts xs ys k cut late at) is

-- the pieces stand where frames do
abbrev pub PieceIn : (ℕ → Type 0) → Piece → Type 0
PieceIn P piece = P piece.at

look-by : (P : ℕ → Type 0) (walk counted ended : Walk) (looks right : Bool) → AllByRecursion (PieceIn P) walk.pieces → AllByRecursion (PieceIn P) counted.pieces → AllByRecursion (PieceIn P) ended.pieces →
    AllByRecursion (PieceIn P) (if looks then (if right then counted else ended) else walk).pieces
look-by P walk counted ended true true all adds ends = adds
look-by P walk counted ended true false all adds ends = ends
look-by P walk counted ended false right all adds ends = all

look-in : (P : ℕ → Type 0) (address : ℕ) (walk : Walk) (at size : ℕ) (meaning : Meaning) → P at → AllByRecursion (PieceIn P) walk.pieces → AllByRecursion (PieceIn P) (look_at address walk at size meaning).pieces
look-in P address walk at size (ConsecutiveFrame number bytes) is all =
    look-by P walk (record walk { pieces = walk.pieces ++ record { at = at; bytes = take (due address walk) bytes } ∷ [] }) (record walk { wrong = Some (record { at = at; want = due_number walk; got = number }) })
    (is_open walk && nat_le size walk.size && nat_le (due address walk) (length bytes)) (number == due_number walk) all (all-push (PieceIn P) walk.pieces (record { at = at; bytes = take (due address walk) bytes }) all is) all
look-in P address walk at size (SingleFrame bytes) is all = all
look-in P address walk at size (FirstFrame len bytes) is all = all
look-in P address walk at size (FlowControl status block_size separation) is all = all
look-in P address walk at size (NoUnit why) is all = all

fold-in : (P : ℕ → Type 0) (address : ℕ) (walk : Walk) (frames : List Seen) → AllByRecursion (λ (s : Seen). P s.at) frames → AllByRecursion (PieceIn P) walk.pieces → AllByRecursion (PieceIn P) (fold (look address) walk frames).pieces
fold-in P address walk [] all pieces = pieces
fold-in P address walk (frame ∷ frames) all pieces = fold-in P address (look address walk frame) frames all.1 (look-in P address walk frame.at frame.size frame.meaning all.0 pieces)

pub pieces-in : (P : ℕ → Type 0) (address : ℕ) (cut : Cut Seen) → CutIn (λ (s : Seen). P s.at) cut → AllByRecursion (PieceIn P) (walk_of address cut).pieces
pieces-in P address cut is = fold-in P address (begun cut.start) cut.after is.1 (is.0, tt)

-- the bytes up to a tick: all where no piece is later, none where all are
pub bytes-whole : (tick : ℕ) (pieces : List Piece) → AllByRecursion (PieceIn (λ (t : ℕ). t ≤ tick)) pieces → filter (λ (p : Piece). nat_le p.at tick) pieces ≡ pieces
bytes-whole tick [] all = refl
bytes-whole tick (piece ∷ pieces) all = let is : nat_le piece.at tick ≡ true = grind (arith, nat_tests, all.0) in rw (is, bytes-whole tick pieces all.1) refl

bytes-late : (tick : ℕ) (pieces : List Piece) → AllByRecursion (PieceIn (λ (t : ℕ). tick < t)) pieces → filter (λ (p : Piece). nat_le p.at tick) pieces ≡ []
bytes-late tick [] all = refl
bytes-late tick (piece ∷ pieces) all = let is : nat_le piece.at tick ≡ false = grind (arith, nat_tests, all.0) in rw (is, bytes-late tick pieces all.1) refl

pub bytes-none : (tick : ℕ) (pieces : List Piece) → AllByRecursion (PieceIn (λ (t : ℕ). tick < t)) pieces → bytes_to tick pieces ≡ 0
bytes-none tick pieces all = ap (λ l. length (joined l)) (bytes-late tick pieces all)

most-by : (tick : ℕ) (piece : Piece) (pieces : List Piece) (early : Bool) → bytes_to tick pieces ≤ length (joined pieces) → length (joined (cond early (piece ∷ filter (λ (p : Piece). nat_le p.at tick) pieces) (filter (λ (p : Piece). nat_le p.at tick) pieces))) ≤ length (joined (piece ∷ pieces))
most-by tick piece pieces true le = rw (length-append piece.bytes (joined (filter (λ (p : Piece). nat_le p.at tick) pieces)), length-append piece.bytes (joined pieces)) (omega (arith, le))
most-by tick piece pieces false le = rw length-append (omega (arith, le))

pub bytes-most : (tick : ℕ) (pieces : List Piece) → bytes_to tick pieces ≤ length (joined pieces)
bytes-most tick [] = omega arith
bytes-most tick (piece ∷ pieces) = most-by tick piece pieces (nat_le piece.at tick) (bytes-most tick pieces)

-- an attempt that went on later has no more of them
pub bytes-front : (tick address : ℕ) (front cut : Cut Seen) → cut.start ≡ front.start → More (λ (s : Seen). tick < s.at) front.after cut.after → bytes_to tick (walk_of address cut).pieces ≡ bytes_to tick (walk_of address front).pieces
bytes-front tick address front cut start more =
    let on : Onward tick (walk_of address front) (fold (look address) (walk_of address front) more.more) = goes_on address tick (walk_of address front) more.more more.all in
    let walk : walk_of address cut ≡ fold (look address) (walk_of address front) more.more = ap (λ s. fold (look address) (begun s) cut.after) start ∙ ap (fold (look address) (begun front.start)) more.is ∙ fold-append (look address) (begun front.start) front.after more.more in
    ap (λ (w : Walk). bytes_to tick w.pieces) walk ∙ ap (bytes_to tick) on.pieces
    ∙ ap (λ l. length (joined l)) (filter-append (λ (p : Piece). nat_le p.at tick) (walk_of address front).pieces on.more ∙ ap (λ l. filter (λ (p : Piece). nat_le p.at tick) (walk_of address front).pieces ++ l) (bytes-late tick on.more on.above) ∙ append-nil (filter (λ (p : Piece). nat_le p.at tick) (walk_of address front).pieces))
