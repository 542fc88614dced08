-- How many cells were put into a record's session up to a tick: no more than fill what came of its unit by then, frame by frame.
use Rattle.std.proofs.Common.{◌≡◌, ℕ, ◌+◌, ◌-◌, ◌<◌, ◌≤◌, inl, inr, Bool, true, false, ◌==◌, cond, None, Some, List, [], ◌∷◌, ◌++◌, length, refl, ap, sym, ◌∙◌, subst, arith, append-nil, append_assoc}
use Rattle.std.specs.Prelude.{filter, fold, nat_lt, slice_get, sum_by}
use Rattle.std.specs.List.{AllByRecursion}
use Rattle.std.proofs.lemmas.Bool.Decides.{nat_tests}
use Rattle.std.proofs.lemmas.Grind.{flat_map-append, fold-append}
use Rattle.std.proofs.lemmas.List.{length-append}
use Rattle.std.proofs.lemmas.List.Sums.{sum_by-append, sum_by-cons}
use Rattle.std.proofs.lemmas.Bool.{cases_lt}
use Rattle.std.proofs.lemmas.Option.{slice_get_past, slice_get_within}
use Rattle.gw_base.proofs.Lists.{all-at}
use Rattle.gw_base.specs.Cell.{count_of, counted}
use Rattle.hub_core.proofs.Turns.{calls-append}
use Rattle.hub_core.specs.Turns.{calls_by, came_by, records_by, state_after}
use Rattle.hub_core.specs.declared.record.OpenedAt.{OpenedAt}
use Rattle.hub_core.specs.declared.record.SessionRecord.{SessionRecord}
use Rattle.receiver_law.proofs.sessions.Stores.{store, store-more}
use Rattle.receiver_law.specs.Source.{CountsFrom, sessions_in}
use Rattle.tp_attempts.specs.Attempts.{attempts_in}
use Rattle.tp_attempts.specs.Cuts.{Cut}
use Rattle.tp_attempts.specs.Seen.{Seen, is_start}
use Rattle.tp_attempts.specs.Walk.{Piece, Walk, begun, joined, look, walk_of}
use Rattle.tp_receiver.specs.Runs.{HasReceived, cell_in, cells_in, frames_in, put_in}
use Rattle.tp_receiver.specs.State.{RxTurn, rx_new}
use Rattle.flow_plan.specs.Cells.{cells_for}
use Rattle.tp_receiver.specs.declared.set.RxSet.{RxSet}
use Rattle.receiver_law.specs.PutCells.{cells_of}
use Rattle.gw_law.specs.Timely.{bytes_below, cells_below, first_pieces}
use Rattle.gw_law.proofs.runs.Fronts.{More, TurnIn, received-more, seen-more}
use Rattle.gw_law.proofs.times.Pieces.{After, CutFront, CutIn, Within, cut-front, cuts-in, pieces-in}
use Rattle.gw_law.proofs.times.RxCells.{step-few}
use Rattle.gw_law.proofs.times.RxPlaces.{IsPutSo, pieces_of, put-so}
use Rattle.gw_law.proofs.times.RxUpTo.{seen-all}
use Rattle.gw_law.proofs.times.OnePiece.{OneMore, more-event, more-look}

-- sums of pieces
cells-append : (first more : List Piece) → cells_of (first ++ more) ≡ cells_of first + cells_of more
cells-append first more = sum_by-append (λ (p : Piece). cells_for (length p.bytes)) first more

joined-append : (first more : List Piece) → length (joined (first ++ more)) ≡ length (joined first) + length (joined more)
joined-append first more = ap length (flat_map-append (λ (p : Piece). p.bytes) first more) ∙ length-append (joined first) (joined more)

-- so many bytes fill no more cells than a piece that has them
fills : (more : List Piece) (bytes : ℕ) → length more ≤ 1 → bytes ≤ length (joined more) → cells_for bytes ≤ cells_of more
fills [] bytes few le = omega (arith, le)
fills (piece ∷ []) bytes few le = omega (arith, le, length-append piece.bytes [], sum_by-cons (λ (p : Piece). cells_for (length p.bytes)) piece [])
fills (piece ∷ next ∷ more) bytes few le = absurd (omega (arith, few))

-- the first pieces of more pieces
put-append : (bytes : ℕ) (first later : List Piece) → (more : List Piece) × (first_pieces bytes (first ++ later) ≡ first_pieces bytes first ++ more)
put-append bytes [] later = (first_pieces bytes later, refl)
put-append bytes (piece ∷ first) later =
    let so = put-append (bytes - length piece.bytes) first later in
    by piece (first_pieces (bytes - length piece.bytes) (first ++ later)) (first_pieces (bytes - length piece.bytes) first) so.0 (bytes == 0) so.1
  where
    by : (piece : Piece) (all some rest : List Piece) (none : Bool) → all ≡ some ++ rest → (more : List Piece) × (cond none [] (piece ∷ all) ≡ cond none [] (piece ∷ some) ++ more)
    by piece all some rest true is = ([], refl)
    by piece all some rest false is = (rest, ap (λ l. piece ∷ l) is)

-- where they have fewer bytes all of them are among the first ones
put-all : (bytes : ℕ) (first later : List Piece) → length (joined first) < bytes → first_pieces bytes (first ++ later) ≡ first ++ first_pieces (bytes - length (joined first)) later
put-all bytes [] later lt = ap (λ n. first_pieces n later) (omega arith)
put-all bytes (piece ∷ first) later lt =
    let sum : length (joined (piece ∷ first)) ≡ length piece.bytes + length (joined first) = length-append piece.bytes (joined first) in
    let some : (bytes == 0) ≡ false = grind (arith, nat_tests, lt) in
    let rest = put-all (bytes - length piece.bytes) first later (omega (arith, lt, sum)) in
    let left : bytes - length piece.bytes - length (joined first) ≡ bytes - length (joined (piece ∷ first)) = omega (arith, sum) in
    ap (λ b. cond b [] (piece ∷ first_pieces (bytes - length piece.bytes) (first ++ later))) some ∙ ap (λ l. piece ∷ l) rest ∙ ap (λ n. piece ∷ (first ++ first_pieces n later)) left

-- a turn adds no more cells than its frame's piece fills
adds-cells : (was more : List Piece) (limit put adds cells more_cells : ℕ) → length more ≤ 1 → put ≡ length (joined was) → adds ≤ length (joined more) → put + adds ≤ limit → 0 < adds → cells ≤ cells_of (first_pieces limit was) → more_cells ≤ cells_for adds →
    cells + more_cells ≤ cells_of (first_pieces limit (was ++ more))
adds-cells was [] limit put adds cells more_cells one is fits within some few adds_few = absurd (omega (arith, fits, some))
adds-cells was (piece ∷ []) limit put adds cells more_cells one is fits within some few adds_few =
    let all : first_pieces limit (was ++ piece ∷ []) ≡ was ++ first_pieces (limit - length (joined was)) (piece ∷ []) = put-all limit was (piece ∷ []) (omega (arith, is, within, some)) in
    let open_still : ((limit - length (joined was)) == 0) ≡ false = grind (arith, nat_tests, is, within, some) in
    let last : first_pieces (limit - length (joined was)) (piece ∷ []) ≡ piece ∷ [] = ap (λ b. cond b [] (piece ∷ [])) open_still in
    let old : first_pieces limit was ≡ was = ap (first_pieces limit) (sym (append-nil was)) ∙ put-all limit was [] (omega (arith, is, within, some)) ∙ append-nil was in
    omega (arith, few, adds_few, ap cells_of old, ap cells_of (all ∙ ap (λ l. was ++ l) last), cells-append was (piece ∷ []), fills (piece ∷ []) adds (omega arith) fits)
adds-cells was (piece ∷ next ∷ more) limit put adds cells more_cells one is fits within some few adds_few = absurd (omega (arith, one))

turn-cells : (was now : List Piece) (told_was told_now place limit put adds cells more_cells : ℕ) → OneMore was now → told_was ≤ told_now → IsPutSo told_was place limit put (length (joined was)) → IsPutSo told_now place limit (put + adds) (length (joined now)) → put + adds ≤ limit →
    cells ≤ cells_of (first_pieces limit was) → more_cells ≤ cells_for adds → cells + more_cells ≤ cells_of (first_pieces limit now)
turn-cells was now told_was told_now place limit put adds cells more_cells one later old new within few adds_few =
    let grown = put-append limit was one.more in
    let sum : cells_of (first_pieces limit now) ≡ cells_of (first_pieces limit was) + cells_of grown.0 = ap (λ l. cells_of (first_pieces limit l)) one.is ∙ ap cells_of grown.1 ∙ cells-append (first_pieces limit was) grown.0 in
    let all : length (joined now) ≡ length (joined was) + length (joined one.more) = ap (λ l. length (joined l)) one.is ∙ joined-append was one.more in
    elim (cases_lt 0 adds) [
      | inr none ↦ omega (arith, sum, few, adds_few, none)
      | inl some ↦ elim old.either [
        | inl told ↦ elim new.either [
          | inl still ↦ absurd (omega (arith, some, told.1, still.1))
          | inr over ↦ absurd (omega (arith, told.0, later, over.0))
        ]
        | inr going ↦ omega (arith, ap (λ l. cells_of (first_pieces limit l)) one.is, adds-cells was one.more limit put adds cells more_cells one.few going.1 (omega (arith, all, going.1, new.within)) within some few adds_few)
      ]
    ]

-- no more is put than the record tells
put-within : (set : RxSet) (later front : List RxTurn) (place : ℕ) (session : SessionRecord) (opened : OpenedAt) → HasReceived set (later ++ front) → (state_after rx_new (later ++ front)).busy ≡ None → CountsFrom 0 (sessions_in (records_by (later ++ front))) → slice_get (records_by (later ++ front)) place ≡ Some session → session.opened ≡ Some opened →
    length (store set.path.0 (calls_by front) opened.seq) ≤ session.bytes
put-within set later front place session opened happened idle counts is opened_is =
    let whole : List RxTurn = later ++ front in
    let all = put-so set [] whole place [] session opened happened idle (sym (append-nil (records_by whole))) counts is opened_is in
    let more : length (store set.path.0 (calls_by whole) opened.seq) ≡ length (store set.path.0 (calls_by front) opened.seq) + length (store set.path.0 (calls_by later) opened.seq) =
    ap (λ c. length (store set.path.0 c opened.seq)) (calls-append later front) ∙ ap length (store-more set.path.0 opened.seq (calls_by front) (calls_by later)) ∙ length-append (store set.path.0 (calls_by front) opened.seq) (store set.path.0 (calls_by later) opened.seq) in
    elim all.either [
      | inl told ↦ omega (arith, told.1, more)
      | inr over ↦ absurd (omega (arith, over.0, slice_get_within (records_by whole) place session is))
    ]

-- after the turns of a front
pub front-cells : (set : RxSet) (later front : List RxTurn) (place : ℕ) (session : SessionRecord) (opened : OpenedAt) → HasReceived set (later ++ front) → (state_after rx_new (later ++ front)).busy ≡ None → CountsFrom 0 (sessions_in (records_by (later ++ front))) →
    slice_get (records_by (later ++ front)) place ≡ Some session → session.opened ≡ Some opened → HasReceived set front → length (put_in set front opened.seq) ≤ cells_of (first_pieces session.bytes (pieces_of set.a (slice_get (attempts_in set.functional (came_by frames_in front)) place)))
front-cells set later [] place session opened whole idle counts is opened_is happened = omega arith
front-cells set later (turn ∷ front) place session opened whole idle counts is opened_is happened =
    let seq : ℕ = opened.seq in
    let path : ℕ = set.path.0 in
    let all : later ++ turn ∷ front ≡ (later ++ turn ∷ []) ++ front = sym (append_assoc later (turn ∷ []) front) in
    let H : List RxTurn → Type 0 = λ l. HasReceived set l in
    let I : List RxTurn → Type 0 = λ l. (state_after rx_new l).busy ≡ None in
    let C : List RxTurn → Type 0 = λ l. CountsFrom 0 (sessions_in (records_by l)) in
    let S : List RxTurn → Type 0 = λ l. slice_get (records_by l) place ≡ Some session in
    let told_front = received-more (later ++ turn ∷ []) front in
    let told_now = received-more later (turn ∷ front) in
    let old = put-so set (later ++ turn ∷ []) front place told_front.more session opened (subst H all whole) (subst I all idle) told_front.is (subst C all counts) (subst S all is) opened_is in
    let new = put-so set later (turn ∷ front) place told_now.more session opened whole idle told_now.is counts is opened_is in
    let bytes : length (store path (calls_by (turn ∷ front)) seq) ≡ length (store path (calls_by front) seq) + length (store path turn.did.calls seq) = ap length (store-more path seq (calls_by front) turn.did.calls) ∙ length-append (store path (calls_by front) seq) (store path turn.did.calls seq) in
    let cells : length (put_in set (turn ∷ front) seq) ≡ length (put_in set front seq) + length (cells_in path seq turn.did.calls) = ap length (flat_map-append (cell_in path seq) (calls_by front) turn.did.calls) ∙ length-append (put_in set front seq) (cells_in path seq turn.did.calls) in
    let P : ℕ → Type 0 = λ n. IsPutSo (length (records_by (turn ∷ front))) place session.bytes n (length (joined (pieces_of set.a (slice_get (attempts_in set.functional (came_by frames_in (turn ∷ front))) place)))) in
    let sum = turn-cells _ _ (length (records_by front)) (length (records_by (turn ∷ front))) place session.bytes (length (store path (calls_by front) seq)) (length (store path turn.did.calls seq)) (length (put_in set front seq)) (length (cells_in path seq turn.did.calls))
    (more-event set.a set.functional (came_by frames_in front) place turn.did.tick turn.event) (omega (arith, length-append (records_by front) turn.did.records)) old (subst P bytes new) (omega (arith, bytes, put-within set later (turn ∷ front) place session opened whole idle counts is opened_is))
    (front-cells set (later ++ turn ∷ []) front place session opened (subst H all whole) (subst I all idle) (subst C all counts) (subst S all is) opened_is happened.2) (step-few set (state_after rx_new front) turn.event turn.did happened.1 seq).0 in
    omega (arith, cells, sum)

-- the pieces of an attempt's front are the first of its pieces
fold-more : (address : ℕ) (walk : Walk) (frames : List Seen) → (more : List Piece) × ((fold (look address) walk frames).pieces ≡ walk.pieces ++ more)
fold-more address walk [] = ([], sym (append-nil walk.pieces))
fold-more address walk (x ∷ frames) =
    let one = more-look address walk x.at x.size x.meaning in
    let rest = fold-more address (look address walk x) frames in
    (one.more ++ rest.0, rest.1 ∙ ap (λ l. l ++ rest.0) one.is ∙ append_assoc walk.pieces one.more rest.0)

-- a measure of the pieces of earlier ticks
abbrev sum_below : (Piece → ℕ) → ℕ → List Piece → ℕ
sum_below size bound pieces = sum_by size (filter (λ (p : Piece). nat_lt p.at bound) pieces)

kept-all : (size : Piece → ℕ) (bound : ℕ) (pieces more : List Piece) → AllByRecursion (λ (p : Piece). p.at < bound) pieces → sum_by size pieces ≤ sum_below size bound (pieces ++ more)
kept-all size bound [] more all = omega arith
kept-all size bound (piece ∷ pieces) more all =
    let keeps : nat_lt piece.at bound ≡ true = grind (arith, nat_tests, all.0) in
    let rest : List Piece = filter (λ (p : Piece). nat_lt p.at bound) (pieces ++ more) in
    let is : sum_below size bound (piece ∷ (pieces ++ more)) ≡ sum_by size (piece ∷ rest) = ap (λ b. sum_by size (cond b (piece ∷ rest) rest)) keeps in
    omega (arith, is, sum_by-cons size piece rest, sum_by-cons size piece pieces, kept-all size bound pieces more all.1)

sum-later : (size : Piece → ℕ) (low high : ℕ) (pieces : List Piece) → low ≤ high → sum_below size low pieces ≤ sum_below size high pieces
sum-later size low high [] le = omega arith
sum-later size low high (piece ∷ pieces) le =
    later-by (filter (λ (p : Piece). nat_lt p.at low) pieces) (filter (λ (p : Piece). nat_lt p.at high) pieces) (nat_lt piece.at low) (nat_lt piece.at high) (λ is. grind (arith, nat_tests, is, le)) (sum-later size low high pieces le)
  where
    later-by : (few many : List Piece) (early late : Bool) → (early ≡ true → late ≡ true) → sum_by size few ≤ sum_by size many → sum_by size (cond early (piece ∷ few) few) ≤ sum_by size (cond late (piece ∷ many) many)
    later-by few many true true on le = omega (arith, le, sum_by-cons size piece few, sum_by-cons size piece many)
    later-by few many true false on le = let no : false ≡ true = on refl in cc
    later-by few many false true on le = omega (arith, le, sum_by-cons size piece many)
    later-by few many false false on le = le

-- the pieces of an attempt's front are earlier ones of the attempt
record IsFrontOf (bound : ℕ) (front whole : List Piece) : Type 0 where
  later : List Piece
  is : whole ≡ front ++ later
  early : AllByRecursion (λ (p : Piece). p.at < bound) front

front-pieces : (address bound place : ℕ) (fronts : List (Cut Seen)) (unit : Cut Seen) → AllByRecursion (CutIn (λ (s : Seen). s.at < bound)) fronts → CutFront (λ (s : Seen). Unit {0}) fronts place unit → IsFrontOf bound (pieces_of address (slice_get fronts place)) (walk_of address unit).pieces
front-pieces address bound place fronts unit early (After long late) =
    let none : pieces_of address (slice_get fronts place) ≡ [] = ap (pieces_of address) (slice_get_past fronts place long) in
    let P : List Piece → Type 0 = λ l. IsFrontOf bound l (walk_of address unit).pieces in
    subst P (sym none) (record { later = (walk_of address unit).pieces; is = refl; early = tt })
front-pieces address bound place fronts unit early (Within before is start more) =
    let grown = fold-more address (walk_of address before) more.more in
    let walk : walk_of address unit ≡ fold (look address) (walk_of address before) more.more = ap (λ s. fold (look address) (begun s) unit.after) start ∙ ap (fold (look address) (begun before.start)) more.is ∙ fold-append (look address) (begun before.start) before.after more.more in
    let all : (walk_of address unit).pieces ≡ (walk_of address before).pieces ++ grown.0 = ap (λ (w : Walk). w.pieces) walk ∙ grown.1 in
    let ticks = pieces-in (λ (t : ℕ). t < bound) address before (all-at (CutIn (λ (s : Seen). s.at < bound)) fronts place before early is) in
    let P : List Piece → Type 0 = λ l. IsFrontOf bound l (walk_of address unit).pieces in
    subst P (sym (ap (pieces_of address) is)) (record { later = grown.0; is = all; early = ticks })

-- and so of the first ones
first-early : (bound bytes : ℕ) (pieces : List Piece) → AllByRecursion (λ (p : Piece). p.at < bound) pieces → AllByRecursion (λ (p : Piece). p.at < bound) (first_pieces bytes pieces)
first-early bound bytes [] all = tt
first-early bound bytes (piece ∷ pieces) all = by (first_pieces (bytes - length piece.bytes) pieces) (bytes == 0) (first-early bound (bytes - length piece.bytes) pieces all.1)
  where
    by : (rest : List Piece) (none : Bool) → AllByRecursion (λ (p : Piece). p.at < bound) rest → AllByRecursion (λ (p : Piece). p.at < bound) (cond none [] (piece ∷ rest))
    by rest true rest_all = tt
    by rest false rest_all = (all.0, rest_all)

first-front : (bound bytes : ℕ) (front whole : List Piece) → IsFrontOf bound front whole → IsFrontOf bound (first_pieces bytes front) (first_pieces bytes whole)
first-front bound bytes front whole so =
    let grown = put-append bytes front so.later in
    record { later = grown.0; is = ap (first_pieces bytes) so.is ∙ grown.1; early = first-early bound bytes front so.early }

front-sum : (size : Piece → ℕ) (bound high : ℕ) (front whole : List Piece) → bound ≤ high → IsFrontOf bound front whole → sum_by size front ≤ sum_below size high whole
front-sum size bound high front whole le so = omega (arith, kept-all size bound front so.later so.early, ap (sum_below size bound) so.is, sum-later size bound high whole le)

-- the bytes of pieces, as such a sum
joined-sum : (pieces : List Piece) → length (joined pieces) ≡ sum_by (λ (p : Piece). length p.bytes) pieces
joined-sum [] = refl
joined-sum (piece ∷ pieces) = length-append piece.bytes (joined pieces) ∙ ap (λ n. length piece.bytes + n) (joined-sum pieces) ∙ sym (sum_by-cons (λ (p : Piece). length p.bytes) piece pieces)

any-turns : (turns : List RxTurn) → AllByRecursion (TurnIn (λ (t : ℕ). Unit {0})) turns
any-turns [] = tt
any-turns (turn ∷ turns) = (tt, any-turns turns)

-- the cells that were put count no more bytes than were put
pub front-counted : (set : RxSet) (front : List RxTurn) (seq : ℕ) → HasReceived set front → counted (put_in set front seq) ≤ length (store set.path.0 (calls_by front) seq)
front-counted set [] seq happened = omega arith
front-counted set (turn ∷ front) seq happened =
    let path : ℕ = set.path.0 in
    omega (
      arith,
      ap counted (flat_map-append (cell_in path seq) (calls_by front) turn.did.calls),
      sum_by-append count_of (put_in set front seq) (cells_in path seq turn.did.calls),
      ap length (store-more path seq (calls_by front) turn.did.calls),
      length-append (store path (calls_by front) seq) (store path turn.did.calls seq),
      front-counted set front seq happened.2,
      (step-few set (state_after rx_new front) turn.event turn.did happened.1 seq).1,
    )

-- what the turns below a tick put into a session is no more than its unit has of ticks below that one: in cells, and in bytes
pub record HasCome (set : RxSet) (front : List RxTurn) (high number told : ℕ) (unit : Cut Seen) : Type 0 where
  pub cells : length (put_in set front number) ≤ cells_below high (first_pieces told (walk_of set.a unit).pieces)
  pub bytes : length (store set.path.0 (calls_by front) number) ≤ bytes_below high (walk_of set.a unit).pieces

pub has-come : (set : RxSet) (later front : List RxTurn) (bound high place : ℕ) (unit : Cut Seen) (session : SessionRecord) (opened : OpenedAt) → HasReceived set (later ++ front) → (state_after rx_new (later ++ front)).busy ≡ None → CountsFrom 0 (sessions_in (records_by (later ++ front))) →
    AllByRecursion (TurnIn (λ (t : ℕ). t < bound)) front → bound ≤ high → slice_get (attempts_in set.functional (came_by frames_in (later ++ front))) place ≡ Some unit → slice_get (records_by (later ++ front)) place ≡ Some session → session.opened ≡ Some opened → HasReceived set front →
    HasCome set front high opened.seq session.bytes unit
has-come set later front bound high place unit session opened happened idle counts early le unit_is session_is opened_is past =
    let fronts : List (Cut Seen) = attempts_in set.functional (came_by frames_in front) in
    let frames : More (λ (s : Seen). Unit {0}) (came_by frames_in front) (came_by frames_in (later ++ front)) = seen-more (λ (t : ℕ). Unit {0}) later front (any-turns later) in
    let cut = cut-front (λ (s : Seen). Unit {0}) (λ (s : Seen). is_start set.functional s.meaning) (came_by frames_in front) frames.more place unit frames.all (ap (λ l. slice_get (attempts_in set.functional l) place) (sym frames.is) ∙ unit_is) in
    let ticks = cuts-in (λ (s : Seen). s.at < bound) (λ (s : Seen). is_start set.functional s.meaning) (came_by frames_in front) (seen-all (λ (t : ℕ). t < bound) front early) in
    let pieces : List Piece = (walk_of set.a unit).pieces in
    let now : List Piece = pieces_of set.a (slice_get fronts place) in
    let are : IsFrontOf bound now pieces = front-pieces set.a bound place fronts unit ticks cut in
    let told = received-more later front in
    let put = put-so set later front place told.more session opened happened idle told.is counts session_is opened_is in
    let cells : Piece → ℕ = λ p. cells_for (length p.bytes) in
    let bytes : Piece → ℕ = λ p. length p.bytes in
    record {
      cells = omega (arith, front-cells set later front place session opened happened idle counts session_is opened_is past, front-sum cells bound high (first_pieces session.bytes now) (first_pieces session.bytes pieces) le (first-front bound session.bytes now pieces are));
      bytes = omega (
        arith,
        put.within,
        joined-sum (pieces_of set.a (slice_get fronts place)),
        front-sum bytes bound high now pieces le are,
        joined-sum (filter (λ (p : Piece). nat_lt p.at high) pieces),
      );
    }
