-- What was put of each session, and that it stays: the cells, the frames that these are of, and what was seen as each consecutive one was put.
use Rattle.std.proofs.Common.{◌≡◌, ℕ, ◌+◌, ◌*◌, ◌<◌, ◌≤◌, suc, Option, Some, None, List, [], ◌∷◌, ◌++◌, length, drop, All, refl, ap, sym, ◌∙◌, subst, arith, append-nil, append_assoc}
use Rattle.std.specs.Prelude.{slice_index}
use Rattle.std.specs.List.{AllByRecursion, AllZip}
use Rattle.std.proofs.lemmas.List.{length-append, same_from_push}
use Rattle.std.proofs.lemmas.List.Elements.{All-head, All-tail}
use Rattle.std.proofs.lemmas.List.Sums.{sum_by-append, sum_by-cons}
use Rattle.std.proofs.lemmas.Grind.{flat_map-append}
use Rattle.cell_stream.specs.Packing.{IsPacked}
use Rattle.flow_plan.specs.Cells.{cells_for}
use Rattle.gw_base.proofs.Cells.{length-bytes_of}
use Rattle.gw_base.proofs.Lists.{all-weaker, zip-all, zip-push}
use Rattle.gw_base.specs.Cell.{IsCell, count_of, counted}
use Rattle.hub_core.specs.View.{Event}
use Rattle.hub_core.specs.declared.record.OpenedAt.{OpenedAt}
use Rattle.hub_core.specs.declared.record.SessionRecord.{SessionRecord}
use Rattle.hub_core.specs.declared.record.SessionResult.{SessionResult}
use Rattle.tp_attempts.proofs.Walks.{walk_of-more}
use Rattle.tp_attempts.specs.Attempts.{attempts_in}
use Rattle.tp_attempts.specs.Cuts.{Cut}
use Rattle.tp_attempts.specs.Seen.{Seen}
use Rattle.tp_attempts.specs.Walk.{Piece, Walk, walk_of}
use Rattle.tp_receiver.specs.Runs.{cell_in, cells_in}
use Rattle.tp_receiver.specs.State.{Reception}
use Rattle.tp_receiver.specs.Table.{ended}
use Rattle.tp_receiver.specs.declared.set.RxSet.{RxSet}
use Rattle.receiver_law.specs.PutCells.{cells_of}
use Rattle.receiver_law.specs.ReceptionCauses.{ArePut}
use Rattle.receiver_law.specs.Source.{sessions_in}
use Rattle.receiver_law.proofs.records.SoFars.{AreTold, IsBusy, IsOver, IsUnderway}
use Rattle.receiver_law.proofs.records.Tellings.{looked, with_frame}

-- cells that hold a frame's bytes are no more than a frame of so many takes
pub packed-most : (bytes cells : List ℕ) → IsPacked bytes cells → length cells ≤ cells_for (length bytes)
packed-most bytes cells packed =
    let count : counted cells ≡ length bytes = sym (length-bytes_of cells packed.cells_only) ∙ ap length packed.same_bytes in
    omega (arith, count, many cells packed.cells_only packed.full)
  where
    many : (xs : List ℕ) → All IsCell xs → ((k : ℕ) → k + 1 < length xs → count_of (slice_index xs k) ≡ 7) → 7 * length xs ≤ counted xs + 6
    many [] all full = omega arith
    many (x ∷ []) all full = let one : IsCell x = All-head IsCell x [] all in omega (arith, one.some, sum_by-cons count_of x [])
    many (x ∷ y ∷ xs) all full =
        let rest : 7 * length (y ∷ xs) ≤ counted (y ∷ xs) + 6 = many (y ∷ xs) (All-tail IsCell x (y ∷ xs) all) (λ k below. full (suc k) (omega (arith, below))) in
        omega (arith, rest, full 0 (omega arith), sum_by-cons count_of x (y ∷ xs))

pub cells-more : (pieces : List Piece) (piece : Piece) → cells_of (pieces ++ piece ∷ []) ≡ cells_of pieces + cells_for (length piece.bytes)
cells-more pieces piece =
    let count : Piece → ℕ = λ p. cells_for (length p.bytes) in
    omega (arith, sum_by-append count pieces (piece ∷ []), sum_by-cons count piece [])

-- the session of that number has so many cells
abbrev pub cells_put : RxSet → List Event → ℕ → ℕ
cells_put set calls seq = length (cells_in set.path.0 seq calls)

pub put-more : (set : RxSet) (calls more : List Event) (seq : ℕ) → cells_put set (calls ++ more) seq ≡ cells_put set calls seq + cells_put set more seq
put-more set calls more seq = ap length (flat_map-append (cell_in set.path.0 seq) calls more) ∙ length-append (cells_in set.path.0 seq calls) (cells_in set.path.0 seq more)

-- first pieces, with as many cells at least, and what was seen as each consecutive frame of them was put
pub record AreSeen (Sees : (seq tick : ℕ) → Type 0) (seq : ℕ) (pieces : List Piece) (bytes cells : ℕ) : Type 0 where
  pub put : List Piece
  pub are_put : ArePut pieces bytes put
  pub least : cells ≤ cells_of put
  pub found : AllByRecursion (λ (piece : Piece). Sees seq piece.at) (drop 1 put)

pub drop-first : (pieces : List Piece) (piece : Piece) → 0 < length pieces → drop 1 (pieces ++ piece ∷ []) ≡ drop 1 pieces ++ piece ∷ []
drop-first [] piece some = absurd (omega (arith, some))
drop-first (first ∷ pieces) piece some = refl

abbrev pub OpensBelow : ℕ → SessionRecord → Type 0
OpensBelow bound told = (opened : OpenedAt) → told.opened ≡ Some opened → opened.seq < bound

pub below-told : (set : RxSet) (calls : List Event) (now : ℕ) (attempts : List (Cut Seen)) (records : List SessionRecord) → AreTold set calls now attempts records → AllByRecursion (OpensBelow (length (sessions_in records))) records
below-told set calls now attempts records told = all-weaker (IsOver now (length (sessions_in records))) (OpensBelow (length (sessions_in records))) records (λ r over. over.below) told.over

-- more calls that put nothing
pub none-more : (set : RxSet) (calls more : List Event) (number : ℕ) → cells_in set.path.0 number more ≡ [] → cells_in set.path.0 number calls ≡ [] → cells_in set.path.0 number (calls ++ more) ≡ []
none-more set calls more number later first = flat_map-append (cell_in set.path.0 number) calls more ∙ ap (λ c. c ++ cells_in set.path.0 number more) first ∙ later

module _ (Sees : (seq tick : ℕ) → Type 0) where
  -- a record that opened a session, and its attempt
  abbrev pub TellsCells : RxSet → List Event → Cut Seen → SessionRecord → Type 0
  TellsCells set calls attempt told = (opened : OpenedAt) → told.opened ≡ Some opened → AreSeen Sees opened.seq (walk_of set.a attempt).pieces told.bytes (cells_put set calls opened.seq)

  -- calls that put nothing into its session leave it
  pub tells-keep : (set : RxSet) (calls more : List Event) (bound : ℕ) (attempts : List (Cut Seen)) (records : List SessionRecord) → AllByRecursion (OpensBelow bound) records → ((number : ℕ) → number < bound → cells_in set.path.0 number more ≡ []) → AllZip (TellsCells set calls) attempts records →
      AllZip (TellsCells set (calls ++ more)) attempts records
  tells-keep set calls more bound attempts records below none tells =
      zip-all (OpensBelow bound) (TellsCells set calls) (TellsCells set (calls ++ more)) attempts records (λ attempt told under is opened at.
      let so : AreSeen Sees opened.seq (walk_of set.a attempt).pieces told.bytes (cells_put set calls opened.seq) = is opened at in
      record { put = so.put; are_put = so.are_put; least = omega (arith, so.least, put-more set calls more opened.seq, ap length (none opened.seq (under opened at))); found = so.found }) below tells

  -- later frames leave what was put
  pub tells-grow : (set : RxSet) (calls : List Event) (frame : Seen) (attempt : Cut Seen) (told : SessionRecord) → TellsCells set calls attempt told → TellsCells set calls (with_frame attempt frame) told
  tells-grow set calls frame attempt told is opened at =
      let so : AreSeen Sees opened.seq (walk_of set.a attempt).pieces told.bytes (cells_put set calls opened.seq) = is opened at in
      let on = looked set.a (walk_of set.a attempt) frame.at frame.size frame.meaning in
      record {
        put = so.put;
        are_put = record {
          rest = so.are_put.rest ++ on.more;
          are = ap (λ (w : Walk). w.pieces) (walk_of-more set.a attempt frame) ∙ on.pieces ∙ ap (λ p. p ++ on.more) so.are_put.are ∙ append_assoc so.put so.are_put.rest on.more;
          sum = so.are_put.sum;
        };
        least = so.least;
        found = so.found;
      }

  -- what holds so far, by the reception that is in progress
  pub record IdleCells (set : RxSet) (seq : ℕ) (calls : List Event) (seen : List Seen) (records : List SessionRecord) : Type 0 where
    pub told : AllZip (TellsCells set calls) (attempts_in set.functional seen) records
    pub none : (number : ℕ) → seq ≤ number → cells_in set.path.0 number calls ≡ []

  pub record BusyCells (set : RxSet) (seq : ℕ) (busy : Reception) (calls : List Event) (seen : List Seen) (records : List SessionRecord) : Type 0 where
    pub earlier : List (Cut Seen)
    pub attempt : Cut Seen
    pub cut : attempts_in set.functional seen ≡ earlier ++ attempt ∷ []
    pub told : AllZip (TellsCells set calls) earlier records
    pub none : (number : ℕ) → seq ≤ number → cells_in set.path.0 number calls ≡ []
    pub put : cells_put set calls busy.opened.seq ≤ cells_of (walk_of set.a attempt).pieces
    pub found : AllByRecursion (λ (piece : Piece). Sees busy.opened.seq piece.at) (drop 1 (walk_of set.a attempt).pieces)

  abbrev pub CellsBy : RxSet → ℕ → Option Reception → List Event → List Seen → List SessionRecord → Type 0
  CellsBy set seq None calls seen records = IdleCells set seq calls seen records
  CellsBy set seq (Some busy) calls seen records = BusyCells set seq busy calls seen records

  pub busy-keeps : (set : RxSet) (seq now next : ℕ) (busy : Reception) (calls more : List Event) (seen : List Seen) (records : List SessionRecord) → ((number : ℕ) → cells_in set.path.0 number more ≡ []) → IsBusy set next seq busy calls now seen records → BusyCells set seq busy calls seen records → BusyCells set seq busy (calls ++ more) seen records
  busy-keeps set seq now next busy calls more seen records nothing known so = record {
    earlier = so.earlier;
    attempt = so.attempt;
    cut = so.cut;
    told = tells-keep set calls more (length (sessions_in records)) so.earlier records (below-told set calls now known.earlier records known.told) (λ number below. nothing number) so.told;
    none = λ number above. none-more set calls more number (nothing number) (so.none number above);
    put = omega (arith, so.put, put-more set calls more busy.opened.seq, ap length (nothing busy.opened.seq));
    found = so.found;
  }

  -- the attempt of a reception
  pub attempt-of : (set : RxSet) (seq now next : ℕ) (busy : Reception) (calls : List Event) (seen : List Seen) (records : List SessionRecord) (known : IsBusy set next seq busy calls now seen records) (so : BusyCells set seq busy calls seen records) → IsUnderway set busy calls now so.attempt × (known.attempt ≡ so.attempt)
  attempt-of set seq now next busy calls seen records known so =
      let same : known.attempt ≡ so.attempt = (same_from_push known.earlier so.earlier known.attempt so.attempt (sym known.cut ∙ so.cut)).1 in
      let P : Cut Seen → Type 0 = λ a. IsUnderway set busy calls now a in
      (subst P same known.underway, same)

  -- a reception ends, with an attempt of the same counted frames
  pub ends-cells : (set : RxSet) (seq now next : ℕ) (busy : Reception) (how : SessionResult) (tick : ℕ) (calls more : List Event) (seen after : List Seen) (records : List SessionRecord) (last : Cut Seen) (known : IsBusy set next seq busy calls now seen records) (so : BusyCells set seq busy calls seen records) →
      ((number : ℕ) → cells_in set.path.0 number more ≡ []) → attempts_in set.functional after ≡ so.earlier ++ last ∷ [] → (walk_of set.a last).pieces ≡ (walk_of set.a so.attempt).pieces → IdleCells set seq (calls ++ more) after (records ++ ended set busy how tick ∷ [])
  unfolding busy-keeps
  ends-cells set seq now next busy how tick calls more seen after records last known so nothing cut same =
      let kept : BusyCells set seq busy (calls ++ more) seen records = busy-keeps set seq now next busy calls more seen records nothing known so in
      let r : SessionRecord = ended set busy how tick in
      let P : List (Cut Seen) → Type 0 = λ attempts. AllZip (TellsCells set (calls ++ more)) attempts (records ++ r ∷ []) in
      let under = (attempt-of set seq now next busy calls seen records known so).0 in
      record {
        told = subst P (sym cut) (zip-push (TellsCells set (calls ++ more)) so.earlier records last r kept.told (λ opened at.
            let it : busy.opened ≡ opened = cc in
            let Q : List Piece → Type 0 = λ pieces. AreSeen Sees opened.seq pieces busy.bytes (cells_put set (calls ++ more) opened.seq) in
            let N : ℕ → Type 0 = λ n. AllByRecursion (λ (piece : Piece). Sees n piece.at) (drop 1 (walk_of set.a so.attempt).pieces) in
            subst Q (sym same) (record {
              put = (walk_of set.a so.attempt).pieces;
              are_put = record { rest = []; are = sym (append-nil (walk_of set.a so.attempt).pieces); sum = under.bytes };
              least = omega (arith, kept.put, ap (λ (o : OpenedAt). cells_put set (calls ++ more) o.seq) it);
              found = subst N (ap (λ (o : OpenedAt). o.seq) it) so.found;
            })));
        none = kept.none;
      }
