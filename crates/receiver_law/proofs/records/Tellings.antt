-- What a record says of its attempt, and that later frames don't change it.
use Rattle.std.proofs.Common.{◌≡◌, ℕ, ◌+◌, ◌<◌, ◌≤◌, Bool, true, false, ◌&&◌, ◌==◌, nat_le, if◌then◌else◌, option_map, Some, List, [], ◌∷◌, ◌++◌, length, take, refl, ap, sym, ◌∙◌, arith, append-nil, append_assoc}
use Rattle.std.specs.List.{AllByRecursion, AllZip}
use Rattle.std.proofs.lemmas.List.{length-append, take-append-le}
use Rattle.std.proofs.lemmas.Grind.{flat_map-append}
use Rattle.hub_core.specs.declared.record.OpenedAt.{OpenedAt}
use Rattle.hub_core.specs.declared.record.SessionRecord.{SessionRecord}
use Rattle.tp_attempts.specs.Cuts.{Cut}
use Rattle.tp_attempts.specs.Seen.{Seen}
use Rattle.tp_attempts.specs.Walk.{Piece, Walk, Wrong, due, due_number, is_open, joined, look_at, walk_of, reassembled}
use Rattle.tp_attempts.proofs.Cuts.{grow, grow_after}
use Rattle.tp_attempts.proofs.Walks.{look-ended, walk_of-more}
use Rattle.tp_unit.specs.Unit.{Meaning, SingleFrame, FirstFrame, ConsecutiveFrame, FlowControl, NoUnit}
use Rattle.receiver_law.specs.Source.{CountsFrom, Covers, Puts, Tells}
use Rattle.gw_base.proofs.Lists.{all-join}

-- the attempt with one more frame
abbrev pub with_frame : Cut Seen → Seen → Cut Seen
with_frame attempt frame = record { start = attempt.start; after = attempt.after ++ frame ∷ [] }

-- one look at a frame of that tick: it adds pieces of the tick, and a wrong number that wasn't there is of the tick
pub record Looked (before after : Walk) (tick : ℕ) : Type 0 where
  pub more : List Piece
  pub pieces : after.pieces ≡ before.pieces ++ more
  pub late : AllByRecursion (λ (piece : Piece). tick ≤ piece.at) more
  pub passed : (wrong : Wrong) (end : ℕ) → ((old : Wrong) → before.wrong ≡ Some old → end ≤ old.at) → end ≤ tick → after.wrong ≡ Some wrong → end ≤ wrong.at

looked-same : (walk : Walk) (tick : ℕ) → Looked walk walk tick
looked-same walk tick = record { more = []; pieces = sym (append-nil walk.pieces); late = tt; passed = λ wrong end old late is. old wrong is }

looked-counts : (walk : Walk) (tick : ℕ) (bytes : List ℕ) → Looked walk (record walk { pieces = walk.pieces ++ record { at = tick; bytes = bytes } ∷ [] }) tick
looked-counts walk tick bytes = record { more = record { at = tick; bytes = bytes } ∷ []; pieces = refl; late = (omega arith, tt); passed = λ wrong end old late is. old wrong is }

looked-ends : (walk : Walk) (tick want got : ℕ) → Looked walk (record walk { wrong = Some (record { at = tick; want = want; got = got }) }) tick
looked-ends walk tick want got = record {
  more = [];
  pieces = sym (append-nil walk.pieces);
  late = tt;
  passed = λ wrong end old late is. let at : Some tick ≡ Some wrong.at = ap (option_map (λ (w : Wrong). w.at)) is in let same : tick ≡ wrong.at = cc in omega (arith, same);
}

looked-by : (tick : ℕ) (walk counted ended : Walk) (looks right : Bool) → Looked walk counted tick → Looked walk ended tick → Looked walk (if looks then (if right then counted else ended) else walk) tick
looked-by tick walk counted ended true true counts ends = counts
looked-by tick walk counted ended true false counts ends = ends
looked-by tick walk counted ended false right counts ends = looked-same walk tick

pub looked : (address : ℕ) (walk : Walk) (tick size : ℕ) (meaning : Meaning) → Looked walk (look_at address walk tick size meaning) tick
looked address walk tick size (ConsecutiveFrame number bytes) =
    looked-by tick walk (record walk { pieces = walk.pieces ++ record { at = tick; bytes = take (due address walk) bytes } ∷ [] }) (record walk { wrong = Some (record { at = tick; want = due_number walk; got = number }) })
    (is_open walk && nat_le size walk.size && nat_le (due address walk) (length bytes)) (number == due_number walk) (looked-counts walk tick (take (due address walk) bytes)) (looked-ends walk tick (due_number walk) number)
looked address walk tick size (SingleFrame bytes) = looked-same walk tick
looked address walk tick size (FirstFrame len bytes) = looked-same walk tick
looked address walk tick size (FlowControl status block_size separation) = looked-same walk tick
looked address walk tick size (NoUnit why) = looked-same walk tick

all-later : (end tick : ℕ) → end ≤ tick → (pieces : List Piece) → AllByRecursion (λ (piece : Piece). tick ≤ piece.at) pieces → AllByRecursion (λ (piece : Piece). end ≤ piece.at) pieces
all-later end tick late [] above = tt
all-later end tick late (piece ∷ pieces) above = (omega (arith, above.0), all-later end tick late pieces above.1)

-- a front of pieces still covers, and what is put is still a front
covers-more : (pieces after more : List Piece) (bytes end tick : ℕ) → end ≤ tick → after ≡ pieces ++ more → AllByRecursion (λ (piece : Piece). tick ≤ piece.at) more → Covers pieces bytes end → Covers after bytes end
covers-more pieces after more bytes end tick late grown above covers = record {
  first = covers.first;
  rest = covers.rest ++ more;
  all = grown ∙ ap (λ p. p ++ more) covers.all ∙ append_assoc covers.first covers.rest more;
  some = covers.some;
  sum = covers.sum;
  none_above = covers.none_above;
  all_below = all-join (λ (piece : Piece). end ≤ piece.at) covers.rest more covers.all_below (all-later end tick late more above);
}

-- a frame of the end's tick or later changes nothing that is told
pub tells-more : (chan address : ℕ) (attempt : Cut Seen) (told : SessionRecord) (frame : Seen) → told.end.0 ≤ frame.at → Tells chan address attempt told → Tells chan address (with_frame attempt frame) told
tells-more chan address attempt told frame late tells =
    let W : Walk = look_at address (walk_of address attempt) frame.at frame.size frame.meaning in
    let is : walk_of address (with_frame attempt frame) ≡ W = walk_of-more address attempt frame in
    let on : Looked (walk_of address attempt) W frame.at = looked address (walk_of address attempt) frame.at frame.size frame.meaning in
    let grown : (walk_of address (with_frame attempt frame)).pieces ≡ (walk_of address attempt).pieces ++ on.more = ap (λ (w : Walk). w.pieces) is ∙ on.pieces in
    let bytes : reassembled address (with_frame attempt frame) ≡ reassembled address attempt ++ joined on.more = ap joined grown ∙ flat_map-append (λ (p : Piece). p.bytes) (walk_of address attempt).pieces on.more in
    record {
      chan_is = tells.chan_is;
      len = tells.len;
      begin = tells.begin;
      order = tells.order;
      opens = tells.opens;
      overflow = tells.overflow;
      covers = λ other. covers-more (walk_of address attempt).pieces (walk_of address (with_frame attempt frame)).pieces on.more told.bytes told.end.0 frame.at late grown on.late (tells.covers other);
      whole = tells.whole;
      within = rw (bytes, length-append) (omega (arith, tells.within));
      wrong = λ want got ends.
          let stays : walk_of address (with_frame attempt frame) ≡ walk_of address attempt = is ∙ look-ended address (walk_of address attempt) frame.at frame.size frame.meaning (record { at = told.end.0; want = want; got = got }) (tells.wrong want got ends).1 in
          ((tells.wrong want got ends).0 ∙ ap (λ (w : Walk). length (joined w.pieces)) (sym stays), ap (λ (w : Walk). w.wrong) stays ∙ (tells.wrong want got ends).1);
      none_passed = λ wrong stands. on.passed wrong told.end.0 tells.none_passed late (ap (λ (w : Walk). w.wrong) (sym is) ∙ stands);
    }

-- nor what was put
puts-more : (chan address : ℕ) (stored : ℕ → List ℕ) (attempt : Cut Seen) (told : SessionRecord) (frame : Seen) → Tells chan address attempt told → Puts address stored attempt told → Puts address stored (with_frame attempt frame) told
puts-more chan address stored attempt told frame tells puts opened at =
    let on : Looked (walk_of address attempt) (look_at address (walk_of address attempt) frame.at frame.size frame.meaning) frame.at = looked address (walk_of address attempt) frame.at frame.size frame.meaning in
    let bytes : reassembled address (with_frame attempt frame) ≡ reassembled address attempt ++ joined on.more =
    ap (λ (w : Walk). joined w.pieces) (walk_of-more address attempt frame) ∙ ap joined on.pieces ∙ flat_map-append (λ (p : Piece). p.bytes) (walk_of address attempt).pieces on.more in
    puts opened at ∙ sym (ap (take told.bytes) bytes ∙ take-append-le told.bytes (reassembled address attempt) (joined on.more) tells.within)

-- what a record says of its attempt, and of what was put
abbrev pub TellsPut : (chan address : ℕ) → (stored : ℕ → List ℕ) → Cut Seen → SessionRecord → Type 0
TellsPut chan address stored attempt told = Tells chan address attempt told × Puts address stored attempt told

-- the last attempt takes a frame, and all records that ended by its tick tell on
zip-grow_after : (chan address : ℕ) (stored : ℕ → List ℕ) (frame : Seen) (attempt : Cut Seen) (later : List (Cut Seen)) (records : List SessionRecord) →
    AllByRecursion (λ (told : SessionRecord). told.end.0 ≤ frame.at) records → AllZip (TellsPut chan address stored) (attempt ∷ later) records → AllZip (TellsPut chan address stored) (grow_after frame attempt later) records
zip-grow_after chan address stored frame attempt [] (told ∷ records) ended tells = ((tells-more chan address attempt told frame ended.0 tells.0.0, puts-more chan address stored attempt told frame tells.0.0 tells.0.1), tells.1)
zip-grow_after chan address stored frame attempt [] [] ended tells = absurd tells
zip-grow_after chan address stored frame attempt (next ∷ later) (told ∷ records) ended tells = (tells.0, zip-grow_after chan address stored frame next later records ended.1 tells.1)
zip-grow_after chan address stored frame attempt (next ∷ later) [] ended tells = absurd tells

pub zip-grow : (chan address : ℕ) (stored : ℕ → List ℕ) (frame : Seen) (attempts : List (Cut Seen)) (records : List SessionRecord) →
    AllByRecursion (λ (told : SessionRecord). told.end.0 ≤ frame.at) records → AllZip (TellsPut chan address stored) attempts records → AllZip (TellsPut chan address stored) (grow frame attempts) records
zip-grow chan address stored frame [] records ended tells = tells
zip-grow chan address stored frame (attempt ∷ later) records ended tells = zip-grow_after chan address stored frame attempt later records ended tells

-- what is put elsewhere doesn't matter
pub zip-stored : (chan address seq : ℕ) (old new : ℕ → List ℕ) (attempts : List (Cut Seen)) (records : List SessionRecord) → ((number : ℕ) → number < seq → new number ≡ old number) →
    AllByRecursion (λ (told : SessionRecord). (opened : OpenedAt) → told.opened ≡ Some opened → opened.seq < seq) records → AllZip (TellsPut chan address old) attempts records → AllZip (TellsPut chan address new) attempts records
zip-stored chan address seq old new [] [] same below tells = tt
zip-stored chan address seq old new [] (told ∷ records) same below tells = absurd tells
zip-stored chan address seq old new (attempt ∷ attempts) [] same below tells = absurd tells
zip-stored chan address seq old new (attempt ∷ attempts) (told ∷ records) same below tells =
    ((tells.0.0, λ opened at. same opened.seq (below.0 opened at) ∙ tells.0.1 opened at), zip-stored chan address seq old new attempts records same below.1 tells.1)

-- a number more
pub counts-push : (first number : ℕ) (numbers : List ℕ) → CountsFrom first numbers → number ≡ first + length numbers → CountsFrom first (numbers ++ number ∷ [])
counts-push first number [] counts is = (omega (arith, is), tt)
counts-push first number (x ∷ numbers) counts is = (counts.0, counts-push (first + 1) number numbers counts.1 (omega (arith, is)))
