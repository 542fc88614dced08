-- A reader takes one line after another from the bytes that it read.
use Rattle.std.proofs.Common.{◌≡◌, ◌≢◌, ◌<◌, ◌+◌, ℕ, Option, Ok, is_ok, true, false, ◌==◌, List, [], ◌∷◌, ◌++◌, length, refl, sym, ◌∙◌, ap, inl, inr, append_assoc, append-nil, length-append, arith}
use Rattle.std.specs.Prelude.{option_to_list, IsOk}
use Rattle.std.proofs.lemmas.List.Concat.{flat_map-append}
use Rattle.std.proofs.lemmas.List.Elements.{All-nil, All-push}
use Rattle.candump_log.specs.Source.{Source}
use Rattle.candump_log.specs.declared.log.Stamped.{Stamped}
use Rattle.candump_log.specs.Line.{taken_by}
use Rattle.candump_log.specs.Log.{AreTaken, HasNoFeed, IsTakenLog, ended, frames_of, given}
use Rattle.candump_log.specs.Reader.{TakenSoFar}

pub ended-push : (lines : List (List ℕ)) (line : List ℕ) → ended (lines ++ line ∷ []) ≡ ended lines ++ (line ++ 10 ∷ [])
ended-push lines line = flat_map-append (λ l. l ++ 10 ∷ []) lines (line ∷ []) ∙ ap (λ t. ended lines ++ t) (append-nil (line ++ 10 ∷ []))

pub taken-push : (source : Source) (lines : List (List ℕ)) (line : List ℕ) (frame : Option Stamped) →
    AreTaken source.interface source.fd lines → taken_by source line ≡ Ok frame → AreTaken source.interface source.fd (lines ++ line ∷ [])
taken-push source lines line frame taken is = All-push (λ l. IsOk (taken_by source l)) lines line taken (ap is_ok is)

pub frames-push : (source : Source) (lines : List (List ℕ)) (line : List ℕ) (frame : Option Stamped) → taken_by source line ≡ Ok frame →
    frames_of source.interface source.fd (lines ++ line ∷ []) ≡ frames_of source.interface source.fd lines ++ option_to_list frame
frames-push source lines line frame is =
    flat_map-append (λ l. given (taken_by source l)) lines (line ∷ [])
    ∙ ap (λ t. frames_of source.interface source.fd lines ++ t) (append-nil (given (taken_by source line)) ∙ ap given is)

pub count-push : (lines : List (List ℕ)) (line : List ℕ) (count : ℕ) → count ≡ length lines → count + 1 ≡ length (lines ++ line ∷ [])
count-push lines line count is = rw length-append (omega (arith, is))

-- nothing was taken yet
pub none_taken : (source : Source) → TakenSoFar source [] [] 0 []
none_taken source = record {
  lines = [];
  bytes_are = refl;
  no_feed = All-nil HasNoFeed;
  taken = All-nil (λ line. IsOk (taken_by source line));
  frames_are = refl;
  count_is = refl;
}

-- the line at the front is taken, and its line feed
pub line_taken : (source : Source) (bytes unread line rest : List ℕ) (count : ℕ) (frames : List Stamped) (frame : Option Stamped) →
    TakenSoFar source bytes unread count frames → unread ≡ line ++ 10 ∷ rest → HasNoFeed line → taken_by source line ≡ Ok frame →
    TakenSoFar source bytes rest (count + 1) (frames ++ option_to_list frame)
line_taken source bytes unread line rest count frames frame so_far is none taken = record {
  lines = so_far.lines ++ line ∷ [];
  bytes_are =
      so_far.bytes_are ∙ ap (λ t. ended so_far.lines ++ t) (is ∙ sym (append_assoc line (10 ∷ []) rest))
      ∙ sym (append_assoc (ended so_far.lines) (line ++ 10 ∷ []) rest) ∙ ap (λ t. t ++ rest) (sym (ended-push so_far.lines line));
  no_feed = All-push HasNoFeed so_far.lines line so_far.no_feed none;
  taken = taken-push source so_far.lines line frame so_far.taken taken;
  frames_are = ap (λ t. t ++ option_to_list frame) so_far.frames_are ∙ sym (frames-push source so_far.lines line frame taken);
  count_is = count-push so_far.lines line count so_far.count_is;
}

-- more bytes are read
pub more_read : (source : Source) (bytes unread got : List ℕ) (count : ℕ) (frames : List Stamped) →
    TakenSoFar source bytes unread count frames → TakenSoFar source (bytes ++ got) (unread ++ got) count frames
more_read source bytes unread got count frames so_far = record {
  lines = so_far.lines;
  bytes_are = ap (λ t. t ++ got) so_far.bytes_are ∙ append_assoc (ended so_far.lines) unread got;
  no_feed = so_far.no_feed;
  taken = so_far.taken;
  frames_are = so_far.frames_are;
  count_is = so_far.count_is;
}

-- the end of the file ends the log after a line feed
pub log_over : (source : Source) (bytes unread : List ℕ) (count : ℕ) (frames : List Stamped) →
    TakenSoFar source bytes unread count frames → unread ≡ [] → IsTakenLog source bytes count frames
log_over source bytes unread count frames so_far none = (
  so_far.lines,
  record {
    cut = record { cut = inl (so_far.bytes_are ∙ rw none (append-nil (ended so_far.lines))); no_feed = so_far.no_feed };
    taken = so_far.taken;
    frames_are = so_far.frames_are;
  },
  so_far.count_is,
)

-- and it ends a last line that has none
pub last_taken : (source : Source) (bytes line : List ℕ) (count : ℕ) (frames : List Stamped) (frame : Option Stamped) →
    TakenSoFar source bytes line count frames → line ≢ [] → HasNoFeed line → taken_by source line ≡ Ok frame →
    IsTakenLog source bytes (count + 1) (frames ++ option_to_list frame)
last_taken source bytes line count frames frame so_far some none taken = (
  so_far.lines ++ line ∷ [],
  record {
    cut = record {
      cut = inr (record { front = so_far.lines; last = line; all = refl; some = some; bytes = so_far.bytes_are });
      no_feed = All-push HasNoFeed so_far.lines line so_far.no_feed none;
    };
    taken = taken-push source so_far.lines line frame so_far.taken taken;
    frames_are = ap (λ t. t ++ option_to_list frame) so_far.frames_are ∙ sym (frames-push source so_far.lines line frame taken);
  },
  count-push so_far.lines line count so_far.count_is,
)

pub not_empty : (xs : List ℕ) → false ≡ (length xs == 0) → xs ≢ []
not_empty xs some none = let clash : false ≡ true = rw none at some in cc

pub holds_some : (xs : List ℕ) → xs ≢ [] → 0 < length xs
holds_some [] some = absurd (some refl)
holds_some (x ∷ xs) some = omega arith
