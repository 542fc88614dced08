-- A log that is read in pieces, and cut at each line feed.
use Rattle.std.proofs.Common.{◌≡◌, ◌≢◌, ◌≤◌, ℕ, Bool, Option, None, Some, drop, take, ◌+◌, ◌<◌, length-append, true, false, ◌==◌, List, [], ◌∷◌, ◌++◌, length, subst, refl, sym, ◌∙◌, ap, inl, inr, append_assoc, append-nil, arith}
use Rattle.std.specs.Prelude.{IfSome, option_to_list}
use Rattle.std.specs.List.{All}
use Rattle.std.proofs.Math.Seq.{take-add}
use Rattle.std.proofs.lemmas.List.Elements.{All-append, All-cons, All-nil, All-push}
use Rattle.gw_depot.specs.Files.{Files, ReadsFile}
use Rattle.candump_log.specs.Source.{Source}
use Rattle.candump_log.specs.declared.log.Stamped.{Stamped}
use Rattle.candump_log.specs.Dated.{AreDated, IsDated}
use Rattle.candump_log.specs.Log.{AddsLine, HasNoFeed, IsTakenLog, IsFeedAt, ReadSoFar, ReadsLog, ended}
use Rattle.candump_log.proofs.Given.{count-push, ended-push, frames-push, taken-push}
use Rattle.candump_log.proofs.LineFeeds.{feed_taken}
use Rattle.gw_depot.proofs.ReadLemmas.{take-whole, read_within}

dated-option : (frame : Option Stamped) → IfSome frame IsDated → AreDated (option_to_list frame)
dated-option None dated = All-nil IsDated
dated-option (Some s) dated = All-cons IsDated s [] dated (All-nil IsDated)

-- the stamps stay below 2^32 seconds
pub dated-push : (source : Source) (line : List ℕ) (old new : List Stamped) → AreDated old → AddsLine source line old new → AreDated new
dated-push source line old new dated adds =
    subst (All IsDated) (sym adds.added) (All-append IsDated old (option_to_list adds.frame) dated (dated-option adds.frame adds.dated))

-- bytes of a line are kept
pub part_kept : (source : Source) (content piece part : List ℕ) (count : ℕ) (frames : List Stamped) →
    ReadSoFar source content piece count frames → HasNoFeed part → ReadSoFar source (content ++ part) (piece ++ part) count frames
part_kept source content piece part count frames so_far none = record {
  lines = so_far.lines;
  bytes = ap (λ t. t ++ part) so_far.bytes ∙ append_assoc (ended so_far.lines) piece part;
  no_feed = so_far.no_feed;
  unfinished = All-append (λ b. b ≢ 10) piece part so_far.unfinished none;
  taken = so_far.taken;
  frames_are = so_far.frames_are;
  count_is = so_far.count_is;
  dated = so_far.dated;
}

-- as far as the first line feed: a part of the line, and its end
pub part_ended : (source : Source) (content bytes piece : List ℕ) (place count : ℕ) (frames : List Stamped) → IsFeedAt bytes place →
    ReadSoFar source ((content ++ take place bytes) ++ 10 ∷ []) piece count frames → ReadSoFar source (content ++ take (place + 1) bytes) piece count frames
part_ended source content bytes piece place count frames at so_far =
    subst (λ t. ReadSoFar source t piece count frames) (append_assoc content (take place bytes) (10 ∷ []) ∙ ap (λ t. content ++ t) (sym (feed_taken bytes place at))) so_far

-- a part more of some bytes
pub part_more : (source : Source) (content bytes rest piece : List ℕ) (done more count : ℕ) (frames : List Stamped) → rest ≡ drop done bytes →
    ReadSoFar source ((content ++ take done bytes) ++ take more rest) piece count frames → ReadSoFar source (content ++ take (done + more) bytes) piece count frames
part_more source content bytes rest piece done more count frames is so_far =
    let all : (content ++ take done bytes) ++ take more rest ≡ content ++ take (done + more) bytes =
    append_assoc content (take done bytes) (take more rest) ∙ ap (λ t. content ++ t) (ap (λ t. take done bytes ++ take more t) is ∙ sym (take-add done more bytes)) in
    subst (λ t. ReadSoFar source t piece count frames) all so_far

-- a line feed ends the line
pub line_ended : (source : Source) (content line : List ℕ) (count : ℕ) (old new : List Stamped) →
    ReadSoFar source content line count old → AddsLine source line old new → ReadSoFar source (content ++ 10 ∷ []) [] (count + 1) new
line_ended source content line count old new so_far adds = record {
  lines = so_far.lines ++ line ∷ [];
  bytes = ap (λ t. t ++ 10 ∷ []) so_far.bytes ∙ append_assoc (ended so_far.lines) line (10 ∷ []) ∙ sym (ended-push so_far.lines line) ∙ sym (append-nil (ended (so_far.lines ++ line ∷ [])));
  no_feed = All-push HasNoFeed so_far.lines line so_far.no_feed so_far.unfinished;
  unfinished = All-nil (λ b. b ≢ 10);
  taken = taken-push source so_far.lines line adds.frame so_far.taken adds.taken;
  frames_are = adds.added ∙ ap (λ t. t ++ option_to_list adds.frame) so_far.frames_are ∙ sym (frames-push source so_far.lines line adds.frame adds.taken);
  count_is = count-push so_far.lines line count so_far.count_is;
  dated = dated-push source line old new so_far.dated adds;
}

-- a line of which nothing was read yet is read whole, without its line feed
pub line_begun : (source : Source) (content piece line : List ℕ) (count : ℕ) (frames : List Stamped) →
    ReadSoFar source content piece count frames → piece ≡ [] → HasNoFeed line → ReadSoFar source (content ++ line) line count frames
line_begun source content piece line count frames so_far none no_feed =
    subst (λ t. ReadSoFar source (content ++ line) t count frames) (ap (λ t. t ++ line) none) (part_kept source content piece line count frames so_far no_feed)

-- and then with it
pub line_read : (source : Source) (content piece line : List ℕ) (count : ℕ) (old new : List Stamped) →
    ReadSoFar source content piece count old → piece ≡ [] → HasNoFeed line → AddsLine source line old new → ReadSoFar source ((content ++ line) ++ 10 ∷ []) piece (count + 1) new
line_read source content piece line count old new so_far none no_feed adds =
    subst (λ t. ReadSoFar source ((content ++ line) ++ 10 ∷ []) t (count + 1) new) (sym none)
    (line_ended source (content ++ line) line count old new (line_begun source content piece line count old so_far none no_feed) adds)

-- the end of the file ends the log after a line feed
pub log_ended : (source : Source) (content piece : List ℕ) (count : ℕ) (frames : List Stamped) →
    ReadSoFar source content piece count frames → piece ≡ [] → IsTakenLog source content count frames
log_ended source content piece count frames so_far none = (
  so_far.lines,
  record {
    cut = record { cut = inl (so_far.bytes ∙ rw none (append-nil (ended so_far.lines))); no_feed = so_far.no_feed };
    taken = so_far.taken;
    frames_are = so_far.frames_are;
  },
  so_far.count_is,
)

pub holds_some : (xs : List ℕ) → false ≡ (length xs == 0) → 0 < length xs
holds_some [] some = let clash : false ≡ true = some in cc
holds_some (x ∷ xs) some = omega arith

-- and it ends a last line that has none
pub last_line_ended : (source : Source) (content line : List ℕ) (count : ℕ) (old new : List Stamped) →
    ReadSoFar source content line count old → line ≢ [] → AddsLine source line old new → IsTakenLog source content (count + 1) new
last_line_ended source content line count old new so_far some adds = (
  so_far.lines ++ line ∷ [],
  record {
    cut = record {
      cut = inr (record { front = so_far.lines; last = line; all = refl; some = some; bytes = so_far.bytes });
      no_feed = All-push HasNoFeed so_far.lines line so_far.no_feed so_far.unfinished;
    };
    taken = taken-push source so_far.lines line adds.frame so_far.taken adds.taken;
    frames_are = adds.added ∙ ap (λ t. t ++ option_to_list adds.frame) so_far.frames_are ∙ sym (frames-push source so_far.lines line adds.frame adds.taken);
  },
  count-push so_far.lines line count so_far.count_is,
)

-- what was read so far is the front of the log, where the depot tells its contents
pub record ReadFrom (told : Bool) (files : Files) (source : Source) (taken : ℕ) (piece : List ℕ) (count : ℕ) (frames : List Stamped) : Type 0 where
  pub front : List ℕ
  pub long : length front ≡ taken
  pub there : told ≡ true → (content : List ℕ) → files source.file ≡ Some content → (front ≡ take taken content) × (taken ≤ length content)
  pub so_far : ReadSoFar source front piece count frames

-- at the file's end, all of it was read
pub read_to_end : (told : Bool) (files : Files) (source : Source) (taken : ℕ) (piece got : List ℕ) (count count' : ℕ) (frames new : List Stamped) →
    ReadFrom told files source taken piece count frames → (told ≡ true → ReadsFile files source.file taken 0 got) →
    ((content : List ℕ) → ReadSoFar source content piece count frames → IsTakenLog source content count' new) → ReadsLog told files source count' new
read_to_end told files source taken piece got count count' frames new from reads ends = record {
  content = from.front;
  there = λ is.
      let read = reads is in
      let whole = from.there is read.content read.there in
      let past : length read.content ≤ taken = read.end.0 refl in
      read.there ∙ ap Some (sym (whole.0 ∙ take-whole read.content taken (omega (arith, whole.1))));
  is_log = ends from.front from.so_far;
}

-- a read adds the next bytes of the file
pub read_more : (told : Bool) (files : Files) (source : Source) (taken taken' came : ℕ) (got piece piece' : List ℕ) (count count' : ℕ) (frames frames' : List Stamped) →
    ReadFrom told files source taken piece count frames → (told ≡ true → ReadsFile files source.file taken came got) → length got ≡ came → taken' ≡ taken + length got →
    ((content : List ℕ) → ReadSoFar source content piece count frames → ReadSoFar source (content ++ got) piece' count' frames') → ReadFrom told files source taken' piece' count' frames'
read_more told files source taken taken' came got piece piece' count count' frames frames' from reads long more goes_on = record {
  front = from.front ++ got;
  long = length-append from.front got ∙ rw from.long (sym more);
  there = λ is content there.
      let whole = from.there is content there in
      let next = read_within files source.file got content taken came (reads is) long there whole.1 in
      let sum : taken' ≡ taken + came = more ∙ ap (λ n. taken + n) long in
      rw sum (rw take-add (rw (← whole.0, ← next.0) refl), next.1);
  so_far = goes_on from.front from.so_far;
}
