-- A log that isn't read to its end: a line that is refused, or one too many.
use Rattle.std.proofs.Common.{◌≡◌, ◌≢◌, ℕ, ◌+◌, ◌<◌, ◌≤◌, Bool, true, List, [], ◌∷◌, ◌++◌, length, take, drop, refl, subst, sym, ◌∙◌, ap, inl, inr, append_assoc, append-nil, length-append, arith}
use Rattle.std.proofs.Math.Seq.{take-add}
use Rattle.std.proofs.lemmas.List.{take-append-drop}
use Rattle.std.proofs.lemmas.List.Elements.{All-append}
use Rattle.candump_line.specs.declared.fault.LineKind.TheVariants.{TooLong}
use Rattle.gw_depot.specs.Files.{Files, ReadsFile}
use Rattle.candump_log.specs.Source.{Source}
use Rattle.candump_log.specs.declared.log.LineStop.{LineStop}
use Rattle.candump_log.specs.declared.log.LineStop.TheVariants.{Memory, Refused, Limit}
use Rattle.candump_log.specs.declared.log.LogStop.TheVariants.{Line}
use Rattle.candump_log.specs.declared.log.Stamped.{Stamped}
use Rattle.candump_log.specs.Log.{HasNoFeed, IsFeedAt, ended, EndsLine, ReadSoFar, StopsAt, GoesPast, Stops, Refuses, LogStops}
use Rattle.candump_log.proofs.Logs.{ReadFrom}
use Rattle.candump_log.proofs.Stops.{FrontLine, front_line, too_long}
use Rattle.gw_depot.proofs.ReadLemmas.{read_within, take-whole}

regroup : (a b c d e : List ℕ) → ((a ++ b) ++ c) ++ (d ++ e) ≡ a ++ ((b ++ c) ++ d) ++ e
regroup a b c d e = simp append_assoc

-- the line that ends here is refused
pub stops_here : (source : Source) (most : ℕ) (content line tail : List ℕ) (count : ℕ) (frames : List Stamped) (stop : LineStop) →
    ReadSoFar source content line count frames → EndsLine line tail → count < most → Refuses source line count stop → Stops source most (content ++ tail) stop
stops_here source most content line tail count frames Memory so_far ends few refused = tt
stops_here source most content line tail count frames (Refused number fault) so_far ends few refused = record {
  lines = so_far.lines;
  line = line;
  tail = tail;
  bytes = ap (λ t. t ++ tail) so_far.bytes;
  no_feed = so_far.no_feed;
  taken = so_far.taken;
  is_line = so_far.unfinished;
  ends = ends;
  refused = refused.1;
  count = refused.0 ∙ ap (λ n. n + 1) so_far.count_is;
  within = omega (arith, refused.0, few);
}
stops_here source most content line tail count frames Limit so_far ends few refused = absurd refused

-- the line is too long, wherever it ends
pub stops_within : (source : Source) (most : ℕ) (content piece part later : List ℕ) (count : ℕ) (frames : List Stamped) (number : ℕ) →
    ReadSoFar source content piece count frames → 514 ≤ length piece + length part → HasNoFeed part → number ≡ count + 1 → count < most →
    StopsAt source most (content ++ part ++ later) number (record { kind = TooLong; at = 512 })
stops_within source most content piece part later count frames number so_far long none is few =
    let front : FrontLine later = front_line later in
    let line : List ℕ = (piece ++ part) ++ front.line in
    let much : 514 ≤ length line = rw length-append (rw length-append (omega (arith, long))) in
    let some : line ≢ [] = λ empty. let zero : length line ≡ 0 = ap length empty in omega (arith, zero, much) in
    record {
      lines = so_far.lines;
      line = line;
      tail = front.tail;
      bytes = ap (λ t. t ++ part ++ later) so_far.bytes ∙ ap (λ t. ((ended so_far.lines ++ piece) ++ part) ++ t) front.all ∙ regroup (ended so_far.lines) piece part front.line front.tail;
      no_feed = so_far.no_feed;
      taken = so_far.taken;
      is_line = All-append (λ b. b ≢ 10) (piece ++ part) front.line (All-append (λ b. b ≢ 10) piece part so_far.unfinished none) front.is_line;
      ends = elim front.ends [ inl empty ↦ inl (empty, some) | inr feed ↦ inr feed ];
      refused = too_long source line much;
      count = is ∙ ap (λ n. n + 1) so_far.count_is;
      within = omega (arith, is, few);
    }

-- one line too many begins
pub goes_past : (source : Source) (most : ℕ) (content piece bytes : List ℕ) (count : ℕ) (frames : List Stamped) →
    ReadSoFar source content piece count frames → piece ≡ [] → count ≡ most → 0 < length bytes → GoesPast source (content ++ bytes) most
goes_past source most content piece bytes count frames so_far none full some = record {
  lines = so_far.lines;
  rest = bytes;
  bytes = ap (λ t. t ++ bytes) (so_far.bytes ∙ rw none (append-nil (ended so_far.lines)));
  no_feed = so_far.no_feed;
  taken = so_far.taken;
  count = sym so_far.count_is ∙ full;
  further = λ empty. let zero : length bytes ≡ 0 = ap length empty in omega (arith, zero, some);
}

-- what stops in a part of some bytes stops in all of them
pub stops_in_part : (source : Source) (most most' : ℕ) (content bytes later : List ℕ) (front : ℕ) (stop : LineStop) → most' ≡ most →
    Stops source most' (content ++ take front bytes ++ (drop front bytes ++ later)) stop → Stops source most (content ++ bytes ++ later) stop
stops_in_part source most most' content bytes later front stop same_most stops =
    let all : content ++ take front bytes ++ (drop front bytes ++ later) ≡ content ++ bytes ++ later =
    sym (append_assoc (content ++ take front bytes) (drop front bytes) later) ∙ ap (λ t. t ++ later) (append_assoc content (take front bytes) (drop front bytes) ∙ ap (λ t. content ++ t) (take-append-drop front bytes)) in
    subst (λ t. Stops source most t stop) all (rw (← same_most) stops)

-- and so does what stops at their first line feed
pub stops_at_feed : (source : Source) (most most' : ℕ) (content bytes later : List ℕ) (place : ℕ) (stop : LineStop) → most' ≡ most → IsFeedAt bytes place →
    Stops source most' ((content ++ take place bytes) ++ 10 ∷ (drop (place + 1) bytes ++ later)) stop → Stops source most (content ++ bytes ++ later) stop
stops_at_feed source most most' content bytes later place stop same_most at stops =
    let all : (content ++ take place bytes) ++ 10 ∷ (drop (place + 1) bytes ++ later) ≡ content ++ bytes ++ later =
    append_assoc content (take place bytes) (10 ∷ (drop (place + 1) bytes ++ later))
    ∙ ap (λ t. content ++ t) (sym (append_assoc (take place bytes) (10 ∷ drop (place + 1) bytes) later) ∙ ap (λ t. t ++ later) (sym at.feed))
    ∙ sym (append_assoc content bytes later) in
    subst (λ t. Stops source most t stop) all (rw (← same_most) stops)

-- what stops in the rest of some bytes stops in all of them
pub stops_in_rest : (source : Source) (most most' : ℕ) (content bytes rest later : List ℕ) (done : ℕ) (stop : LineStop) → most' ≡ most → rest ≡ drop done bytes →
    Stops source most' ((content ++ take done bytes) ++ rest ++ later) stop → Stops source most (content ++ bytes ++ later) stop
stops_in_rest source most most' content bytes rest later done stop same_most is stops =
    let all : (content ++ take done bytes) ++ rest ++ later ≡ content ++ bytes ++ later =
    ap (λ t. (content ++ take done bytes) ++ t ++ later) is ∙ ap (λ t. t ++ later) (append_assoc content (take done bytes) (drop done bytes) ∙ ap (λ t. content ++ t) (take-append-drop done bytes)) in
    subst (λ t. Stops source most t stop) all (rw (← same_most) stops)

-- what stops at the file's end stops in the whole log
pub stops_at_end : (told : Bool) (files : Files) (source : Source) (most most' taken : ℕ) (piece got : List ℕ) (count : ℕ) (frames : List Stamped) (stop : LineStop) → most' ≡ most →
    ReadFrom told files source taken piece count frames → (told ≡ true → ReadsFile files source.file taken 0 got) →
    ((content : List ℕ) → ReadSoFar source content piece count frames → Stops source most' content stop) → LogStops told files source most (Line stop)
stops_at_end told files source most most' taken piece got count frames stop same_most from reads stops is =
    let read = reads is in
    let whole = from.there is read.content read.there in
    let past : length read.content ≤ taken = read.end.0 refl in
    let all : from.front ≡ read.content = whole.0 ∙ take-whole read.content taken (omega (arith, whole.1)) in
    record {
      content = read.content;
      there = read.there;
      stops = subst (λ t. Stops source most t stop) all (rw (← same_most) (stops from.front from.so_far));
    }

-- and so does what stops in the bytes of one read
pub stops_in_read : (told : Bool) (files : Files) (source : Source) (most most' taken came : ℕ) (piece got : List ℕ) (count : ℕ) (frames : List Stamped) (stop : LineStop) → most' ≡ most →
    ReadFrom told files source taken piece count frames → (told ≡ true → ReadsFile files source.file taken came got) → length got ≡ came →
    ((content later : List ℕ) → ReadSoFar source content piece count frames → Stops source most' (content ++ got ++ later) stop) → LogStops told files source most (Line stop)
stops_in_read told files source most most' taken came piece got count frames stop same_most from reads long stops is =
    let read = reads is in
    let whole = from.there is read.content read.there in
    let next = read_within files source.file got read.content taken came read long read.there whole.1 in
    let front : from.front ++ got ≡ take (taken + came) read.content = rw take-add (rw (← whole.0, ← next.0) refl) in
    let all : from.front ++ got ++ drop (taken + came) read.content ≡ read.content =
    ap (λ t. t ++ drop (taken + came) read.content) front ∙ take-append-drop (taken + came) read.content in
    record {
      content = read.content;
      there = read.there;
      stops = subst (λ t. Stops source most t stop) all (rw (← same_most) (stops from.front (drop (taken + came) read.content) from.so_far));
    }
