-- A reader that goes on: each step, its end, and its stops.
use Rattle.std.proofs.Common.{◌≡◌, ◌≢◌, ◌≤◌, ◌+◌, ℕ, Bool, Option, None, Some, true, List, [], ◌∷◌, ◌++◌, length, take, drop, subst, refl, sym, ◌∙◌, ap, append_assoc, append-nil, length-append, arith}
use Rattle.std.specs.Prelude.{option_to_list}
use Rattle.std.proofs.Math.Seq.{drop-append_seam}
use Rattle.std.proofs.lemmas.List.{take-append-drop}
use Rattle.gw_depot.specs.Files.{Files, ReadsFile}
use Rattle.candump_log.specs.Held.{ReadsMore}
use Rattle.candump_log.specs.Source.{Source}
use Rattle.candump_log.specs.declared.log.LineStop.{LineStop}
use Rattle.candump_log.specs.declared.log.LogStop.TheVariants.{Line}
use Rattle.candump_log.specs.declared.log.Stamped.{Stamped}
use Rattle.candump_log.specs.Log.{IsTakenLog, LogStops, ReadsLog, Stops, ended}
use Rattle.candump_log.specs.Reader.{BeginsWith, IsSameLog, IsUnderway, ReadUpTo, StopsAtEnd, StopsHere, TakenSoFar, TakesLast, TakesWhole, source_of}
use Rattle.candump_log.specs.declared.reader.LogReader.{LogReader}
use Rattle.candump_log.proofs.Given.{more_read, none_taken}

-- nothing was read yet
begins-none : (held : Option (List ℕ)) → BeginsWith held []
begins-none None = refl
begins-none (Some content) = (content, refl)

pub nothing_read : (told : Bool) (held : Option (List ℕ)) (source : Source) → ReadUpTo told held source 0 [] 0 []
nothing_read told held source = record {
  front = [];
  long = refl;
  there = λ is. begins-none held;
  so_far = none_taken source;
}

-- lines were taken
pub taken_more : (told : Bool) (held : Option (List ℕ)) (source : Source) (taken : ℕ) (unread unread' : List ℕ) (count count' : ℕ) (frames frames' : List Stamped) →
    ReadUpTo told held source taken unread count frames →
    ((bytes : List ℕ) (frames : List Stamped) → TakenSoFar source bytes unread count frames → TakenSoFar source bytes unread' count' (frames ++ frames')) →
    ReadUpTo told held source taken unread' count' (frames ++ frames')
taken_more told held source taken unread unread' count count' frames frames' up goes = record {
  front = up.front;
  long = up.long;
  there = up.there;
  so_far = goes up.front frames up.so_far;
}

at_end : (front rest content : List ℕ) (at count : ℕ) → content ≡ front ++ rest → length front ≡ at → count ≡ 0 → length content ≤ at → drop count rest ≡ []
at_end front [] content at count all long zero past = rw zero refl
at_end front (b ∷ rest) content at count all long zero past =
    let size : length content ≡ length front + length (b ∷ rest) = ap length all ∙ length-append front (b ∷ rest) in
    absurd (omega (arith, size, long, past))

-- what is in the file after the front that was read
record Beyond (held : Option (List ℕ)) (front got : List ℕ) (count : ℕ) : Type 0 where
  content : List ℕ
  later : List ℕ
  there : held ≡ Some content
  bytes : content ≡ (front ++ got) ++ later
  end : count ≡ 0 → later ≡ []

beyond : (files : Files) (file front got : List ℕ) (at count : ℕ) → ReadsFile files file at count got → length front ≡ at → length got ≡ count → BeginsWith (files file) front → Beyond (files file) front got count
beyond files file front got at count reads long size begins =
    let known : BeginsWith (Some reads.content) front = subst (λ h. BeginsWith h front) reads.there begins in
    let rest : List ℕ = known.0 in
    let same : drop at reads.content ≡ rest = ap (λ t. drop at t) known.1 ∙ ap (λ n. drop n (front ++ rest)) (sym long) ∙ drop-append_seam front rest in
    let got_is : got ≡ take count rest = reads.bytes ∙ ap (take count) same in
    let all : got ++ drop count rest ≡ rest = ap (λ t. t ++ drop count rest) got_is ∙ take-append-drop count rest in
    record {
      content = reads.content;
      later = drop count rest;
      there = reads.there;
      bytes = known.1 ∙ ap (λ t. front ++ t) (sym all) ∙ sym (append_assoc front got (drop count rest));
      end = λ zero. at_end front rest reads.content at count known.1 long zero (reads.end.0 zero);
    }

begins-known : (held : Option (List ℕ)) (front content later : List ℕ) → held ≡ Some content → content ≡ front ++ later → BeginsWith held front
begins-known held front content later is all = subst (λ h. BeginsWith h front) (sym is) (later, all)

-- more of the file was read
pub read_more : (told : Bool) (files : Files) (source : Source) (taken taken' count lines : ℕ) (unread unread' : List ℕ) (frames : List Stamped) →
    ReadUpTo told (files source.file) source taken unread lines frames → ReadsMore told files source.file taken count unread unread' → taken' ≡ taken + count →
    ReadUpTo told (files source.file) source taken' unread' lines frames
read_more told files source taken taken' count lines unread unread' frames up reads sum = record {
  front = up.front ++ reads.got;
  long = length-append up.front reads.got ∙ rw (up.long, reads.long) (sym sum);
  there = λ is.
      let b = beyond files source.file up.front reads.got taken count (reads.read is) up.long reads.long (up.there is) in
      begins-known (files source.file) (up.front ++ reads.got) b.content b.later b.there b.bytes;
  so_far = subst (λ t. TakenSoFar source (up.front ++ reads.got) t lines frames) (sym reads.added) (more_read source up.front unread reads.got lines frames up.so_far);
}

empty : (xs : List ℕ) → length xs ≡ 0 → xs ≡ []
empty [] zero = refl
empty (x ∷ xs) zero = absurd (omega (arith, zero))

-- at the file's end all of it was read
whole : (told : Bool) (files : Files) (source : Source) (taken lines : ℕ) (unread unread' : List ℕ) (frames : List Stamped) →
    (up : ReadUpTo told (files source.file) source taken unread lines frames) → ReadsMore told files source.file taken 0 unread unread' →
    told ≡ true → files source.file ≡ Some up.front
whole told files source taken lines unread unread' frames up reads is =
    let b = beyond files source.file up.front reads.got taken 0 (reads.read is) up.long reads.long (up.there is) in
    let none : reads.got ≡ [] = empty reads.got reads.long in
    let later : b.later ≡ [] = b.end refl in
    b.there ∙ ap Some (b.bytes ∙ ap (λ t. (up.front ++ reads.got) ++ t) later ∙ append-nil (up.front ++ reads.got) ∙ ap (λ t. up.front ++ t) none ∙ append-nil up.front)

-- nothing more is held then
pub nothing_more : (told : Bool) (files : Files) (file : List ℕ) (taken : ℕ) (old new : List ℕ) → ReadsMore told files file taken 0 old new → new ≡ old
nothing_more told files file taken old new reads = reads.added ∙ rw (empty reads.got reads.long) (append-nil old)

pub log_read : (told : Bool) (files : Files) (source : Source) (taken lines lines' : ℕ) (unread unread' : List ℕ) (frames frames' : List Stamped) →
    ReadUpTo told (files source.file) source taken unread lines frames → ReadsMore told files source.file taken 0 unread unread' →
    ((bytes : List ℕ) (frames : List Stamped) → TakenSoFar source bytes unread lines frames → IsTakenLog source bytes lines' (frames ++ frames')) →
    ReadsLog told files source lines' (frames ++ frames')
log_read told files source taken lines lines' unread unread' frames frames' up reads ends = record {
  content = up.front;
  there = whole told files source taken lines unread unread' frames up reads;
  is_log = ends up.front frames up.so_far;
}

pub stopped_at_end : (told : Bool) (files : Files) (source : Source) (most taken lines : ℕ) (unread unread' : List ℕ) (frames : List Stamped) (stop : LineStop) →
    ReadUpTo told (files source.file) source taken unread lines frames → ReadsMore told files source.file taken 0 unread unread' →
    ((bytes : List ℕ) (frames : List Stamped) → TakenSoFar source bytes unread lines frames → Stops source most bytes stop) →
    LogStops told files source most (Line stop)
stopped_at_end told files source most taken lines unread unread' frames stop up reads stops is = record {
  content = up.front;
  there = whole told files source taken lines unread unread' frames up reads is;
  stops = stops up.front frames up.so_far;
}

-- a front with something in it is that of a file that is there
pub record Known (held : Option (List ℕ)) (front : List ℕ) : Type 0 where
  pub content : List ℕ
  pub later : List ℕ
  pub there : held ≡ Some content
  pub bytes : content ≡ front ++ later

pub known : (held : Option (List ℕ)) (front : List ℕ) → BeginsWith held front → front ≢ [] → Known held front
known None front begins some = absurd (some begins)
known (Some content) front begins some = record { content = content; later = begins.0; there = refl; bytes = begins.1 }

unread_some : (whole unread : List ℕ) → unread ≢ [] → whole ++ unread ≢ []
unread_some [] unread some = some
unread_some (x ∷ whole) unread some = λ e. cc

pub stopped_here : (told : Bool) (files : Files) (source : Source) (most taken lines : ℕ) (unread : List ℕ) (frames : List Stamped) (stop : LineStop) →
    ReadUpTo told (files source.file) source taken unread lines frames → unread ≢ [] →
    ((bytes later : List ℕ) (frames : List Stamped) → TakenSoFar source bytes unread lines frames → Stops source most (bytes ++ later) stop) →
    LogStops told files source most (Line stop)
stopped_here told files source most taken lines unread frames stop up some stops is =
    let front_some : up.front ≢ [] = λ e. unread_some (ended up.so_far.lines) unread some (sym up.so_far.bytes_are ∙ e) in
    let k = known (files source.file) up.front (up.there is) front_some in
    record {
      content = k.content;
      there = k.there;
      stops = subst (λ t. Stops source most t stop) (sym k.bytes) (stops up.front k.later frames up.so_far);
    }

-- ---- the same of readers

pub same_log : (first second third : LogReader) → IsSameLog first second → IsSameLog second third → IsSameLog first third
same_log first second third before after = record { listing = after.listing ∙ before.listing; most = after.most ∙ before.most }

pub same_underway : (told : Bool) (files : Files) (old new : LogReader) (frames : List Stamped) → IsUnderway told files old frames →
    IsSameLog old new → new.taken ≡ old.taken → new.unread ≡ old.unread → new.lines ≡ old.lines → IsUnderway told files new frames
same_underway told files old new frames up same taken unread lines = rw (same.listing, taken, unread, lines) up

-- a line was taken
pub whole_underway : (told : Bool) (files : Files) (old new : LogReader) (frame : Option Stamped) (frames : List Stamped) → IsUnderway told files old frames →
    IsSameLog old new → new.taken ≡ old.taken → TakesWhole old new frame → IsUnderway told files new (frames ++ option_to_list frame)
whole_underway told files old new frame frames up same taken takes =
    rw (same.listing, taken) (taken_more told (files (source_of old).file) (source_of old) old.taken old.unread new.unread old.lines new.lines frames (option_to_list frame) up takes.goes_on)

-- a piece was read
pub read_underway : (told : Bool) (files : Files) (old new : LogReader) (count : ℕ) (frames : List Stamped) → IsUnderway told files old frames →
    IsSameLog old new → new.taken ≡ old.taken + count → new.lines ≡ old.lines → ReadsMore told files (source_of old).file old.taken count old.unread new.unread → IsUnderway told files new frames
read_underway told files old new count frames up same sum lines reads =
    rw (same.listing, lines) (read_more told files (source_of old) old.taken new.taken count old.lines old.unread new.unread frames up reads sum)

-- the log stops before the bytes that aren't taken yet
pub stops_underway : (told : Bool) (files : Files) (first old : LogReader) (stop : LineStop) (frames : List Stamped) → IsUnderway told files old frames →
    IsSameLog first old → StopsHere old stop → LogStops told files (source_of first) first.most (Line stop)
stops_underway told files first old stop frames up same stops =
    rw (← same.listing, ← same.most) (stopped_here told files (source_of old) old.most old.taken old.lines old.unread frames stop up stops.some stops.stops)

-- at the file's end a last line is refused
pub stops_over : (told : Bool) (files : Files) (first old new : LogReader) (stop : LineStop) (frames : List Stamped) → IsUnderway told files old frames →
    IsSameLog first old → IsSameLog old new → new.lines ≡ old.lines → ReadsMore told files (source_of old).file old.taken 0 old.unread new.unread → StopsAtEnd new stop →
    LogStops told files (source_of first) first.most (Line stop)
stops_over told files first old new stop frames up first_same same lines reads stops =
    let unread : new.unread ≡ old.unread = nothing_more told files (source_of old).file old.taken old.unread new.unread reads in
    let here : StopsAtEnd old stop = rw (← same.listing, ← same.most, ← unread, ← lines) stops in
    rw (← first_same.listing, ← first_same.most) (stopped_at_end told files (source_of old) old.most old.taken old.lines old.unread new.unread frames stop up reads here)

-- or the log is over
pub log_over : (told : Bool) (files : Files) (old read new : LogReader) (frame : Option Stamped) (frames : List Stamped) → IsUnderway told files old frames →
    IsSameLog old read → IsSameLog read new → read.lines ≡ old.lines → ReadsMore told files (source_of old).file old.taken 0 old.unread read.unread → TakesLast read new frame →
    ReadsLog told files (source_of new) new.lines (frames ++ option_to_list frame)
log_over told files old read new frame frames up same last_same lines reads takes =
    let unread : read.unread ≡ old.unread = nothing_more told files (source_of old).file old.taken old.unread read.unread reads in
    let ends : (bytes : List ℕ) (frames : List Stamped) → TakenSoFar (source_of old) bytes old.unread old.lines frames → IsTakenLog (source_of old) bytes new.lines (frames ++ option_to_list frame) =
    rw (← same.listing, ← unread, ← lines) takes.ends in
    rw (last_same.listing, same.listing) (log_read told files (source_of old) old.taken old.lines new.lines old.unread read.unread frames (option_to_list frame) up reads ends)
