-- What a reader has given is a front of its log's frames, and stays so while the file does.
use Rattle.std.proofs.Common.{◌≡◌, ◌≢◌, ◌≤◌, ℕ, Bool, Some, true, List, [], ◌++◌, refl, subst, sym, ◌∙◌, ap, append-nil, append_assoc}
use Rattle.std.proofs.lemmas.List.Concat.{flat_map-append}
use Rattle.gw_base.proofs.Lists.{same-some}
use Rattle.gw_depot.specs.Files.{Files}
use Rattle.candump_log.specs.Line.{taken_by}
use Rattle.candump_log.specs.Log.{ended, frames_of, IsTakenLog, Stops, given}
use Rattle.candump_log.specs.Reader.{BeginsWith, GivenAt, GivesFront, StaysGiven, StopsAtNone, TakenSoFar, source_of}
use Rattle.candump_log.specs.Source.{Source}
use Rattle.candump_log.specs.declared.log.LineStop.{LineStop}
use Rattle.candump_log.specs.declared.log.LineStop.TheVariants.{Memory, Refused, Limit}
use Rattle.candump_log.specs.declared.log.LogStop.{LogStop}
use Rattle.candump_log.specs.declared.log.LogStop.TheVariants.{Fault, Line}
use Rattle.candump_log.specs.declared.log.Stamped.{Stamped}
use Rattle.candump_log.specs.declared.reader.LogReader.{LogReader}
use Rattle.candump_log.specs.declared.reader.Stage.{Stage}
use Rattle.candump_log.specs.declared.reader.Stage.TheVariants.{Open, Ended, Stopped}
use Rattle.candump_log.proofs.Cuts.{lines-front, passes-or_taken, stops-or_taken, taken-once}

-- the frames of a log begin with those of its first lines
taken-front : (source : Source) (content front later unread : List ℕ) (count n : ℕ) (frames all : List Stamped) → TakenSoFar source front unread count frames → content ≡ front ++ later →
    IsTakenLog source content n all → (rest : List Stamped) × (all ≡ frames ++ rest)
taken-front source content front later unread count n frames all so_far whole (lines, is, long) =
    let bytes = whole ∙ ap (λ t. t ++ later) so_far.bytes_are ∙ append_assoc (ended so_far.lines) unread later in
    let more = lines-front content so_far.lines lines (unread ++ later) so_far.no_feed bytes is.cut in
    let rest : List Stamped = frames_of source.interface source.fd more.0 in
    (rest, is.frames_are ∙ ap (frames_of source.interface source.fd) more.1 ∙ flat_map-append (λ l. given (taken_by source l)) so_far.lines more.0 ∙ ap (λ t. t ++ rest) (sym so_far.frames_are))

front_at : (stage : Stage) (files : Files) (reader : LogReader) (content : List ℕ) (count : ℕ) (frames all : List Stamped) → GivenAt stage true files reader frames →
    ((stop : LogStop) → stage ≢ Stopped stop) → files (source_of reader).file ≡ Some content → IsTakenLog (source_of reader) content count all →
    (rest : List Stamped) × (all ≡ frames ++ rest) × (stage ≡ Ended → rest ≡ [])
front_at Open files reader content count frames all given going there log =
    let begins : BeginsWith (Some content) given.front = subst (λ h. BeginsWith h given.front) there (given.there refl) in
    let front = taken-front (source_of reader) content given.front begins.0 reader.unread reader.lines count frames all given.so_far begins.1 log in
    (front.0, front.1, λ e. cc)
front_at Ended files reader content count frames all given going there log =
    let same : given.content ≡ content = same-some (given.there refl) there in
    let once = taken-once (source_of reader) content reader.lines count frames all (subst (λ c. IsTakenLog (source_of reader) c reader.lines frames) same given.is_log) log in
    ([], sym once.1 ∙ sym (append-nil frames), λ e. refl)
front_at (Stopped stop) files reader content count frames all given going there log = absurd (going stop refl)

pub gives_front : GivesFront
gives_front files reader content count frames all given going there log =
    let front = front_at reader.stage files reader content count frames all given going there log in
    record { rest = front.0; whole = front.1; at_end = front.2 }

none_stops : (source : Source) (most : ℕ) (content : List ℕ) (count : ℕ) (all : List Stamped) (stop : LineStop) → Stops source most content stop → IsTakenLog source content count all → count ≤ most → stop ≡ Memory
none_stops source most content count all Memory stops log few = refl
none_stops source most content count all (Refused number fault) stops log few = absurd (stops-or_taken source most content number fault count all stops log)
none_stops source most content count all Limit stops log few = absurd (passes-or_taken source most content count all few stops log)

pub stops_at_none : StopsAtNone
stops_at_none files reader content count frames all stop given there log few is =
    let stopped = subst (λ s. GivenAt s true files reader frames) is given refl in
    let same : stopped.content ≡ content = same-some stopped.there there in
    none_stops (source_of reader) reader.most content count all stop (subst (λ c. Stops (source_of reader) reader.most c stop) same stopped.stops) log few

-- while the file has the same bytes, what a reader has given stays said
stays_at : (stage : Stage) (told : Bool) (files files' : Files) (reader : LogReader) (frames : List Stamped) → files' (source_of reader).file ≡ files (source_of reader).file →
    GivenAt stage told files reader frames → GivenAt stage told files' reader frames
stays_at Open told files files' reader frames same given = record {
  front = given.front;
  long = given.long;
  there = λ is. subst (λ h. BeginsWith h given.front) (sym same) (given.there is);
  so_far = given.so_far;
}
stays_at Ended told files files' reader frames same given = record {
  content = given.content;
  there = λ is. same ∙ given.there is;
  is_log = given.is_log;
}
stays_at (Stopped Fault) told files files' reader frames same given = tt
stays_at (Stopped (Line stop)) told files files' reader frames same given = λ is.
    let stopped = given is in
    record { content = stopped.content; there = same ∙ stopped.there; stops = stopped.stops }

pub stays_given : StaysGiven
stays_given told files files' reader frames same given = stays_at reader.stage told files files' reader frames same given
