-- A reader of a log, which gives its frames one after another: what it has given, and how its reading ends.
use Rattle.std.specs.Prelude.{◌≡◌, ◌≢◌, ℕ, ◌+◌, ◌<◌, ◌≤◌, Bool, true, Option, None, Some, IfSome, option_to_list, Result, Ok, Err, List, [], ◌++◌, All, length}
use Rattle.gw_depot.specs.Files.{Files}
use Rattle.gw_depot.specs.Outside.{DepotState}
use Rattle.candump_log.specs.Dated.{IsDated}
use Rattle.candump_log.specs.Log.{AreTaken, HasNoFeed, IsTakenLog, LogStops, ReadsLog, Stops, ended, frames_of}
use Rattle.candump_log.specs.Reading.{FaultsReading}
use Rattle.candump_log.specs.Source.{Source}
use Rattle.candump_log.specs.declared.listing.Listing.{Listing}
use Rattle.candump_log.specs.declared.log.LineStop.{LineStop}
use Rattle.candump_log.specs.declared.log.LineStop.TheVariants.{Memory}
use Rattle.candump_log.specs.declared.log.LogStop.{LogStop}
use Rattle.candump_log.specs.declared.log.LogStop.TheVariants.{Line}
use Rattle.candump_log.specs.declared.log.Stamped.{Stamped}
use Rattle.candump_log.specs.declared.reader.Front.{Front}
use Rattle.candump_log.specs.declared.reader.Front.TheVariants.{Whole, Unended}
use Rattle.candump_log.specs.declared.reader.LogReader.{LogReader}
use Rattle.candump_log.specs.declared.reader.Stage.{Stage}
use Rattle.candump_log.specs.declared.reader.Stage.TheVariants.{Open, Ended, Stopped}

-- where the log is read from, and which frames its bus has
abbrev pub source_in : Listing → Source
source_in listing = record { interface = listing.interface.now; file = listing.file.now; fd = listing.fd }

-- where a reader's log is read from
abbrev pub source_of : LogReader → Source
source_of reader = source_in reader.listing

-- the most lines that its log may have
abbrev pub most_of : LogReader → ℕ
most_of reader = reader.most

-- how many lines of the log it has taken
abbrev pub lines_of : LogReader → ℕ
lines_of reader = reader.lines

-- ---- what it has given

-- the bytes are so many whole lines, all of them taken, which give these frames, and after them bytes that aren't taken yet
pub record TakenSoFar (source : Source) (bytes unread : List ℕ) (count : ℕ) (frames : List Stamped) : Type 0 where
  pub lines : List (List ℕ)
  pub bytes_are : bytes ≡ ended lines ++ unread
  pub no_feed : All HasNoFeed lines
  pub taken : AreTaken source.interface source.fd lines
  pub frames_are : frames ≡ frames_of source.interface source.fd lines
  pub count_is : count ≡ length lines

-- the file begins with these bytes; nothing was read of one that isn't there
abbrev pub BeginsWith : Option (List ℕ) → List ℕ → Type 0
BeginsWith None front = front ≡ []
BeginsWith (Some content) front = (later : List ℕ) × (content ≡ front ++ later)

-- the front of a file was read, where the depot tells its contents, and some bytes else: whole lines, all of them taken, with
-- these frames, and bytes that aren't taken yet
pub record ReadUpTo (told : Bool) (file : Option (List ℕ)) (source : Source) (read : ℕ) (unread : List ℕ) (count : ℕ) (frames : List Stamped) : Type 0 where
  pub front : List ℕ
  pub long : length front ≡ read
  pub there : told ≡ true → BeginsWith file front
  pub so_far : TakenSoFar source front unread count frames

-- a reader that goes on has given the frames of the lines that it took
abbrev pub IsUnderway : (told : Bool) → Files → LogReader → List Stamped → Type 0
IsUnderway told files reader frames = ReadUpTo told (files (source_of reader).file) (source_of reader) reader.taken reader.unread reader.lines frames

-- what is known of the log at each stage of its reading
abbrev pub GivenAt : Stage → (told : Bool) → Files → LogReader → List Stamped → Type 0
GivenAt Open told files reader frames = IsUnderway told files reader frames
GivenAt Ended told files reader frames = ReadsLog told files (source_of reader) reader.lines frames
GivenAt (Stopped stop) told files reader frames = LogStops told files (source_of reader) reader.most stop

-- the reader has given these frames. While it goes on they are those of the lines that it took; at its end they are the log's;
-- once it is stopped, the log stops there. Where the depot tells its contents that log is the file's
abbrev pub HasGiven : (told : Bool) → Files → LogReader → List Stamped → Type 0
HasGiven told files reader frames = GivenAt reader.stage told files reader frames

-- the frame of an answer
abbrev pub given_by : {E : Type 0} → Result (Option Stamped) E → List Stamped
given_by (Ok found) = option_to_list found
given_by (Err stop) = []

-- ---- its answers

-- it has met the end of its log, and has given all of its frames
abbrev pub IsAtEnd : LogReader → Type 0
IsAtEnd reader = reader.stage ≡ Ended

-- its log stopped, for this cause
abbrev pub IsStopped : LogReader → LogStop → Type 0
IsStopped reader stop = reader.stage ≡ Stopped stop

-- it hasn't stopped
abbrev pub IsGoingOn : LogReader → Type 0
IsGoingOn reader = (stop : LogStop) → reader.stage ≢ Stopped stop

-- a frame has a stamp that a log can have, and its line is a further one; without a frame the log is at its end
abbrev pub FitsAnswer : (old new : LogReader) → Option Stamped → Type 0
FitsAnswer old new None = (lines_of old ≤ lines_of new) × IsAtEnd new
FitsAnswer old new (Some stamped) = (lines_of old < lines_of new) × IsDated stamped

-- it has taken as many lines, and is at the same stage
pub record IsUnchanged (old new : LogReader) : Type 0 where
  pub lines : lines_of new ≡ lines_of old
  pub stage : new.stage ≡ old.stage

-- a reader at its end, and one that was stopped, answers as before; neither it nor the depot changes
pub record StaysOver (old new : LogReader) (before after : DepotState) (result : Result (Option Stamped) LogStop) : Type 0 where
  pub at_end : IsAtEnd old → (result ≡ Ok None) × IsUnchanged old new × (after ≡ before)
  pub stopped : (stop : LogStop) → IsStopped old stop → (result ≡ Err stop) × IsUnchanged old new × (after ≡ before)

-- a read that failed, in a call of a reader that wasn't stopped, raised the count of faults, and the blame is the read's
abbrev pub HasReadCause : {T : Type 0} → LogReader → (before after : DepotState) → Result T LogStop → Type 0
HasReadCause old before after result = IsGoingOn old → FaultsReading (source_of old) before.faults after.faults after.blame result

-- with the frame of the answer, where there is one, the reader has given these frames
abbrev pub GivesNext : {E : Type 0} → (told : Bool) → Files → (old new : LogReader) → Result (Option Stamped) E → Type 0
GivesNext told files old new result = (frames : List Stamped) → HasGiven told files old frames → HasGiven told files new (frames ++ given_by result)

-- the frames begin with those that the reader has given, and are just these at its end
pub record BeginsWithGiven (reader : LogReader) (frames all : List Stamped) : Type 0 where
  pub rest : List Stamped
  pub whole : all ≡ frames ++ rest
  pub at_end : IsAtEnd reader → rest ≡ []

-- over a depot that tells its contents: where the file is a log of some frames, a reader that isn't stopped has given a front of them,
-- and all of them at its end
abbrev pub GivesFront : Type 0
GivesFront = (files : Files) (reader : LogReader) (content : List ℕ) (count : ℕ) (frames all : List Stamped) → HasGiven true files reader frames → IsGoingOn reader →
    files (source_of reader).file ≡ Some content → IsTakenLog (source_of reader) content count all → BeginsWithGiven reader frames all

-- and no line of it stops a reader, where it may have as many
abbrev pub StopsAtNone : Type 0
StopsAtNone = (files : Files) (reader : LogReader) (content : List ℕ) (count : ℕ) (frames all : List Stamped) (stop : LineStop) → HasGiven true files reader frames →
    files (source_of reader).file ≡ Some content → IsTakenLog (source_of reader) content count all → count ≤ most_of reader → IsStopped reader (Line stop) → stop ≡ Memory

-- what a reader has given stays said over other calls of the depot, and where the file has the same bytes
abbrev pub StaysGiven : Type 0
StaysGiven = (told : Bool) (before after : Files) (reader : LogReader) (frames : List Stamped) → after (source_of reader).file ≡ before (source_of reader).file →
    HasGiven told before reader frames → HasGiven told after reader frames

-- ---- its steps

-- it is the same log's, with as many lines at most
pub record IsSameLog (old new : LogReader) : Type 0 where
  pub listing : new.listing ≡ old.listing
  pub most : new.most ≡ old.most

-- the line at the front is taken, and gives this frame or none
pub record TakesWhole (old new : LogReader) (frame : Option Stamped) : Type 0 where
  pub count : new.lines ≡ old.lines + 1
  pub dated : IfSome frame IsDated
  pub goes_on : (bytes : List ℕ) (frames : List Stamped) → TakenSoFar (source_of old) bytes old.unread old.lines frames →
      TakenSoFar (source_of old) bytes new.unread new.lines (frames ++ option_to_list frame)

-- no line feed is among the bytes that aren't taken yet, which may still be of one line
pub record LeavesUnended (reader : LogReader) : Type 0 where
  pub no_feed : HasNoFeed reader.unread
  pub short : length reader.unread ≤ 513
  pub within : reader.unread ≢ [] → reader.lines < reader.most

-- what stands at the front of the bytes that aren't taken yet
abbrev pub TakesFront : (old new : LogReader) → Front → Type 0
TakesFront old new (Whole frame) = TakesWhole old new frame
TakesFront old new Unended = (new.lines ≡ old.lines) × (new.unread ≡ old.unread) × LeavesUnended new

-- the bytes that aren't taken yet stop the reading, whatever comes later
pub record StopsHere (old : LogReader) (stop : LineStop) : Type 0 where
  pub some : old.unread ≢ []
  pub stops : (bytes later : List ℕ) (frames : List Stamped) → TakenSoFar (source_of old) bytes old.unread old.lines frames → Stops (source_of old) old.most (bytes ++ later) stop

-- at the file's end the log is over: the last line is taken, where there is one
pub record TakesLast (old new : LogReader) (frame : Option Stamped) : Type 0 where
  pub ends : (bytes : List ℕ) (frames : List Stamped) → TakenSoFar (source_of old) bytes old.unread old.lines frames →
      IsTakenLog (source_of old) bytes new.lines (frames ++ option_to_list frame)

-- the file's end stops the reading
abbrev pub StopsAtEnd : LogReader → LineStop → Type 0
StopsAtEnd old stop = (bytes : List ℕ) (frames : List Stamped) → TakenSoFar (source_of old) bytes old.unread old.lines frames → Stops (source_of old) old.most bytes stop

-- from a reader that goes on, with the frame that was found
abbrev pub GivesOn : (told : Bool) → Files → (old new : LogReader) → Option Stamped → Type 0
GivesOn told files old new found = (frames : List Stamped) → IsUnderway told files old frames → HasGiven told files new (frames ++ option_to_list found)

-- the log of a reader that goes on stops there
abbrev pub StopsOn : (told : Bool) → Files → LogReader → LogStop → Type 0
StopsOn told files old stop = (frames : List Stamped) → IsUnderway told files old frames → LogStops told files (source_of old) old.most stop
