-- How a log is read on: from what was read of it so far, to its end or to what stops the reading.
use Rattle.std.specs.Prelude.{◌≡◌, ℕ, Bool, Some, Result, Err, List, [], ◌∷◌, ◌++◌}
use Rattle.gw_depot.specs.Fault.{Blame, Rose}
use Rattle.gw_depot.specs.Files.{Files}
use Rattle.gw_depot.specs.declared.outside.CallKind.TheVariants.{Read}
use Rattle.candump_log.specs.Dated.{AreDated}
use Rattle.candump_log.specs.Log.{IsTakenLog, ReadSoFar, ReadsLog, Stops}
use Rattle.candump_log.specs.Source.{Source}
use Rattle.candump_log.specs.declared.log.LineStop.{LineStop}
use Rattle.candump_log.specs.declared.log.Log.{Log}
use Rattle.candump_log.specs.declared.log.LogStop.{LogStop}
use Rattle.candump_log.specs.declared.log.LogStop.TheVariants.{Fault}
use Rattle.candump_log.specs.declared.log.Stamped.{Stamped}
use Rattle.candump_log.specs.declared.so_far.LogSoFar.{LogSoFar}

-- the content is all that was read so far
abbrev pub IsRead : Source → (content : List ℕ) → LogSoFar → Type 0
IsRead source content read = ReadSoFar source content read.piece.items read.lines read.frames

-- with these bytes after it, it is all that is read now
abbrev pub ReadsOn : Source → (added : List ℕ) → (old new : LogSoFar) → Type 0
ReadsOn source added old new = (content : List ℕ) → IsRead source content old → IsRead source (content ++ added) new

-- with this line and its line feed after it, it is all that is read now
abbrev pub ReadsLine : Source → (line : List ℕ) → (old new : LogSoFar) → Type 0
ReadsLine source line old new = (content : List ℕ) → IsRead source content old → IsRead source ((content ++ line) ++ 10 ∷ []) new

-- these bytes after it stop the reading, whatever comes later
abbrev pub StopsIn : Source → (most : ℕ) → (added : List ℕ) → LogSoFar → LineStop → Type 0
StopsIn source most added old stop = (content later : List ℕ) → IsRead source content old → Stops source most (content ++ added ++ later) stop

-- so does a line feed after it
abbrev pub StopsAtFeed : Source → (most : ℕ) → LogSoFar → LineStop → Type 0
StopsAtFeed source most old stop = (content later : List ℕ) → IsRead source content old → Stops source most (content ++ 10 ∷ later) stop

-- so does this line with a line feed
abbrev pub StopsAtLine : Source → (most : ℕ) → (line : List ℕ) → LogSoFar → LineStop → Type 0
StopsAtLine source most line old stop = (content later : List ℕ) → IsRead source content old → Stops source most ((content ++ line) ++ 10 ∷ later) stop

-- and so does its end
abbrev pub StopsAtEnd : Source → (most : ℕ) → LogSoFar → LineStop → Type 0
StopsAtEnd source most old stop = (content : List ℕ) → IsRead source content old → Stops source most content stop

-- it is a whole log of so many lines with these frames
abbrev pub EndsAs : Source → LogSoFar → (count : ℕ) → List Stamped → Type 0
EndsAs source old count frames = (content : List ℕ) → IsRead source content old → IsTakenLog source content count frames

-- and each of its frames has such a stamp
abbrev pub KeepsDated : Source → LogSoFar → List Stamped → Type 0
KeepsDated source old frames = (content : List ℕ) → IsRead source content old → AreDated frames

-- the lines and the frames are those of the log, where the depot tells its contents, and of some log else
abbrev pub IsLogIn : (told : Bool) → Files → Source → Log → Type 0
IsLogIn told files source log = ReadsLog told files source log.lines log.frames

-- where a read failed, the count of faults rose, and the blame is the read's
abbrev pub FaultsReading : {T : Type 0} → Source → (before now : ℕ) → Blame → Result T LogStop → Type 0
FaultsReading source before now blame result = result ≡ Err Fault → Rose before now × (blame ≡ Some (Read, source.file))
