-- A log: bytes that are cut at each line feed, and the frames that the lines give (this project's own, after candump's log format).
use Rattle.std.specs.Prelude.{◌≡◌, ◌≢◌, ◌⊎◌, ℕ, ◌+◌, ◌<◌, ◌≤◌, Bool, true, Option, Some, IfSome, option_to_list, Result, Ok, Err, IsOk, List, [], ◌∷◌, ◌++◌, All, flat_map, length, take, drop}
use Rattle.candump_line.specs.declared.fault.LineFault.{LineFault}
use Rattle.candump_log.specs.Source.{Source}
use Rattle.candump_log.specs.declared.log.Stamped.{Stamped}
use Rattle.candump_log.specs.declared.log.LineStop.{LineStop}
use Rattle.candump_log.specs.declared.log.LineStop.TheVariants.{Memory, Refused, Limit}
use Rattle.candump_log.specs.declared.log.LogStop.{LogStop}
use Rattle.candump_log.specs.declared.log.LogStop.TheVariants.{Fault, Line}
use Rattle.gw_depot.specs.Files.{Files}
use Rattle.candump_log.specs.Dated.{AreDated, IsDated}
use Rattle.candump_log.specs.Line.{line_taken, taken_by}

-- no line feed is among the bytes
abbrev pub HasNoFeed : List ℕ → Type 0
HasNoFeed bytes = All (λ b. b ≢ 10) bytes

-- lines, each with the line feed that ends it
abbrev pub ended : List (List ℕ) → List ℕ
ended lines = flat_map (λ line. line ++ 10 ∷ []) lines

-- at that place stands the first line feed
pub record IsFeedAt (bytes : List ℕ) (place : ℕ) : Type 0 where
  pub inside : place < length bytes
  pub line : HasNoFeed (take place bytes)
  pub feed : bytes ≡ take place bytes ++ 10 ∷ drop (place + 1) bytes

-- after the line stands its line feed; or nothing, and then it isn't empty
abbrev pub EndsLine : (line tail : List ℕ) → Type 0
EndsLine line tail = ((tail ≡ []) × (line ≢ [])) ⊎ ((later : List ℕ) × (tail ≡ 10 ∷ later))

-- the last line has no line feed, and isn't empty
pub record EndsWithin (content : List ℕ) (lines : List (List ℕ)) : Type 0 where
  pub front : List (List ℕ)
  pub last : List ℕ
  pub all : lines ≡ front ++ last ∷ []
  pub some : last ≢ []
  pub bytes : content ≡ ended front ++ last

-- the content, cut at each line feed, is these lines
pub record IsCut (content : List ℕ) (lines : List (List ℕ)) : Type 0 where
  pub cut : (content ≡ ended lines) ⊎ EndsWithin content lines
  pub no_feed : All HasNoFeed lines

-- the frame that a line gives, where it is taken
abbrev pub given : Result (Option Stamped) LineFault → List Stamped
given (Ok frame) = option_to_list frame
given (Err fault) = []

-- each line is taken
abbrev pub AreTaken : (interface : List ℕ) → (fd : Bool) → List (List ℕ) → Type 0
AreTaken interface fd lines = All (λ line. IsOk (line_taken interface fd line)) lines

-- the frames that lines give, in their order
abbrev pub frames_of : (interface : List ℕ) → (fd : Bool) → List (List ℕ) → List Stamped
frames_of interface fd lines = flat_map (λ line. given (line_taken interface fd line)) lines

-- the content is a log of these frames: cut at each line feed it is lines that are taken, and they give the frames
pub record IsLog (interface : List ℕ) (fd : Bool) (content : List ℕ) (lines : List (List ℕ)) (frames : List Stamped) : Type 0 where
  pub cut : IsCut content lines
  pub taken : AreTaken interface fd lines
  pub frames_are : frames ≡ frames_of interface fd lines

-- the content is a log of so many lines, all of them taken, with these frames
abbrev pub IsTakenLog : Source → (content : List ℕ) → (count : ℕ) → List Stamped → Type 0
IsTakenLog source content count frames = (lines : List (List ℕ)) × IsLog source.interface source.fd content lines frames × (count ≡ length lines)

-- what was read so far is so many lines, with these frames, and a piece of the next line
pub record ReadSoFar (source : Source) (content piece : List ℕ) (count : ℕ) (frames : List Stamped) : Type 0 where
  pub lines : List (List ℕ)
  pub bytes : content ≡ ended lines ++ piece
  pub no_feed : All HasNoFeed lines
  pub unfinished : HasNoFeed piece
  pub taken : AreTaken source.interface source.fd lines
  pub frames_are : frames ≡ frames_of source.interface source.fd lines
  pub count_is : count ≡ length lines
  pub dated : AreDated frames

-- the frames are those of the log, which has so many lines, where the depot tells its contents, and of some log else
pub record ReadsLog (told : Bool) (files : Files) (source : Source) (count : ℕ) (frames : List Stamped) : Type 0 where
  pub content : List ℕ
  pub there : told ≡ true → files source.file ≡ Some content
  pub is_log : IsTakenLog source content count frames

-- after lines that are taken stands one that is refused, among so many; it is the line with this number, counted from 1
pub record StopsAt (source : Source) (most : ℕ) (content : List ℕ) (number : ℕ) (fault : LineFault) : Type 0 where
  pub lines : List (List ℕ)
  pub line : List ℕ
  pub tail : List ℕ
  pub bytes : content ≡ ended lines ++ line ++ tail
  pub no_feed : All HasNoFeed lines
  pub taken : AreTaken source.interface source.fd lines
  pub is_line : HasNoFeed line
  pub ends : EndsLine line tail
  pub refused : taken_by source line ≡ Err fault
  pub count : number ≡ length lines + 1
  pub within : number ≤ most

-- after so many lines, all of them taken, a further one begins
pub record GoesPast (source : Source) (content : List ℕ) (most : ℕ) : Type 0 where
  pub lines : List (List ℕ)
  pub rest : List ℕ
  pub bytes : content ≡ ended lines ++ rest
  pub no_feed : All HasNoFeed lines
  pub taken : AreTaken source.interface source.fd lines
  pub count : length lines ≡ most
  pub further : rest ≢ []

-- why the content isn't read to its end; want of memory has no cause in it
abbrev pub Stops : Source → (most : ℕ) → (content : List ℕ) → LineStop → Type 0
Stops source most content Memory = Unit {0}
Stops source most content (Refused number fault) = StopsAt source most content number fault
Stops source most content Limit = GoesPast source content most

-- why the line added nothing after so many lines
abbrev pub Refuses : Source → (line : List ℕ) → (before : ℕ) → LineStop → Type 0
Refuses source line before Memory = Unit {0}
Refuses source line before (Refused number fault) = (number ≡ before + 1) × (taken_by source line ≡ Err fault)
Refuses source line before Limit = ⊥

-- the log is there, and isn't read to its end
pub record StoppedLog (files : Files) (source : Source) (most : ℕ) (stop : LineStop) : Type 0 where
  pub content : List ℕ
  pub there : files source.file ≡ Some content
  pub stops : Stops source most content stop

-- why the log isn't read to its end, where the depot tells its contents
abbrev pub LogStops : (told : Bool) → Files → Source → (most : ℕ) → LogStop → Type 0
LogStops told files source most Fault = Unit {0}
LogStops told files source most (Line stop) = told ≡ true → StoppedLog files source most stop

-- the line is taken, and gives this frame or none
pub record GivesFrame (source : Source) (line : List ℕ) (frame : Option Stamped) : Type 0 where
  pub taken : taken_by source line ≡ Ok frame
  pub dated : IfSome frame IsDated

-- the line is taken, and its frame added
pub record AddsLine (source : Source) (line : List ℕ) (old new : List Stamped) : Type 0 where
  pub frame : Option Stamped
  pub taken : taken_by source line ≡ Ok frame
  pub added : new ≡ old ++ option_to_list frame
  pub dated : IfSome frame IsDated
