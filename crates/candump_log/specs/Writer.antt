-- A writer of a log: what it holds, and what stands in its file.
use Rattle.std.specs.Prelude.{◌≡◌, ℕ, true, List, ◌++◌, Some, IsSome}
use Rattle.can_frame.specs.Frame.{CanFrame}
use Rattle.candump_line.specs.Line.{line_text}
use Rattle.gw_depot.specs.Files.{Files, OthersStay}
use Rattle.gw_depot.specs.Outside.{DepotState}
use Rattle.candump_log.specs.declared.writer.LogWriter.{LogWriter}

-- the file that a writer appends to
abbrev pub file_of : LogWriter → List ℕ
file_of writer = writer.file.now

-- the interface of its frames
abbrev pub interface_of : LogWriter → List ℕ
interface_of writer = writer.interface.now

-- the bytes that it has written and not appended yet
abbrev pub held_of : LogWriter → List ℕ
held_of writer = writer.held

-- it writes to the same file, frames of the same interface
pub record IsSameFile (old new : LogWriter) : Type 0 where
  pub file : file_of new ≡ file_of old
  pub interface : interface_of new ≡ interface_of old

-- the file, and after it what the writer holds, is this text
pub record IsText (files : Files) (writer : LogWriter) (text : List ℕ) : Type 0 where
  pub content : List ℕ
  pub there : files (file_of writer) ≡ Some content
  pub whole : text ≡ content ++ held_of writer

-- these bytes are at the end of the text; other files stay
pub record AddsText (before after : Files) (old new : LogWriter) (added : List ℕ) : Type 0 where
  pub text : (text : List ℕ) → IsText before old text → IsText after new (text ++ added)
  pub others : OthersStay before after (file_of old)

-- the text is as before; other files stay
pub record KeepsText (before after : Files) (old new : LogWriter) : Type 0 where
  pub text : (text : List ℕ) → IsText before old text → IsText after new text
  pub others : OthersStay before after (file_of old)

-- where the depot tells its contents, the line of a frame is at the end of the text
abbrev pub WritesLine : (before after : DepotState) → (old new : LogWriter) → (at : ℕ) → CanFrame → Type 0
WritesLine before after old new at frame = before.told ≡ true → AddsText before.files after.files old new (line_text at (interface_of old) frame)

-- where the depot tells its contents, the text is as before
abbrev pub KeepsAll : (before after : DepotState) → (old new : LogWriter) → Type 0
KeepsAll before after old new = before.told ≡ true → KeepsText before.files after.files old new

-- where the depot tells its contents, the file is there
abbrev pub IsThere : DepotState → LogWriter → Type 0
IsThere depot writer = depot.told ≡ true → IsSome (depot.files (file_of writer))
