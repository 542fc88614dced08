-- The file of a reader that has taken lines is there.
use Rattle.std.proofs.Common.{◌≡◌, ◌≢◌, ◌<◌, ℕ, Bool, Some, true, List, [], ◌∷◌, ◌++◌, length, refl, sym, ◌∙◌, arith}
use Rattle.gw_depot.specs.Files.{Files}
use Rattle.candump_log.specs.Log.{ended}
use Rattle.candump_log.specs.Reader.{GivenAt, HasGiven, IsGoingOn, lines_of, source_of}
use Rattle.candump_log.specs.declared.log.LogStop.{LogStop}
use Rattle.candump_log.specs.declared.log.Stamped.{Stamped}
use Rattle.candump_log.specs.declared.reader.LogReader.{LogReader}
use Rattle.candump_log.specs.declared.reader.Stage.{Stage}
use Rattle.candump_log.specs.declared.reader.Stage.TheVariants.{Open, Ended, Stopped}
use Rattle.candump_log.proofs.Underway.{known}

some_lines : (lines : List (List ℕ)) (unread : List ℕ) → 0 < length lines → ended lines ++ unread ≢ []
some_lines [] unread some = absurd (omega (arith, some))
some_lines ([] ∷ lines) unread some = λ e. cc
some_lines ((x ∷ line) ∷ lines) unread some = λ e. cc

there_at : (stage : Stage) (told : Bool) (files : Files) (reader : LogReader) (frames : List Stamped) → GivenAt stage told files reader frames → told ≡ true → 0 < lines_of reader →
    ((stop : LogStop) → stage ≢ Stopped stop) → (content : List ℕ) × (files (source_of reader).file ≡ Some content)
there_at Open told files reader frames given is some going =
    let front_some : given.front ≢ [] = λ e. some_lines given.so_far.lines reader.unread (omega (arith, some, given.so_far.count_is)) (sym given.so_far.bytes_are ∙ e) in
    let k = known (files (source_of reader).file) given.front (given.there is) front_some in
    (k.content, k.there)
there_at Ended told files reader frames given is some going = (given.content, given.there is)
there_at (Stopped stop) told files reader frames given is some going = absurd (going stop refl)

pub still_there : (told : Bool) (files : Files) (reader : LogReader) (frames : List Stamped) → HasGiven told files reader frames → told ≡ true → 0 < lines_of reader → IsGoingOn reader →
    (content : List ℕ) × (files (source_of reader).file ≡ Some content)
still_there told files reader frames given is some going = there_at reader.stage told files reader frames given is some going
