-- What holds of lines that are written and read.
use Rattle.std.specs.Prelude.{ℕ, ◌*◌, ◌^◌, ◌<◌, List, All}
use Rattle.can_frame.specs.Frame.{CanFrame, IsLawful}
use Rattle.candump_line.specs.Line.{IsInterface}
use Rattle.candump_line.specs.Reading.{IsReadAs, ReadsBack}
use Rattle.candump_line.specs.Spelling.{Spells}

-- a line that is written for a lawful frame of bytes with a stamp below 2^32 seconds is read back
abbrev pub ReadingLaw : Type 0
ReadingLaw = (at : ℕ) (iface : List ℕ) (frame : CanFrame) → at < 2 ^ 32 * 10 ^ 6 → IsInterface iface →
    IsLawful frame → All (λ b. b < 256) frame.bytes → ReadsBack at iface frame

-- a line that is spelled so is read so
abbrev pub SpellingLaw : Type 0
SpellingLaw = (iface line : List ℕ) (at : ℕ) (frame : CanFrame) → IsInterface iface → Spells iface line at frame →
    IsReadAs iface line at frame
