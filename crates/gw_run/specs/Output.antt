-- The lines of the frames that a bus sends.
use Rattle.std.specs.Prelude.{◌≡◌, ℕ, ◌*◌, ◌^◌, ◌<◌, ◌≤◌, Bool, false, ◌&&◌, not, List, All, flat_map, map}
use Rattle.can_frame.specs.Frame.{IsLawful}
use Rattle.candump_line.specs.Line.{entry_text, line_text}
use Rattle.candump_line.specs.Reading.{ReadsBack}
use Rattle.tick_clock.specs.Ticks.{stamp_after}
use Rattle.tp_unit.specs.Box.{Written}
use Rattle.candump_log.specs.Log.{IsLog}
use Rattle.candump_log.specs.declared.log.Stamped.{Stamped}

-- the line of a frame, stamped with the end of the tick in which it left
abbrev pub line_of : (start period : ℕ) → (interface : List ℕ) → Written → List ℕ
line_of start period interface written = line_text (stamp_after start period written.tick) interface written.frame

-- the lines of all frames
abbrev pub output_text : (start period : ℕ) → (interface : List ℕ) → List Written → List ℕ
output_text start period interface written = flat_map (line_of start period interface) written

-- the line of a frame is one line, and is read back as its stamp and the frame where the stamp is below 2^32 seconds
pub record IsOneLine (start period : ℕ) (interface : List ℕ) (written : Written) : Type 0 where
  pub shown : All (λ b. 0x20 ≤ b) (entry_text (stamp_after start period written.tick) interface written.frame)
  pub reads_back : stamp_after start period written.tick < 2 ^ 32 * 10 ^ 6 → ReadsBack (stamp_after start period written.tick) interface written.frame

-- the stamps are below 2^32 seconds, those that a line of a log may have
abbrev pub AreDatedLines : (start period : ℕ) → List Written → Type 0
AreDatedLines start period written = All (λ (w : Written). stamp_after start period w.tick < 2 ^ 32 * 10 ^ 6) written

-- a bus without CAN FD has no FD frame
abbrev pub IsOnBus : (fd : Bool) → Written → Type 0
IsOnBus fd written = (written.frame.fd && not fd) ≡ false

-- a frame whose line can be read back in the log of such a bus: its stamp is below 2^32 seconds, and it is lawful and one of the bus's
pub record IsReadable (start period : ℕ) (fd : Bool) (written : Written) : Type 0 where
  pub dated : stamp_after start period written.tick < 2 ^ 32 * 10 ^ 6
  pub lawful : IsLawful written.frame
  pub on_bus : IsOnBus fd written
  pub bytes : All (λ b. b < 256) written.frame.bytes

-- the frames as a log has them, each with the stamp of its line
abbrev pub stamped_of : (start period : ℕ) → List Written → List Stamped
stamped_of start period written = map (λ (w : Written). record { at = record { 0 = stamp_after start period w.tick }; frame = w.frame }) written

-- the output is a log of just these frames
abbrev pub IsLogOf : (start period : ℕ) → (interface : List ℕ) → (fd : Bool) → List Written → Type 0
IsLogOf start period interface fd written =
    (lines : List (List ℕ)) × IsLog interface fd (output_text start period interface written) lines (stamped_of start period written)

-- and so where the stamps are such as a line may have
abbrev pub IsLogWhereDated : (start period : ℕ) → (interface : List ℕ) → (fd : Bool) → List Written → Type 0
IsLogWhereDated start period interface fd written = AreDatedLines start period written → IsLogOf start period interface fd written
