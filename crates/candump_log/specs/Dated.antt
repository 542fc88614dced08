-- Stamps that a log can have.
use Rattle.std.specs.Prelude.{◌*◌, ◌^◌, ◌<◌, List, All}
use Rattle.candump_log.specs.declared.log.Stamped.{Stamped}

-- the frame's stamp is below 2^32 seconds
abbrev pub IsDated : Stamped → Type 0
IsDated s = s.at.0 < 2 ^ 32 * 10 ^ 6

-- each frame's stamp is
abbrev pub AreDated : List Stamped → Type 0
AreDated frames = All IsDated frames
