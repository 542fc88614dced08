-- The frame that a unit becomes.
use Rattle.std.specs.Prelude.{Bool, ◌&&◌}
use Rattle.can_frame.specs.Frame.{CanFrame}
use Rattle.can_frame.specs.declared.id.CanId.{CanId}
use Rattle.if_core.specs.Unit.{UnitOf}

-- the same data under another identifier; an FD frame where the unit came as one and the bus takes them
abbrev pub readdressed : UnitOf → CanId → (fd_bus brs : Bool) → CanFrame
readdressed unit id fd_bus brs = record { id = id; fd = unit.fd && fd_bus; brs = (unit.fd && fd_bus) && brs; bytes = unit.bytes }
