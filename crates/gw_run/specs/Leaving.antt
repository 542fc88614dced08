-- How what lies in a box leaves.
use Rattle.std.specs.Prelude.{◌≡◌, ℕ, ◌++◌, Option, None, List}
use Rattle.tp_unit.specs.Box.{Written, written_of}
use Rattle.tp_unit.specs.Unit.{Meaning}
use Rattle.tp_unit.specs.declared.shape.Shape.{Shape}

-- what lay in the box left in that tick, written in the channel's shape, and nothing lies there
pub record Leaves (shape : Shape) (tick : ℕ) (lay lies : Option Meaning) (before after : List Written) : Type 0 where
  pub none : lies ≡ None
  pub left : after ≡ before ++ written_of shape tick lay
