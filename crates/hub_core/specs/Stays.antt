-- What a contract sees of a port, and what each of its calls leaves as it is.
use Rattle.std.specs.Prelude.{◌≡◌}
use Rattle.hub_core.specs.Calls.{Means}
use Rattle.hub_core.specs.Floors.{Floors, IsFresh, Rise}
use Rattle.hub_core.specs.View.{View, Event}

-- what a port did and saw, what it may do and over which buffers, what none of its looks falls behind, and whose port it is
pub record PortState (Home : Type 0) : Type 0 where
  pub view : View
  pub means : Means
  pub floors : Floors
  pub home : Home

-- a call shows nothing older than what none of the port's looks falls behind
abbrev pub IsFreshFor : {Home : Type 0} → PortState Home → Event → Type 0
IsFreshFor port event = IsFresh port.view port.floors event

-- a call changes the view and the means so; no floor is lower, and the port is still the same one's
pub record Stays {Home : Type 0} (By : View → View → Type 0) (Uses : Means → Means → Type 0) (old new : PortState Home) : Type 0 where
  pub by : By old.view new.view
  pub means : Uses old.means new.means
  pub rise : Rise old.floors new.floors
  pub home : new.home ≡ old.home

-- after calls no floor is lower, and the port is still the same one's
pub record IsSamePort {Home : Type 0} (old new : PortState Home) : Type 0 where
  pub rise : Rise old.floors new.floors
  pub home : new.home ≡ old.home
