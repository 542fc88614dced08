-- What a look for a destination's next session comes to.
use Rattle.std.specs.Prelude.{◌≡◌, ℕ, ◌<◌, true, length, Option, Some, None}
use Rattle.gw_base.specs.declared.numbers.BufNo.{BufNo}
use Rattle.hub_shared.specs.History.{state_of}
use Rattle.hub_shared.specs.Plays.{SeatMe, IsPlaceFor}
use Rattle.hub_shared.specs.Sights.{view_of}
use Rattle.hub_shared.specs.declared.sight.Hand.TheVariants.{Seeking}
use Rattle.hub_shared.specs.declared.sight.Sought.{Sought}

-- a seat looks for its destination's next session, which is in the buffer of its group if it was there as the look began
pub record IsLooking (sought : Sought) (m : SeatMe) : Type 0 where
  pub live : 0 < m.0.parts
  pub acts : (state_of m.0.entries).part.reads sought.path sought.dest ≡ true
  pub number : length ((view_of m.0).readings sought.path sought.dest) ≡ sought.seq
  pub buf : Option ℕ
  pub hand : m.0.hand ≡ Seeking sought buf
  pub there : (at : ℕ) → buf ≡ Some at → IsPlaceFor m.0.groups sought at

-- what it found: the session, or that it wasn't there as the look began
abbrev pub Finds : Sought → (old new : SeatMe) → Option BufNo → Type 0
Finds sought old new (Some buf) = (new ≡ (record old.0 { hand = Seeking sought (Some buf.0) }, old.1)) × IsPlaceFor old.0.groups sought buf.0
Finds sought old new None = (new ≡ old) × (old.0.hand ≡ Seeking sought None)
