-- What a seat knows: at first, once it is divided, and once it takes in another.
use Rattle.std.specs.Prelude.{ℕ, ◌+◌, ◌-◌, List, [], ◌∷◌, ◌++◌}
use Rattle.hub_core.specs.Floors.{Floors, floors_of}
use Rattle.hub_core.specs.View.{View}
use Rattle.hub_shared.specs.History.{state_of}
use Rattle.hub_shared.specs.declared.sight.Entry.TheVariants.{Begun, Kept, Given, Joined}
use Rattle.hub_shared.specs.declared.sight.Hand.{Hand}
use Rattle.hub_shared.specs.declared.sight.Hand.TheVariants.{Idle, Looked, Parting, Entering, Prepared, Seeking}
use Rattle.hub_shared.specs.declared.sight.Sight.{Sight}

-- what the seat did and saw
abbrev pub view_of : Sight → View
view_of v = (state_of v.entries).view

-- what none of its looks falls behind: what was done when it was divided off
abbrev pub floors_at : Sight → Floors
floors_at v = floors_of v.groups (state_of v.base).view

-- the first seat of a hub acts for all parties and has all takes
abbrev pub newcomer : List (List ℕ) → Sight
newcomer groups = record { groups = groups; parts = 1024; takes = 8000000; entries = Begun ∷ []; base = []; hand = Idle }

-- what a seat keeps and gives of a part that it is about to give
abbrev pub kept_by : Hand → Sight → Sight
kept_by Idle v = v
kept_by (Looked group word) v = v
kept_by (Entering opening) v = v
kept_by (Prepared opening) v = v
kept_by (Seeking sought buf) v = v
kept_by (Parting named) v = record v { parts = v.parts - 1; takes = v.takes - named.takes; entries = Kept named ∷ v.entries; base = v.entries; hand = Idle }

abbrev pub given_by : Hand → Sight → Sight
given_by Idle v = v
given_by (Looked group word) v = v
given_by (Entering opening) v = v
given_by (Prepared opening) v = v
given_by (Seeking sought buf) v = v
given_by (Parting named) v = record v { parts = 1; takes = named.takes; entries = Given named ∷ v.entries; base = v.entries; hand = Idle }

abbrev pub kept_sight : Sight → Sight
kept_sight v = kept_by v.hand v

abbrev pub given_sight : Sight → Sight
given_sight v = given_by v.hand v

-- a seat that takes in another has both histories
abbrev pub both_sights : Sight → Sight → Sight
both_sights v w = record v { parts = v.parts + w.parts; takes = v.takes + w.takes; entries = Joined ∷ (w.entries ++ v.entries) }

-- the other has nothing any more
abbrev pub spent : Sight
spent = record { groups = []; parts = 0; takes = 0; entries = []; base = []; hand = Idle }
