-- What a seat did and for whom it acts, by its history.
use Rattle.std.specs.Prelude.{◌≡◌, ℕ, ◌/◌, ◌%◌, ◌^◌, ◌==◌, ◌||◌, if◌then◌else◌, Bool, true, false, List, [], ◌∷◌, get_or}
use Rattle.hub_core.specs.Parts.{Part, both, given, kept}
use Rattle.hub_core.specs.Past.{event_of}
use Rattle.hub_core.specs.View.{View, empty_view, grow}
use Rattle.hub_shared.specs.declared.part.HubPart.{HubPart}
use Rattle.hub_shared.specs.declared.sight.Entry.{Entry}
use Rattle.hub_shared.specs.declared.sight.Entry.TheVariants.{Begun, Did, Kept, Given, Joined}

-- what a seat did and saw, and the parties for which it acts
pub record SeatState : Type 0 where
  pub view : View
  pub part : Part

-- whether a number has a bit
abbrev pub has_bit : (n bit : ℕ) → Bool
has_bit n bit = n / 2 ^ bit % 2 == 1

-- the parties that a part names
abbrev pub part_of : HubPart → Part
part_of named = record { writes = λ path. has_bit named.writers path; reads = λ path dest. has_bit (get_or named.dests path 0) dest }

-- all parties, and none
abbrev pub everyone : Part
everyone = record { writes = λ path. true; reads = λ path dest. true }

abbrev pub no_one : Part
no_one = record { writes = λ path. false; reads = λ path dest. false }

-- the parties of one part that aren't, or are, in another; and those of both parts
abbrev pub without : (gone part : Part) → Part
without gone part = record {
  writes = λ path. if gone.writes path then false else part.writes path;
  reads = λ path dest. if gone.reads path dest then false else part.reads path dest;
}

abbrev pub within : (named part : Part) → Part
within named part = record {
  writes = λ path. if named.writes path then part.writes path else false;
  reads = λ path dest. if named.reads path dest then part.reads path dest else false;
}

abbrev pub united : (one other : Part) → Part
united one other = record { writes = λ path. one.writes path || other.writes path; reads = λ path dest. one.reads path dest || other.reads path dest }

-- what each entry makes of the histories before it, the last one first
abbrev pub states_after : Entry → List SeatState → List SeatState
states_after Begun states = record { view = empty_view; part = everyone } ∷ states
states_after (Did deed) [] = []
states_after (Did deed) (s ∷ states) = record { view = grow (event_of deed) s.view; part = s.part } ∷ states
states_after (Kept named) [] = []
states_after (Kept named) (s ∷ states) = record { view = kept (part_of named) s.view; part = without (part_of named) s.part } ∷ states
states_after (Given named) [] = []
states_after (Given named) (s ∷ states) = record { view = given (part_of named) s.view; part = within (part_of named) s.part } ∷ states
states_after Joined [] = []
states_after Joined (s ∷ []) = s ∷ []
states_after Joined (other ∷ s ∷ states) = record { view = both s.view other.view; part = united s.part other.part } ∷ states

abbrev pub states_of : List Entry → List SeatState → List SeatState
states_of [] states = states
states_of (entry ∷ entries) states = states_after entry (states_of entries states)

-- the last history's
abbrev pub last_of : List SeatState → SeatState
last_of [] = record { view = empty_view; part = no_one }
last_of (s ∷ states) = s

abbrev pub state_of : List Entry → SeatState
state_of entries = last_of (states_of entries [])

-- the entries are one whole history, whatever other histories come before it
abbrev pub IsWhole : List Entry → Type 0
IsWhole entries = (before : List SeatState) → states_of entries before ≡ state_of entries ∷ before
