-- Views that are divided by parties and joined again: what goes with whom, and what the joined view is.
use Rattle.std.specs.Prelude.{◌≡◌, ℕ, Bool, true, false, if◌then◌else◌, List, [], ◌∷◌, ◌++◌, Option, Some, None}
use Rattle.hub_core.specs.View.{View, Event, empty_view, grows, Took, Refused, Entered, Asked, Put, Published, Joining, Missed, Saw, Read, Closed, Parted}

-- parties: writers of paths, and destinations of paths
pub record Part : Type 0 where
  pub writes : ℕ → Bool
  pub reads : ℕ → ℕ → Bool

-- the event is of one of these parties, or a take or an overflow
abbrev pub IsOf : Part → Event → Type 0
IsOf part (Took group number buf size need) = Unit {0}
IsOf part (Refused group number free need) = Unit {0}
IsOf part (Entered path seq buf number size len readers) = part.writes path ≡ true
IsOf part (Asked path seq cells readers) = part.writes path ≡ true
IsOf part (Put path seq cell) = part.writes path ≡ true
IsOf part (Published path seq bytes) = part.writes path ≡ true
IsOf part (Joining path dest seq buf len) = part.reads path dest ≡ true
IsOf part (Missed group path dest seq) = part.reads path dest ≡ true
IsOf part (Saw path dest seq cells bytes writer) = part.reads path dest ≡ true
IsOf part (Read path dest seq cell) = part.reads path dest ≡ true
IsOf part (Closed path seq freed) = part.writes path ≡ true
IsOf part (Parted path dest seq freed) = part.reads path dest ≡ true

-- so is each of a list
abbrev pub AreOf : Part → List Event → Type 0
AreOf part [] = Unit {0}
AreOf part (event ∷ events) = IsOf part event × AreOf part events

-- the first one that there is
abbrev pub first_of : {A : Type 0} → Option A → Option A → Option A
first_of None other = other
first_of (Some x) other = Some x

-- a view and one that is joined to it: the lists of the other come behind
abbrev pub both : View → View → View
both v w = record {
  changes = v.changes ++ w.changes;
  refused = v.refused ++ w.refused;
  held = λ buf. first_of (w.held buf) (v.held buf);
  sessions = λ path. v.sessions path ++ w.sessions path;
  readings = λ path dest. v.readings path dest ++ w.readings path dest;
}

-- several are joined to it, one after another
abbrev pub merged : View → List View → View
merged v [] = v
merged v (w ∷ ws) = merged (both v w) ws

-- what goes with these parties, and what stays
abbrev pub given : Part → View → View
given part v = record {
  changes = [];
  refused = [];
  held = λ buf. None;
  sessions = λ path. if part.writes path then v.sessions path else [];
  readings = λ path dest. if part.reads path dest then v.readings path dest else [];
}

abbrev pub kept : Part → View → View
kept part v = record v {
  sessions = λ path. if part.writes path then [] else v.sessions path;
  readings = λ path dest. if part.reads path dest then [] else v.readings path dest;
}

-- what stays after several went, one after another
abbrev pub kept_all : List Part → View → View
kept_all [] v = v
kept_all (part ∷ parts) v = kept_all parts (kept part v)

-- the view of each part after its own events, where the view was divided among the parts
abbrev pub views_after : View → List Part → List (List Event) → List View
views_after v [] lists = []
views_after v (part ∷ parts) [] = []
views_after v (part ∷ parts) (events ∷ lists) = grows events (given part v) ∷ views_after (kept part v) parts lists

-- all lists of events, one list after another
abbrev pub in_turn : List (List Event) → List Event
in_turn [] = []
in_turn (events ∷ lists) = events ++ in_turn lists

-- no party is in two parts
abbrev pub IsApart : Part → List Part → Type 0
IsApart part [] = Unit {0}
IsApart part (other ∷ others) = ((path : ℕ) → part.writes path ≡ true → other.writes path ≡ false) × ((path dest : ℕ) → part.reads path dest ≡ true → other.reads path dest ≡ false) × IsApart part others

abbrev pub AreApart : List Part → Type 0
AreApart [] = Unit {0}
AreApart (part ∷ parts) = IsApart part parts × AreApart parts

-- there is a list of events for each part, of its own parties
abbrev pub AreOfEach : List Part → List (List Event) → Type 0
AreOfEach [] [] = Unit {0}
AreOfEach [] (events ∷ lists) = ⊥
AreOfEach (part ∷ parts) [] = ⊥
AreOfEach (part ∷ parts) (events ∷ lists) = AreOf part events × AreOfEach parts lists

-- no buffer is held
abbrev pub HoldsNothing : View → Type 0
HoldsNothing v = (buf : ℕ) → v.held buf ≡ None

abbrev pub HoldNothing : List View → Type 0
HoldNothing [] = Unit {0}
HoldNothing (v ∷ vs) = HoldsNothing v × HoldNothing vs

-- the views that are joined again are what one view would be that had all events, one part's after another's
abbrev pub MergingLaw : Type 0
MergingLaw = (v : View) (parts : List Part) (lists : List (List Event)) → AreApart parts → AreOfEach parts lists → HoldsNothing v → HoldNothing (views_after v parts lists) →
    merged (kept_all parts v) (views_after v parts lists) ≡ grows (in_turn lists) v

-- each part's lists are as its own events left them, whatever the others did
abbrev pub AreAgain : View → View → List Part → List (List Event) → Type 0
AreAgain v w [] lists = Unit {0}
AreAgain v w (part ∷ parts) [] = Unit {0}
AreAgain v w (part ∷ parts) (events ∷ lists) = (given part w ≡ given part (grows events (given part v))) × AreAgain v w parts lists

abbrev pub AgainLaw : Type 0
AgainLaw = (v : View) (parts : List Part) (lists : List (List Event)) → AreApart parts → AreOfEach parts lists → AreAgain v (grows (in_turn lists) v) parts lists

-- what these parties did from nothing is joined to a view that has nothing of them as if it had been done there
abbrev pub JoinLaw : Type 0
JoinLaw = (part : Part) (events : List Event) (v : View) → AreOf part events → HoldsNothing v → given part v ≡ empty_view → grows events v ≡ both v (grows events empty_view)
