-- What each kind of step tells the seat that makes it.
use Rattle.std.specs.Prelude.{◌≡◌, ◌≢◌, ℕ, ◌+◌, ◌-◌, ◌/◌, ◌%◌, ◌^◌, ◌<◌, ◌≤◌, false, List, ◌∷◌, length, Option, Some, None}
use mathlib.Core.Option.{some}
use Rattle.atomic_table.specs.Table.{Me, Step}
use Rattle.hub_core.specs.Groups.{IsWordOf, all_sizes, group_of}
use Rattle.hub_core.specs.Joint.{Joint}
use Rattle.hub_core.specs.declared.history.Deed.{Deed}
use Rattle.hub_core.specs.declared.history.Deed.TheVariants.{Took, Refused, Entered as EnteredDeed, Joining}
use Rattle.hub_layout.specs.Places.{Card}
use Rattle.hub_shared.specs.Cards.{IsCardFor, place_of_word}
use Rattle.hub_shared.specs.Sights.{view_of, floors_at}
use Rattle.hub_shared.specs.declared.part.HubPart.{HubPart}
use Rattle.hub_shared.specs.declared.sight.Entry.TheVariants.{Did}
use Rattle.hub_shared.specs.declared.sight.Hand.TheVariants.{Idle, Looked, Parting, Entering, Prepared, Seeking}
use Rattle.hub_shared.specs.declared.sight.Note.{Note}
use Rattle.hub_shared.specs.declared.sight.Note.TheVariants.{Takes, Refuses, Parts, Opens, Seeks}
use Rattle.hub_shared.specs.declared.sight.Opening.{Opening}
use Rattle.hub_shared.specs.declared.sight.Sight.{Sight}
use Rattle.hub_shared.specs.declared.sight.Sought.{Sought}

abbrev pub SeatMe : Type 0
SeatMe = Me Note Sight

-- a seat looked at a group's pool word
abbrev pub with_look : (group word : ℕ) → Sight → Sight
with_look group word v = record v { hand = Looked group word }

-- what a look tells of a pool word: it isn't older than the floors, and has few changes
pub record IsSeen (group word : ℕ) (m after : SeatMe) : Type 0 where
  pub me : after ≡ (with_look group word m.0, m.1)
  pub floor : (floors_at m.0).changes group ≤ word / 2 ^ 32
  pub few : word / 2 ^ 32 ≤ 8000000

abbrev pub looked : Step Note → SeatMe → ℕ → SeatMe → Type 0
looked step m found after = IsSeen step.word found m after

-- an exchange that lost found a word with more changes
pub record Lost (group old found : ℕ) (m after : SeatMe) : Type 0 where
  pub seen : IsSeen group found m after
  pub more : old / 2 ^ 32 < found / 2 ^ 32

-- a seat between calls, which did one thing more
abbrev pub with_deed : Deed → Sight → Sight
with_deed deed v = record v { entries = Did deed ∷ v.entries; hand = Idle }

abbrev pub with_take : (group word need buf cells : ℕ) → Sight → Sight
with_take group word need buf cells v = record (with_deed (Took group (word / 2 ^ 32 + 1) buf cells need) v) { takes = v.takes - 1 }

abbrev pub with_overflow : (group word need : ℕ) → Sight → Sight
with_overflow group word need v = record (with_deed (Refused group (word / 2 ^ 32) (word % 2 ^ 32) need) v) { takes = v.takes - 1 }

-- an exchange that won, by what it announced
abbrev pub WinsTake : Step Note → SeatMe → SeatMe → Type 0
WinsTake step m after = (need buf cells : ℕ) → step.said ≡ some (Takes need buf cells) → after ≡ (with_take step.word step.first need buf cells m.0, m.1)

abbrev pub WinsOverflow : Step Note → SeatMe → SeatMe → Type 0
WinsOverflow step m after = (need : ℕ) → step.said ≡ some (Refuses need) → after ≡ (with_overflow step.word step.first need m.0, m.1)

abbrev pub taking : Step Note → SeatMe → ℕ → SeatMe → Type 0
taking step m found after = (found ≡ step.first → WinsTake step m after) × (found ≢ step.first → Lost step.word step.first found m after)

abbrev pub refusing : Step Note → SeatMe → ℕ → SeatMe → Type 0
refusing step m found after = (found ≡ step.first → WinsOverflow step m after) × (found ≢ step.first → Lost step.word step.first found m after)

-- what an entered session notes
abbrev pub entry_of : Opening → Deed
entry_of o = EnteredDeed o.path o.seq o.buf o.change o.cells o.len o.readers

-- a seat announced the part that it is to give
abbrev pub announced : Step Note → SeatMe → ℕ → SeatMe → Type 0
announced step m found after = (named : HubPart) → step.said ≡ some (Parts named) → after ≡ (record m.0 { hand = Parting named }, m.1)

-- a seat that has all parts knows the whole
pub record KnowsWhole (group word : ℕ) (v : Sight) : Type 0 where
  pub word_is : IsWordOf v.groups group (view_of v) (word / 2 ^ 32) (word % 2 ^ 32)
  pub joint : Joint v.groups (view_of v)

-- what a look of any seat tells: its takes are few
abbrev pub learned : Step Note → SeatMe → ℕ → SeatMe → Type 0
learned step m found after = (after ≡ m) × (m.0.takes ≤ 8000000) × (m.0.parts ≡ 1024 → KnowsWhole step.word found m.0)

-- a seat announced the session that it is to enter, stored the session's length, and then its card: the session is entered
-- who holds the buffer is told that there is such a buffer
pub record IsEntering (opening : Opening) (m after : SeatMe) : Type 0 where
  pub me : after ≡ (record m.0 { hand = Entering opening }, m.1)
  pub there : (view_of m.0).held opening.buf ≡ Some (record { number = opening.change; size = opening.cells }) → opening.buf < length (all_sizes m.0.groups)

abbrev pub entering : Step Note → SeatMe → ℕ → SeatMe → Type 0
entering step m found after = (opening : Opening) → step.said ≡ some (Opens opening) → IsEntering opening m after

abbrev pub prepared : Step Note → SeatMe → ℕ → SeatMe → Type 0
prepared step m found after = (opening : Opening) → m.0.hand ≡ Entering opening → after ≡ (record m.0 { hand = Prepared opening }, m.1)

abbrev pub entered : Step Note → SeatMe → ℕ → SeatMe → Type 0
entered step m found after = (opening : Opening) → m.0.hand ≡ Prepared opening → after ≡ (with_deed (entry_of opening) m.0, m.1)

-- a buffer in which the session that is sought may be: one of the group, and the destination is one of eight
pub record IsPlaceFor (groups : List (List ℕ)) (sought : Sought) (buf : ℕ) : Type 0 where
  pub its : group_of groups buf ≡ sought.group
  pub below : buf < length (all_sizes groups)
  pub few : sought.dest < 8

-- a seat announced the session that it looks for: where it isn't there, no floor has it, and else it is in a buffer of the group
pub record IsSeeking (sought : Sought) (m after : SeatMe) : Type 0 where
  pub buf : Option ℕ
  pub me : after ≡ (record m.0 { hand = Seeking sought buf }, m.1)
  pub missed : buf ≡ None → (floors_at m.0).entered sought.group sought.path sought.dest sought.seq ≡ false
  pub there : (at : ℕ) → buf ≡ Some at → IsPlaceFor m.0.groups sought at

abbrev pub seeking : Step Note → SeatMe → ℕ → SeatMe → Type 0
seeking step m found after = (sought : Sought) → step.said ≡ some (Seeks sought) → IsSeeking sought m after

-- it looked at a buffer's card, and the session is there, or it wasn't there as the look began
pub record IsSighted (sought : Sought) (buf : Option ℕ) (at found : ℕ) (m after : SeatMe) : Type 0 where
  pub shows : IsCardFor sought found → after ≡ (record m.0 { hand = Seeking sought (Some at) }, m.1)
  pub hides : (IsCardFor sought found → ⊥) → (after ≡ m) × (buf ≢ Some at)

abbrev pub sighted : Step Note → SeatMe → ℕ → SeatMe → Type 0
sighted step m found after = (sought : Sought) (buf : Option ℕ) (at : ℕ) → m.0.hand ≡ Seeking sought buf →
    at < length (all_sizes m.0.groups) → step.word ≡ place_of_word m.0.groups (Card at) → IsSighted sought buf at found m after

-- it looked at the length of a session that is there, and so joined it
abbrev pub join_of : Sought → (buf len : ℕ) → Deed
join_of sought buf len = Joining sought.path sought.dest sought.seq buf len

pub record IsJoined (sought : Sought) (buf len : ℕ) (m after : SeatMe) : Type 0 where
  pub me : after ≡ (with_deed (join_of sought buf len) m.0, m.1)
  pub some : 0 < len
  pub small : len < 2 ^ 32
  pub few : sought.seq < 8000000

abbrev pub joined : Step Note → SeatMe → ℕ → SeatMe → Type 0
joined step m found after = (sought : Sought) (buf : ℕ) → m.0.hand ≡ Seeking sought (Some buf) → IsJoined sought buf found m after

-- it ends a look that found nothing
abbrev pub rested : Step Note → SeatMe → ℕ → SeatMe → Type 0
rested step m found after = after ≡ (record m.0 { hand = Idle }, m.1)
