-- What was done with a plain hub, one call after another, and the view that it leads to.
use Rattle.std.specs.Prelude.{◌≡◌, ℕ, List, [], ◌∷◌}
use mathlib.Core.Option.{some}
use Rattle.atomic_table.specs.Table.{Me, Step}
use Rattle.hub_core.specs.Calls.{freed_by}
use Rattle.hub_core.specs.View.{View, Event, empty_view, grow}
use Rattle.hub_core.specs.View.{Took as TookEvent, Refused as RefusedEvent, Entered as EnteredEvent, Asked as AskedEvent, Put as PutEvent, Published as PublishedEvent, Joining as JoiningEvent, Saw as SawEvent, Read as ReadEvent, Closed as ClosedEvent, Parted as PartedEvent}
use Rattle.hub_core.specs.declared.history.Deed.{Deed}
use Rattle.hub_core.specs.declared.history.Deed.TheVariants.{Took, Refused, Entered, Asked, Put, Published, Joining, Saw, Read, Closed, Parted}
use Rattle.hub_core.specs.declared.history.Past.{Past}

-- what the step that notes a deed leaves: the deed that it announces is added
abbrev pub IsNoted : Step Deed → Me Deed Past → ℕ → Me Deed Past → Type 0
IsNoted step before found after = (deed : Deed) → step.said ≡ some deed → after.0.deeds ≡ deed ∷ before.0.deeds

-- the event that a deed is
abbrev pub event_of : Deed → Event
event_of (Took group change buf size need) = TookEvent group change buf size need
event_of (Refused group change free need) = RefusedEvent group change free need
event_of (Entered path seq buf change size len readers) = EnteredEvent path seq buf change size len readers
event_of (Asked path seq cells readers) = AskedEvent path seq cells readers
event_of (Put path seq cell) = PutEvent path seq cell
event_of (Published path seq bytes) = PublishedEvent path seq bytes
event_of (Joining path dest seq buf len) = JoiningEvent path dest seq buf len
event_of (Saw path dest seq cells bytes writer) = SawEvent path dest seq cells bytes writer
event_of (Read path dest seq cell) = ReadEvent path dest seq cell
event_of (Closed path seq left) = ClosedEvent path seq (freed_by left)
event_of (Parted path dest seq left) = PartedEvent path dest seq (freed_by left)

-- the view after these deeds, the newest first
abbrev pub view_after : List Deed → View
view_after [] = empty_view
view_after (deed ∷ deeds) = grow (event_of deed) (view_after deeds)
