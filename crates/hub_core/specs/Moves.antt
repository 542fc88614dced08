-- The moves of the pool that a port's calls make, as they are told.
use Rattle.std.specs.Prelude.{true, false, List, [], ◌∷◌, map}
use Rattle.std.specs.List.{flat_map}
use Rattle.hub_core.specs.View.{Change, Taken, Freed, Event, Took, Refused, Entered, Asked, Put, Published, Joining, Missed, Saw, Read, Closed, Parted}
use Rattle.hub_core.specs.declared.record.Move.{Move}

-- a change of the pool as it is told
abbrev pub move_of : Change → Move
move_of (Taken number buf need) = record { change = number; took = true; buf = record { 0 = buf } }
move_of (Freed number buf) = record { change = number; took = false; buf = record { 0 = buf } }

-- the moves of the pool that a call made
abbrev pub moves_of : Event → List Move
moves_of (Took group number buf size need) = record { change = number; took = true; buf = record { 0 = buf } } ∷ []
moves_of (Closed path seq freed) = map move_of freed
moves_of (Parted path dest seq freed) = map move_of freed
moves_of (Refused group number free need) = []
moves_of (Entered path seq buf number size len readers) = []
moves_of (Asked path seq cells readers) = []
moves_of (Put path seq cell) = []
moves_of (Published path seq bytes) = []
moves_of (Joining path dest seq buf len) = []
moves_of (Missed group path dest seq) = []
moves_of (Saw path dest seq cells bytes writer) = []
moves_of (Read path dest seq cell) = []

abbrev pub moves_in : List Event → List Move
moves_in calls = flat_map moves_of calls
