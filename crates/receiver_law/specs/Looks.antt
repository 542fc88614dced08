-- What a receiver's looks at the room answer: a fact of its port, which its laws are given.
use Rattle.std.specs.Prelude.{◌≡◌, ℕ, ◌≤◌, Some, List, ◌∷◌, ◌++◌}
use Rattle.hub_core.specs.View.{Asked, Event, Session, empty_view, grows, session_at}
use Rattle.tp_receiver.specs.declared.set.RxSet.{RxSet}

-- each look counts at least what the session's writer knew before it: the room of the look before, without the cells
-- that were put since, or, where none was before, of the whole buffer
abbrev pub LooksKeepRoom : RxSet → List Event → Type 0
LooksKeepRoom set calls = (before after : List Event) (seq cells readers : ℕ) (s : Session) →
    calls ≡ before ++ Asked set.path.0 seq cells readers ∷ after →
    session_at (grows before empty_view) set.path.0 seq ≡ Some s → s.room ≤ cells
