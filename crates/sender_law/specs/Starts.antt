-- What a destination saw of a session: that enough of it was published before its first frame left, and that its source still wrote
-- while it waited for more.
use Rattle.std.specs.Prelude.{◌≡◌, ◌⊎◌, ℕ, ◌≤◌, true, false, Some, List, [], ◌∷◌, ◌++◌}
use Rattle.hub_core.specs.Turns.{calls_by, state_after}
use Rattle.hub_core.specs.View.{Event, Saw}
use Rattle.hub_core.specs.declared.port.Seen.{Seen as Look}
use Rattle.tp_sender.specs.State.{Transmission, TxTurn, tx_new}
use Rattle.tp_sender.specs.declared.event.TxEvent.TheVariants.{Left, Turn}
use Rattle.tp_sender.specs.declared.set.TxSet.{TxSet}
use Rattle.tp_sender.specs.declared.transmission.Phase.{Phase}
use Rattle.tp_sender.specs.declared.transmission.Phase.TheVariants.{Start, Bytes, Box, Fc, Gap}

-- a call is one of these
pub record IsAmong (call : Event) (calls : List Event) : Type 0 where
  pub before : List Event
  pub after : List Event
  pub are : calls ≡ before ++ call ∷ after

-- a look of a session
abbrev pub look_of : TxSet → (seq : ℕ) → Look → Event
look_of set seq look = Saw set.path.0 set.dest.0 seq look.cells look.bytes look.writer

-- a look shows enough of a session of so many bytes: all of them or, unless whole units are stored, as many cells as the threshold
abbrev pub ShowsEnough : TxSet → (len : ℕ) → Look → Type 0
ShowsEnough set len look = (look.bytes ≡ len) ⊎ ((set.store ≡ false) × (set.threshold ≤ look.cells))

-- among these calls is a look of the session that shows enough of it
pub record HasLooked (set : TxSet) (calls : List Event) (seq len : ℕ) : Type 0 where
  pub look : Look
  pub among : IsAmong (look_of set seq look) calls
  pub enough : ShowsEnough set len look

-- a session is sent, and such a look of it came before
pub record IsBegun (set : TxSet) (earlier : List TxTurn) : Type 0 where
  pub s : Transmission
  pub live : (state_after tx_new earlier).live ≡ Some s
  pub looked : HasLooked set (calls_by earlier) s.seq s.len

-- wherever a frame leaves
abbrev pub StartLaw : TxSet → List TxTurn → Type 0
StartLaw set [] = Unit {0}
StartLaw set (turn ∷ earlier) = (turn.event ≡ Left → IsBegun set earlier) × StartLaw set earlier

-- a session waits for its source: for enough of it to begin with, or for its next frame's bytes
abbrev pub IsLacking : Phase → Type 0
IsLacking Start = Unit {0}
IsLacking Bytes = Unit {0}
IsLacking Box = ⊥
IsLacking Fc = ⊥
IsLacking (Gap until) = ⊥

-- among these calls is a look of the session that shows that its source still writes
pub record SawSource (set : TxSet) (calls : List Event) (seq : ℕ) : Type 0 where
  pub look : Look
  pub among : IsAmong (look_of set seq look) calls
  pub writes : look.writer ≡ true

-- a session that waits for its source after a turn saw in that turn that it still writes
abbrev pub SourceLaw : TxSet → List TxTurn → Type 0
SourceLaw set [] = Unit {0}
SourceLaw set (turn ∷ earlier) =
    (turn.event ≡ Turn → (s : Transmission) → turn.did.new.live ≡ Some s → IsLacking s.phase → SawSource set turn.did.calls s.seq) × SourceLaw set earlier
