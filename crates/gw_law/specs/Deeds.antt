-- What the machines of a run did, each by itself, and what their hub held at the barriers between windows: no order of machines is told.
use Rattle.std.specs.Prelude.{◌≡◌, ◌⊎◌, ℕ, ◌+◌, ◌<◌, ◌≤◌, nat_lt, if◌then◌else◌, List, [], ◌∷◌, ◌++◌, Some, slice_get}
use Rattle.std.specs.List.{AllByRecursion}
use Rattle.hub_core.specs.Floors.{AreFresh, floors_of}
use Rattle.hub_core.specs.Joint.{Joint}
use Rattle.hub_core.specs.Turns.{Part, calls_by, turns_of}
use Rattle.hub_core.specs.View.{Change, Event, Session, View, empty_view, grows, session_at}
use Rattle.receiver_law.specs.RxRun.{RxRun}
use Rattle.sender_law.specs.Runs.{TxRun}
use Rattle.tp_receiver.specs.State.{RxTurn}
use Rattle.tp_sender.specs.State.{TxTurn}

-- the runs of all source channels' receivers, and of all destinations' senders
pub record Deeds : Type 0 where
  pub receivers : List RxRun
  pub senders : List TxRun

-- what a machine did in ticks below a bound; its parts stand newest first
abbrev pub before : {T : Type 0} → ℕ → List (Part T) → List (Part T)
before bound [] = []
before bound (part ∷ earlier) = if nat_lt part.tick bound then part ∷ earlier else before bound earlier

-- a window of ticks, from one to below another, and the hub's view at the barrier after it
pub record Window : Type 0 where
  pub from : ℕ
  pub to : ℕ
  pub view : View

-- what a machine's calls make of nothing
abbrev pub own_view : List Event → View
own_view calls = grows calls empty_view

-- the path's sessions in a view are what its receiver's turns made, and a destination's readings what its sender's turns made
abbrev pub IsWrittenBy : View → RxRun → List RxTurn → Type 0
IsWrittenBy v run turns = v.sessions run.set.path.0 ≡ (own_view (calls_by turns)).sessions run.set.path.0

abbrev pub IsReadBy : View → TxRun → List TxTurn → Type 0
IsReadBy v run turns = v.readings run.set.path.0 run.set.dest.0 ≡ (own_view (calls_by turns)).readings run.set.path.0 run.set.dest.0

-- an item stands in a list
abbrev pub StandsIn : {A : Type 0} → List A → A → Type 0
StandsIn xs x = (place : ℕ) × (slice_get xs place ≡ Some x)

-- all changes and overflows of a machine's calls stand in a view
pub record IsMadeIn (v : View) (calls : List Event) : Type 0 where
  pub changes : AllByRecursion (StandsIn v.changes) (own_view calls).changes
  pub refused : AllByRecursion (StandsIn v.refused) (own_view calls).refused

-- a change is made by a receiver's turns, or by a sender's
abbrev pub IsMadeBy : Deeds → (RxRun → List RxTurn) → (TxRun → List TxTurn) → Change → Type 0
IsMadeBy d received sent change =
    ((run : RxRun) × StandsIn d.receivers run × StandsIn (own_view (calls_by (received run))).changes change)
    ⊎ ((run : TxRun) × StandsIn d.senders run × StandsIn (own_view (calls_by (sent run))).changes change)

-- a view is what the machines did together in some of their turns, and nothing else
pub record IsJoined (d : Deeds) (received : RxRun → List RxTurn) (sent : TxRun → List TxTurn) (v : View) : Type 0 where
  pub sessions : AllByRecursion (λ (run : RxRun). IsWrittenBy v run (received run)) d.receivers
  pub readings : AllByRecursion (λ (run : TxRun). IsReadBy v run (sent run)) d.senders
  pub no_others : (path seq : ℕ) (s : Session) → session_at v path seq ≡ Some s → (run : RxRun) × StandsIn d.receivers run × (run.set.path.0 ≡ path)
  pub made : AllByRecursion (λ (run : RxRun). IsMadeIn v (calls_by (received run))) d.receivers
  pub only : AllByRecursion (IsMadeBy d received sent) v.changes

-- the calls that came to those before are no older than the floors of a view
abbrev pub AreFreshAfter : List (List ℕ) → View → (earlier all : List Event) → Type 0
AreFreshAfter groups opening earlier all = (calls : List Event) × (all ≡ earlier ++ calls) × AreFresh (floors_of groups opening) (own_view earlier) calls

-- what a machine saw in a window is no older than the view that stood before it
abbrev pub SeesReceived : List (List ℕ) → View → Window → RxRun → Type 0
SeesReceived groups opening w run = AreFreshAfter groups opening (calls_by (turns_of (before w.from run.parts))) (calls_by (turns_of (before w.to run.parts)))

abbrev pub SeesSent : List (List ℕ) → View → Window → TxRun → Type 0
SeesSent groups opening w run = AreFreshAfter groups opening (calls_by (turns_of (before w.from run.parts))) (calls_by (turns_of (before w.to run.parts)))

-- a window has a tick at least and no more than so many; in it each machine sees what stood before it, or more; after it the hub's
-- view is joint, and is what the machines did up to then
pub record IsWindow (groups : List (List ℕ)) (most : ℕ) (d : Deeds) (opening : View) (w : Window) : Type 0 where
  pub some : w.from < w.to
  pub short : w.to ≤ w.from + most
  pub received_fresh : AllByRecursion (SeesReceived groups opening w) d.receivers
  pub sent_fresh : AllByRecursion (SeesSent groups opening w) d.senders
  pub joint : Joint groups w.view
  pub joined : IsJoined d (λ run. turns_of (before w.to run.parts)) (λ run. turns_of (before w.to run.parts)) w.view

-- the tick from which on no window is over yet, and the view that stands then, for windows newest first
abbrev pub over_at : List Window → ℕ
over_at [] = 0
over_at (w ∷ earlier) = w.to

abbrev pub view_at : List Window → View
view_at [] = empty_view
view_at (w ∷ earlier) = w.view

-- each window comes after the one before it
abbrev pub AreWindows : List (List ℕ) → (most : ℕ) → Deeds → List Window → Type 0
AreWindows groups most d [] = Unit {0}
AreWindows groups most d (w ∷ earlier) = IsWindow groups most d (view_at earlier) w × (over_at earlier ≤ w.from) × AreWindows groups most d earlier

-- a tick lies in one of the windows
abbrev pub LiesIn : List Window → (tick : ℕ) → Type 0
LiesIn windows tick = (w : Window) × StandsIn windows w × (w.from ≤ tick) × (tick < w.to)

abbrev pub LiesWithin : {T : Type 0} → List Window → List (Part T) → Type 0
LiesWithin windows parts = AllByRecursion (λ part. LiesIn windows part.tick) parts
