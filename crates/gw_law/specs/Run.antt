-- What a run is: runs of all machines, on buses that send in order, over one hub whose view is joint after each window.
use Rattle.std.specs.Prelude.{◌≡◌, ℕ, ◌<◌, ◌≤◌, Some, true, List, length, map}
use Rattle.std.specs.List.{AllByRecursion, AllZip}
use Rattle.hub_core.specs.Groups.{IsWordOf, changes_in, group_of}
use Rattle.hub_core.specs.Joint.{Joint}
use Rattle.hub_core.specs.Journal.{AreInOrder}
use Rattle.hub_core.specs.Moves.{move_of}
use Rattle.hub_core.specs.Turns.{state_after}
use Rattle.hub_core.specs.View.{Session, View, session_at}
use Rattle.receiver_law.specs.RxRun.{IsRxRun, RxRun, source_of, turns_in as received_in}
use Rattle.sender_law.specs.Runs.{IsTxRun, TxRun, leg_of, turns_in as sent_in}
use Rattle.tp_sender.specs.State.{tx_new}
use Rattle.gw_law.specs.Account.{Account, dest_in, is_full_for, source_in}
use Rattle.gw_law.specs.Deeds.{AreWindows, Deeds, IsJoined, LiesWithin, Window}
use Rattle.gw_law.specs.Emission.{BusLaw, NoOthers}
use Rattle.gw_law.specs.Plan.{IsLawfulPlan, Receiving, Sending}
use Rattle.gw_law.specs.Pool.{moves_of}

-- a receiver's run, whose flow controls wait only where their bus has no place for them, and which tells what is told of its channel
pub record IsReceiverRun (a : Account) (r : Receiving) (run : RxRun) : Type 0 where
  pub run_is : IsRxRun run
  pub full : (tick : ℕ) → run.full tick ≡ true → is_full_for (a.plan.budget r.bus) (a.left r.bus) r.shape.id tick ≡ true
  pub tells : source_of (a.plan.budget r.bus) run ≡ source_in a r

-- the same for a sender
pub record IsSenderRun (a : Account) (s : Sending) (run : TxRun) : Type 0 where
  pub run_is : IsTxRun run
  pub full : (tick : ℕ) → run.full tick ≡ true → is_full_for (a.plan.budget s.bus) (a.left s.bus) s.set.shape.id tick ≡ true
  pub tells : leg_of (a.plan.budget s.bus) run ≡ dest_in a s

-- a sender has joined each session of its path
abbrev pub HasJoinedAll : View → TxRun → Type 0
HasJoinedAll v run = length (v.sessions run.set.path.0) ≤ (state_after tx_new (sent_in run)).next

-- the sessions of each receiver's path lie in its group of buffers
abbrev pub AreInGroups : List (List ℕ) → Deeds → View → Type 0
AreInGroups groups d v = AllByRecursion (λ (run : RxRun). (seq : ℕ) (s : Session) → session_at v run.set.path.0 seq ≡ Some s → group_of groups s.buf ≡ run.set.group.0) d.receivers

-- the report's moves of a group's buffers are those of the view
abbrev pub TellsMoves : Account → View → (group : ℕ) → Type 0
TellsMoves a v group = moves_of a.plan.groups group a.moves ≡ map move_of (changes_in a.plan.groups group v)

-- so is the group's pool line, and its moves stand in the order of their numbers
pub record TellsPool (a : Account) (v : View) (group : ℕ) : Type 0 where
  pub word : IsWordOf a.plan.groups group v (a.counts group) (a.frees group)
  pub in_order : AreInOrder (changes_in a.plan.groups group v)

-- a run, by what each machine did and by the barriers between its windows; at its end the machines were told so, and the view is
-- that of all their turns
pub record IsRun (a : Account) (d : Deeds) (windows : List Window) (v : View) : Type 0 where
  pub plan : IsLawfulPlan a.plan
  pub receivers : AllZip (IsReceiverRun a) a.plan.receivers d.receivers
  pub senders : AllZip (IsSenderRun a) a.plan.senders d.senders
  pub buses : (bus : ℕ) → BusLaw a bus
  pub no_others : NoOthers a
  pub windows_are : AreWindows a.plan.groups a.plan.window d windows
  pub received_within : AllByRecursion (λ (run : RxRun). LiesWithin windows run.parts) d.receivers
  pub sent_within : AllByRecursion (λ (run : TxRun). LiesWithin windows run.parts) d.senders
  pub joint : Joint a.plan.groups v
  pub in_groups : AreInGroups a.plan.groups d v
  pub moves : (group : ℕ) → TellsMoves a v group
  pub pools : (group : ℕ) → group < length a.plan.groups → TellsPool a v group
  pub joined : IsJoined d received_in sent_in v
  pub served : AllByRecursion (HasJoinedAll v) d.senders
