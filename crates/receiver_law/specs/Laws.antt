-- The laws of a receiver's runs, as their functions state them: whatever the receiver, its bus and its channel.
use Rattle.receiver_law.specs.Looks.{LooksKeepRoom}
use Rattle.std.specs.Prelude.{◌≡◌, ℕ, ◌≤◌, List, None, Some}
use Rattle.gw_base.specs.Cell.{bytes_of}
use Rattle.hub_core.specs.Turns.{calls_by, came_by, records_by, state_after}
use Rattle.hub_core.specs.View.{Session, empty_view, grows, session_at}
use Rattle.receiver_law.specs.ReceptionCauses.{ReceptionLaw}
use Rattle.receiver_law.specs.RxRun.{IsRxRun, RxRun, source_of, turns_in}
use Rattle.receiver_law.specs.Source.{SourceLaw, StoredLaw}
use Rattle.tp_receiver.specs.Runs.{HasReceived, frames_in, put_in}
use Rattle.tp_receiver.specs.State.{RxTurn, rx_new}
use Rattle.tp_receiver.specs.declared.set.RxSet.{RxSet}

-- a receiver that is idle after any steps has made one record for each start that came
abbrev pub StepsTellSources : Type 0
StepsTellSources = (set : RxSet) (turns : List RxTurn) → HasReceived set turns →
    (state_after rx_new turns).busy ≡ None →
    SourceLaw set.chan.0 set.a set.functional (came_by frames_in turns) (records_by turns)

-- and has put into the sessions just the bytes that the records tell
abbrev pub StepsStoreWhatIsTold : Type 0
StepsStoreWhatIsTold = (set : RxSet) (turns : List RxTurn) → HasReceived set turns →
    (state_after rx_new turns).busy ≡ None →
    StoredLaw set.a set.functional (λ seq. bytes_of (put_in set turns seq)) (came_by frames_in turns) (records_by turns)

-- after any steps each session of the path has just the cells that were put into it
abbrev pub SessionsHoldWhatIsPut : Type 0
SessionsHoldWhatIsPut = (set : RxSet) (turns : List RxTurn) → HasReceived set turns → (seq : ℕ) (session : Session) →
    session_at (grows (calls_by turns) empty_view) set.path.0 seq ≡ Some session → session.cells ≡ put_in set turns seq

-- after each run there is one record for each start that came
abbrev pub RunsTellSources : Type 0
RunsTellSources = (run : RxRun) (budget : ℕ) → IsRxRun run →
    SourceLaw run.set.chan.0 run.set.a run.set.functional (source_of budget run).seen (source_of budget run).sessions

-- the limits of a channel's flow controls and frames are at least a tick
pub record HasLimits (set : RxSet) : Type 0 where
  pub n_ar : 1 ≤ set.n_ar
  pub n_br : 1 ≤ set.n_br
  pub n_cr : 1 ≤ set.n_cr

-- in each run whose looks keep the room, the flow controls that leave are those of the receptions, and each record
-- comes of its cause
abbrev pub RunsHaveReceptions : Type 0
RunsHaveReceptions = (run : RxRun) (budget : ℕ) → IsRxRun run → HasLimits run.set →
    LooksKeepRoom run.set (calls_by (turns_in run)) → ReceptionLaw run.full (source_of budget run)
