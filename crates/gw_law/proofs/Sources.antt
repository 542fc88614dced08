-- The laws of each source channel, by its receiver's run.
use Rattle.std.proofs.Common.{◌≡◌, ℕ, ◌+◌, ◌≤◌, Bool, Some, List, [], ◌∷◌, ap, subst, arith}
use Rattle.std.specs.Prelude.{slice_get}
use Rattle.std.specs.List.{AllByRecursion}
use Rattle.gw_base.proofs.Lists.{all-at, all-join, all-weaker, zip-at}
use Rattle.hub_core.proofs.Changed.{all-by as all-items}
use Rattle.hub_core.specs.Turns.{records_by, state_after}
use Rattle.hub_core.specs.View.{View}
use Rattle.hub_core.specs.declared.record.SessionRecord.{SessionRecord}
use Rattle.receiver_law.proofs.runs.RxFollows.{records-follow}
use Rattle.receiver_law.proofs.runs.RxFuller.{law-fuller}
use Rattle.receiver_law.proofs.runs.RxLaws.{reception_law_of, source_law_of_run}
use Rattle.receiver_law.proofs.runs.RxRises.{controls-of-run-rise}
use Rattle.receiver_law.proofs.runs.RxWritten.{are-controls}
use Rattle.receiver_law.specs.Channel.{SourceChannel}
use Rattle.receiver_law.specs.Laws.{HasLimits}
use Rattle.receiver_law.specs.ReceptionCauses.{ReceptionLaw}
use Rattle.receiver_law.specs.RxRun.{IsRxRun, RxRun, source_of, turns_in}
use Rattle.receiver_law.specs.Source.{SourceLaw}
use Rattle.tp_receiver.proofs.OwnSteps.{own-step}
use Rattle.tp_receiver.specs.Effects.{IsMadeNow}
use Rattle.tp_receiver.specs.Runs.{HasReceived, controls_by}
use Rattle.tp_receiver.specs.State.{RxTurn, rx_new}
use Rattle.tp_receiver.specs.declared.set.RxSet.{RxSet}
use Rattle.tp_unit.proofs.Rises.{Rise, all-by, at-most-once, never-fall}
use Rattle.gw_law.specs.Account.{Account}
use Rattle.gw_law.specs.Deeds.{Deeds, Window}
use Rattle.gw_law.specs.Emission.{ControlEmission}
use Rattle.gw_law.specs.Lawful.{IsLawfulSource, is_full_at}
use Rattle.gw_law.specs.Plan.{IsLawfulReceiving, Receiving}
use Rattle.gw_law.specs.Records.{IsOfSource, SessionRecords}
use Rattle.gw_law.specs.Rooms.{RoomLaw}
use Rattle.gw_law.specs.Run.{IsReceiverRun, IsRun}
use Rattle.gw_law.proofs.Readers.{Sees, all-see, reader-law}
use Rattle.gw_law.proofs.Rooms.{room-law}
use Rattle.gw_law.proofs.runs.Fronts.{TurnIn}
use Rattle.gw_law.proofs.runs.Moments.{rx-within}
use Rattle.gw_law.proofs.runs.RoomKept.{looks-of}

-- the records, in turns up to a tick
pub sessions-of : (set : RxSet) (last : ℕ) (turns : List RxTurn) → HasReceived set turns → AllByRecursion (TurnIn (λ (t : ℕ). t ≤ last)) turns → AllByRecursion (λ (told : SessionRecord). (told.chan ≡ set.chan) × (told.end.0 ≤ last)) (records_by turns)
sessions-of set last [] happened all = tt
sessions-of set last (turn ∷ earlier) happened all =
    all-join (λ (told : SessionRecord). (told.chan ≡ set.chan) × (told.end.0 ≤ last)) (records_by earlier) turn.did.records (sessions-of set last earlier happened.2 all.1)
    (all-weaker (IsMadeNow set turn.did.tick) (λ (told : SessionRecord). (told.chan ≡ set.chan) × (told.end.0 ≤ last)) turn.did.records (λ told is. (is.0, omega (arith, is.1, all.0)))
    (own-step set (state_after rx_new earlier) turn.event turn.did happened.1).ends)

records-of : (run : RxRun) (budget : ℕ) → IsRxRun run → SessionRecords (source_of budget run)
records-of run budget is = record {
  own = all-weaker (λ (told : SessionRecord). (told.chan ≡ run.set.chan) × (told.end.0 ≤ run.last)) (IsOfSource (source_of budget run)) (records_by (turns_in run)) (λ told so. record { chan = so.0; end = so.1 })
      (sessions-of run.set run.last (turns_in run) is.happened (rx-within run is));
  follow = records-follow run.set (turns_in run) is.happened;
}

emission-of : (run : RxRun) (budget : ℕ) → IsRxRun run → ControlEmission (source_of budget run)
emission-of run budget is =
    let written : List _ = controls_by run.shape (turns_in run) in
    let rises : Rise 0 written (run.last + 1) = controls-of-run-rise run is in
    record {
      order = never-fall 0 0 (run.last + 1) written (omega arith) rises;
      once = λ tick. at-most-once tick 0 (run.last + 1) written rises;
      end = all-by 0 (run.last + 1) run.last written (omega arith) rises;
      are_controls = are-controls run.set run.shape (turns_in run) is.happened;
    }

-- what is proved of what the run tells is proved of what is told of the channel
source-of : (a : Account) (d : Deeds) (windows : List Window) (v : View) (place : ℕ) (r : Receiving) (run : RxRun) → IsRun a d windows v → slice_get a.plan.receivers place ≡ Some r → slice_get d.receivers place ≡ Some run → IsLawfulReceiving a.plan r → IsReceiverRun a r run → IsLawfulSource a r
source-of a d windows v place r run whole here there plan is =
    let b : ℕ = a.plan.budget r.bus in
    let set : run.set ≡ r.set = ap (λ (c : SourceChannel). c.rx) is.tells in
    let full : ℕ → Bool = is_full_at a r in
    let limits : HasLimits run.set = record {
      n_ar = omega (arith, plan.n_ar, ap (λ (s : RxSet). s.n_ar) set);
      n_br = omega (arith, plan.n_br, ap (λ (s : RxSet). s.n_br) set);
      n_cr = omega (arith, plan.n_cr, ap (λ (s : RxSet). s.n_cr) set);
    } in
    record {
      source = subst (λ (c : SourceChannel). SourceLaw c.rx.chan.0 c.rx.a c.rx.functional c.seen c.sessions) is.tells (source_law_of_run run b is.run_is);
      records = subst SessionRecords is.tells (records-of run b is.run_is);
      emission = subst ControlEmission is.tells (emission-of run b is.run_is);
      receptions = subst (ReceptionLaw full) is.tells (law-fuller run.full full is.full (source_of b run) (reception_law_of run b is.run_is limits (looks-of a d windows v place run whole there is.run_is)));
      rooms = subst (RoomLaw a.plan.groups) is.tells (room-law a d windows v place run whole there is.run_is (Sees a d windows v place r run whole here there is) b (all-see a d windows v place r run whole here there is));
      readers = reader-law a d windows v place r run whole here there is;
    }

pub all-sources : (a : Account) (d : Deeds) (windows : List Window) (v : View) → IsRun a d windows v → AllByRecursion (IsLawfulSource a) a.plan.receivers
all-sources a d windows v is =
    all-items (IsLawfulSource a) a.plan.receivers (λ place r here.
    let run = zip-at (IsReceiverRun a) a.plan.receivers d.receivers place r is.receivers here in
    source-of a d windows v place r run.0 is here run.1 (all-at (IsLawfulReceiving a.plan) a.plan.receivers place r is.plan.receivers here) run.2)
