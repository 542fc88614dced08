-- The room that a source's records tell: by the freshness of its receiver's looks, and by what was put.
use Rattle.std.proofs.Common.{◌≡◌, ℕ, true, Option, Some, None, List, length, refl, ap, sym, ◌∙◌, subst, arith}
use Rattle.std.specs.Prelude.{is_some, not, slice_get}
use Rattle.gw_base.proofs.Lists.{all-at, same-some, zip-index, zip-pair}
use Rattle.hub_core.specs.Joint.{IsTaken}
use Rattle.hub_core.specs.Turns.{calls_by, came_by, records_by}
use Rattle.hub_core.specs.View.{Session, View, empty_view, session_at}
use Rattle.hub_core.specs.declared.record.SessionRecord.{SessionRecord}
use Rattle.hub_core.specs.declared.record.SessionResult.TheVariants.{NoRoom}
use Rattle.receiver_law.proofs.records.JointReceivers.{known-sessions}
use Rattle.receiver_law.proofs.records.JointSessions.{IsLeft}
use Rattle.receiver_law.proofs.records.PutCells.{AreSeen, TellsCells}
use Rattle.receiver_law.proofs.records.PutSteps.{AllSee, cells-told}
use Rattle.receiver_law.proofs.runs.RxLaws.{ends-idle, source_law_of_run}
use Rattle.receiver_law.proofs.sessions.Sessions.{stored_in}
use Rattle.receiver_law.specs.RxRun.{IsRxRun, RxRun, source_of, turns_in}
use Rattle.receiver_law.specs.Source.{SourceLaw, Tells, is_overflow}
use Rattle.tp_attempts.specs.Attempts.{attempts_in}
use Rattle.tp_attempts.specs.Cuts.{Cut}
use Rattle.tp_attempts.specs.Seen.{Seen}
use Rattle.tp_attempts.specs.Walk.{walk_of}
use Rattle.tp_receiver.specs.Runs.{frames_in}
use Rattle.tp_receiver.specs.State.{RxTurn}
use Rattle.gw_law.specs.Account.{Account}
use Rattle.gw_law.specs.Deeds.{Deeds, IsWrittenBy, Window, own_view}
use Rattle.gw_law.specs.Rooms.{HasCells, HasHadRoom, RoomLaw, TellsRoom}
use Rattle.gw_law.specs.Run.{IsRun}
use Rattle.gw_law.proofs.pools.Entries.{IsOpenedBy, opened-by}
use Rattle.gw_law.proofs.pools.PoolRuns.{run-of, source}
use Rattle.gw_law.proofs.runs.RoomKept.{room-kept}
use Rattle.gw_law.proofs.runs.Roomy.{IsRoomy, grows-roomy}

some-of : {A : Type 0} (x : Option A) → is_some x ≡ true → (y : A) × (x ≡ Some y)
some-of None is = absurd cc
some-of (Some y) is = (y, refl)

module _ (a : Account) (d : Deeds) (windows : List Window) (v : View) (place : ℕ) (run : RxRun) (is : IsRun a d windows v) (there : slice_get d.receivers place ≡ Some run) (run_is : IsRxRun run) (Sees : (seq tick : ℕ) → Type 0) where
  -- a record of too little room
  room-told : (k : ℕ) (attempt : Cut Seen) (told : SessionRecord) (room need : ℕ) → slice_get (records_by (turns_in run)) k ≡ Some told → Tells run.set.chan.0 run.set.a attempt told → TellsCells Sees run.set (calls_by (turns_in run)) attempt told → told.result ≡ NoRoom room need →
      HasHadRoom a.plan.groups (walk_of run.set.a attempt).pieces told room
  room-told k attempt told room need at tells cells how =
      let turns : List RxTurn = turns_in run in
      let path : ℕ = run.set.path.0 in
      let opens : is_some told.opened ≡ true = tells.opens ∙ ap (λ r. not (is_overflow r)) how in
      let opened = some-of told.opened opens in
      let by : IsOpenedBy v path opened.0 = opened-by v (source run) k told opened.0 (run-of a d windows v run.set.group.0 place run is there refl) at opened.1 in
      let sessions : IsWrittenBy v run turns = all-at (λ (x : RxRun). IsWrittenBy v x (turns_in x)) d.receivers place run is.joined.sessions there in
      let own : session_at (own_view (calls_by turns)) path opened.0.seq ≡ Some by.session = ap (λ l. slice_get l opened.0.seq) (sym sessions) ∙ by.there in
      let left : IsLeft run.set ((own_view (calls_by turns)).sessions path) told opened.0 = all-at _ (records_by turns) k told (known-sessions run.set turns run_is.happened).told at opened.0 opened.1 in
      let same : left.session ≡ by.session = same-some left.there own in
      let room_is : by.session.room ≡ room = ap (λ (s : Session). s.room) (sym same) ∙ left.full room need how in
      let roomy : IsRoomy by.session = grows-roomy (calls_by turns) empty_view (room-kept a d windows v place run is there run_is) (λ q j s none. cc) path opened.0.seq by.session own in
      let take : AreSeen Sees opened.0.seq (walk_of run.set.a attempt).pieces told.bytes _ = cells opened.0 opened.1 in
      let taken : IsTaken a.plan.groups v by.session = is.joint.owned.taken path opened.0.seq by.session by.there in
      let H : ℕ → Type 0 = λ buf. HasCells a.plan.groups buf by.session.size in
      record {
        opened = opened.0;
        opened_is = opened.1;
        size = by.session.size;
        size_is = subst H by.buf taken.size;
        put = take.put;
        are_put = take.are_put;
        most = omega (arith, roomy.most, room_is);
        least = omega (arith, roomy.least, room_is, take.least, ap length (stored_in run.set turns run_is.happened opened.0.seq by.session own));
      }

  pub room-law : (budget : ℕ) → AllSee Sees run.set (turns_in run) → RoomLaw a.plan.groups (source_of budget run)
  room-law budget see =
      let turns : List RxTurn = turns_in run in
      let attempts : List (Cut Seen) = attempts_in run.set.functional (came_by frames_in turns) in
      let law : SourceLaw run.set.chan.0 run.set.a run.set.functional _ (records_by turns) = source_law_of_run run budget run_is in
      zip-index (TellsCells Sees run.set (calls_by turns)) (TellsRoom a.plan.groups run.set.a) attempts (records_by turns)
      (λ k attempt told here at cells room need how. room-told k attempt told room need at (zip-pair (Tells run.set.chan.0 run.set.a) attempts (records_by turns) k attempt told law.tells here at) cells how)
      (cells-told Sees run.set turns run_is.happened (ends-idle run run_is) see)
