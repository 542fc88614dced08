-- Each record tells whose it is, and as its end the tick of the step that made it.
use Rattle.std.proofs.Common.{◌≡◌, ℕ, List, [], ◌∷◌, ◌++◌, refl, ap, sym, ◌∙◌, subst, append-nil, append_assoc}
use Rattle.std.specs.List.{AllByRecursion}
use Rattle.hub_core.specs.Turns.{state_after, records_by}
use Rattle.hub_core.specs.declared.record.DestRecord.{DestRecord}
use Rattle.hub_core.specs.declared.record.SessionRecord.{SessionRecord}
use Rattle.hub_core.specs.declared.record.SessionResult.TheVariants.{NoReaders}
use Rattle.tp_receiver.specs.declared.set.RxSet.{RxSet}
use Rattle.tp_receiver.specs.Effects.{Ends, EndsAt, Forgets, IsMadeNow, Looks, Opens, Puts, Refuses, RxDone, RxEffect, RxStage, Waits}
use Rattle.tp_receiver.specs.Runs.{HasReceived}
use Rattle.tp_receiver.specs.State.{RxState, RxEvent, RxDid, RunEnd as RunEnded, RxTurn, rx_new}
use Rattle.tp_receiver.specs.Table.{RxStep}
use Rattle.tp_receiver.proofs.OwnSteps.{own-step}
use Rattle.tp_receiver.proofs.Through.{state-through}
use Rattle.tp_sender.specs.declared.set.TxSet.{TxSet}
use Rattle.tp_sender.specs.Runs.{HasSent}
use Rattle.tp_sender.specs.State.{TxTurn, tx_new}
use Rattle.gw_law.proofs.runs.Fronts.{TurnIn}
use Rattle.sender_law.proofs.records.Origins.{Any, InTicks, IsToldBy, told-by}
use Rattle.gw_base.proofs.Lists.{all-join, all-weaker}

-- at the run's end no record tells that no destination reads
no-readers : (set : RxSet) (event : RxEvent) (tick : ℕ) (old : RxStage) (done : RxDone) → event ≡ RunEnded → RxEffect set event tick old done → AllByRecursion (λ (told : SessionRecord). told.result ≡ NoReaders → ⊥) done.records
no-readers set event tick old done end (Refuses e) = rw e.records ((λ is. cc), tt)
no-readers set event tick old done end (Opens e) = rw e.records tt
no-readers set event tick old done end (Looks e) = rw e.records tt
no-readers set event tick old done end (Puts e) = rw e.records tt
no-readers set event tick old done end (Waits e) = rw e.records tt
no-readers set event tick old done end (Forgets e) = rw e.records tt
no-readers set event tick old done end (Ends e) = rw e.records ((λ is. (subst (EndsAt set event old e.busy) is e.at).3 end), tt)

pub end-tells : (set : RxSet) (old : RxState) (m : RxDid) → RxStep set old RunEnded m → AllByRecursion (λ (told : SessionRecord). told.result ≡ NoReaders → ⊥) m.records
end-tells set old m row =
    let Told : List SessionRecord → Type 0 = λ records. AllByRecursion (λ (told : SessionRecord). told.result ≡ NoReaders → ⊥) records in
    state-through set old RunEnded m (λ state calls records. Told records)
    (λ stage done calls records effect so. all-join (λ (told : SessionRecord). told.result ≡ NoReaders → ⊥) records done.records so (no-readers set RunEnded m.tick stage done refl effect)) row [] [] tt

-- the receiver's records
pub record MoreTold (P : SessionRecord → Type 0) (front whole : List SessionRecord) : Type 0 where
  pub more : List SessionRecord
  pub is : whole ≡ front ++ more
  pub all : AllByRecursion P more

pub turns-told : (P : ℕ → Type 0) (set : RxSet) (turns earlier : List RxTurn) → HasReceived set (turns ++ earlier) → AllByRecursion (TurnIn P) turns → MoreTold (λ (told : SessionRecord). P told.end.0) (records_by earlier) (records_by (turns ++ earlier))
turns-told P set [] earlier happened all = record { more = []; is = sym (append-nil (records_by earlier)); all = tt }
turns-told P set (turn ∷ turns) earlier happened all =
    let so = turns-told P set turns earlier happened.2 all.1 in
    let old : RxState = state_after rx_new (turns ++ earlier) in
    record {
      more = so.more ++ turn.did.records;
      is = ap (λ l. l ++ turn.did.records) so.is ∙ append_assoc (records_by earlier) so.more turn.did.records;
      all = all-join (λ (told : SessionRecord). P told.end.0) so.more turn.did.records so.all
          (all-weaker (IsMadeNow set turn.did.tick) (λ (told : SessionRecord). P told.end.0) turn.did.records (λ told is. subst P (sym is.1) all.0) (own-step set old turn.event turn.did happened.1).ends);
    }

-- the sender's records
pub record MoreSent (P : DestRecord → Type 0) (front whole : List DestRecord) : Type 0 where
  pub more : List DestRecord
  pub is : whole ≡ front ++ more
  pub all : AllByRecursion P more

pub moments-told : (P : ℕ → Type 0) (set : TxSet) (moments earlier : List TxTurn) → HasSent set (moments ++ earlier) → AllByRecursion (InTicks P) moments → MoreSent (λ (told : DestRecord). P told.end.0) (records_by earlier) (records_by (moments ++ earlier))
moments-told P set [] earlier happened all = record { more = []; is = sym (append-nil (records_by earlier)); all = tt }
moments-told P set (m ∷ moments) earlier happened all =
    let so = moments-told P set moments earlier happened.2 all.1 in
    record {
      more = so.more ++ m.did.records;
      is = ap (λ l. l ++ m.did.records) so.is ∙ append_assoc (records_by earlier) so.more m.did.records;
      all = all-join (λ (told : DestRecord). P told.end.0) so.more m.did.records so.all
          (all-weaker (IsToldBy Any set m.did) (λ (told : DestRecord). P told.end.0) m.did.records (λ told is. subst P (sym is.end) all.0) (told-by set (state_after tx_new (moments ++ earlier)) m happened.1.1));
    }
