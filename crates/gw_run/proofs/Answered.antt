-- Why a command answers as it does.
use Rattle.std.proofs.Common.{◌≡◌, ℕ, Bool, true, false, List, refl, subst, sym, inl, inr}
use Rattle.gw_depot.specs.Files.{Files}
use Rattle.gw_depot.specs.Outside.{DepotState, SinkState}
use Rattle.gw_run.specs.declared.status.FileRole.TheVariants.{Say}
use Rattle.gw_run.specs.declared.status.Status.{Status}
use Rattle.gw_run.specs.declared.status.Status.TheVariants.{Ok, Accepted, Usage, ConfigRefused, LogRefused, Unbuilt, ReadFault, WriteFault, Memory, Limit}
use Rattle.gw_run.specs.declared.status.Summary.{Summary}
use Rattle.gw_run.specs.Answered.{Answers, IsFaultOf}
use Rattle.gw_run.specs.Causes.{IsCause, IsFault, IsNamed, LeavesFiles}
use Rattle.gw_run.specs.Forwarded.{Forwards, IfDone}
use Rattle.gw_run.specs.Say.{AfterTelling}
use Rattle.gw_run.specs.Status.{is_done}
use Rattle.gw_run.proofs.Exact.{is_complete, is_exact}

-- what holds of a summary holds of that of a command that was done
summary_of : (P : Summary → Type 0) (status : Status) → is_done status ≡ true → IfDone status P → (summary : Summary) × P summary
summary_of P (Ok summary) done holds = (summary, holds)
summary_of P Accepted done holds = absurd holds
summary_of P Usage done holds = let clash : false ≡ true = done in cc
summary_of P (ConfigRefused cause) done holds = let clash : false ≡ true = done in cc
summary_of P (LogRefused bus line fault) done holds = let clash : false ≡ true = done in cc
summary_of P (Unbuilt form) done holds = let clash : false ≡ true = done in cc
summary_of P (ReadFault role) done holds = let clash : false ≡ true = done in cc
summary_of P (WriteFault role) done holds = let clash : false ≡ true = done in cc
summary_of P Memory done holds = let clash : false ≡ true = done in cc
summary_of P (Limit which value) done holds = let clash : false ≡ true = done in cc

-- what is answered of a status holds of it
answers-of : (old new : DepotState) (config report : List ℕ) (said said' : SinkState) (result : Status) →
    (old.told ≡ true → IfDone result (Forwards old.files new.files config report)) → (old.told ≡ true → IsCause old.files config report result) →
    (old.told ≡ true → LeavesFiles result old.files new.files config report) → IsFaultOf old new config report said said' result →
    Answers old new config report said said' result
answers-of old new config report said said' result done cause files fault = record {
  done = done;
  cause = cause;
  exact = λ is. is_exact old.files new.files config report result (done is) (cause is) (files is);
  complete = λ is. is_complete old new config report said said' result (cause is) fault;
  files = files;
  fault = fault;
}

-- what was told of a status is answered for the status's reasons
pub answers : (old new : DepotState) (config report : List ℕ) (said said' : SinkState) (status result : Status) →
    (old.told ≡ true → IfDone status (Forwards old.files new.files config report)) → (old.told ≡ true → IsCause old.files config report status) →
    (old.told ≡ true → LeavesFiles status old.files new.files config report) → IsFault old.told old.files config report old.faults new.faults new.blame status → AfterTelling status said.faults said'.faults result →
    Answers old new config report said said' result
answers old new config report said said' status result done cause files fault (inl same) =
    subst (λ r. Answers old new config report said said' r) (sym same)
    (answers-of old new config report said said' status done cause files (inl fault))
answers old new config report said said' status result done cause files fault (inr (was, inl (same, rose))) =
    subst (λ r. Answers old new config report said said' r) (sym same)
    (answers-of old new config report said said' (WriteFault Say) (λ is. tt) (λ is. tt) (λ is. inr (refl, summary_of _ status was (done is))) (inr (refl, rose)))
answers old new config report said said' status result done cause files fault (inr (was, inr same)) =
    subst (λ r. Answers old new config report said said' r) (sym same)
    (answers-of old new config report said said' Memory (λ is. tt) (λ is. tt) (λ is. inr (summary_of _ status was (done is))) (inl tt))

-- of a status that is answered, its name stands for the answer
pub named-told : (told : Bool) (before : Files) (config report : List ℕ) (said said' : ℕ) (status result : Status) (name : List ℕ) →
    IsNamed told before config report status name → AfterTelling status said said' result → IsNamed told before config report result name
named-told told before config report said said' status result name named (inl same) = subst (λ r. IsNamed told before config report r name) (sym same) named
named-told told before config report said said' status result name named (inr (was, inl (same, rose))) = subst (λ r. IsNamed told before config report r name) (sym same) tt
named-told told before config report said said' status result name named (inr (was, inr same)) = subst (λ r. IsNamed told before config report r name) (sym same) tt
