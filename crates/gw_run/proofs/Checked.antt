-- Why a check answers as it does.
use Rattle.std.proofs.Common.{◌≡◌, ◌⊎◌, ℕ, true, false, None, List, refl, subst, sym, ap, inl, inr}
use Rattle.gw_depot.specs.Fault.{Blame}
use Rattle.gw_depot.specs.Files.{Files}
use Rattle.gw_depot.specs.Outside.{DepotState, SinkState}
use Rattle.gw_run.specs.declared.status.FileRole.TheVariants.{Say}
use Rattle.gw_run.specs.declared.status.Status.{Status}
use Rattle.gw_run.specs.declared.status.Status.TheVariants.{Ok, Accepted, Usage, ConfigRefused, LogRefused, Unbuilt, ReadFault, WriteFault, Memory, Limit}
use Rattle.gw_run.specs.declared.status.Which.TheVariants.{ConfigBytes, Lines, Ticks}
use Rattle.gw_run.specs.Answered.{IsCutShort}
use Rattle.gw_run.specs.Checked.{AnswersCheck, HoldsAccepted, IsCheckCause, IsCheckFault}
use Rattle.gw_run.specs.Say.{AfterTelling}
use Rattle.gw_run.specs.Status.{is_done}
use Rattle.gw_run.proofs.Refused.{ConfigEnd, ConfigIs, Good, Bad, Long, config-once}

-- ---- what is answered of it

abbrev Says : ConfigEnd → Status → Type 0
Says (Good c) status = (status ≡ Accepted) ⊎ (status ≡ WriteFault Say)
Says (Bad cause) status = status ≡ ConfigRefused cause
Says Long status = status ≡ Limit ConfigBytes 65_537

-- an answer that isn't cut short says what was found
found_of : (before : Files) (config : List ℕ) (faults faults' : ℕ) (blame : Blame) (said said' : ℕ) (status : Status) →
    IsCheckCause before config status → IsCheckFault config faults faults' blame said said' status →
    ((found : ConfigEnd) × ConfigIs before config None found × Says found status) ⊎ IsCutShort status
found_of before config faults faults' blame said said' (Ok summary) cause fault = absurd cause
found_of before config faults faults' blame said said' Accepted cause fault = inl (Good cause.0, cause.1, inl refl)
found_of before config faults faults' blame said said' Usage cause fault = absurd cause
found_of before config faults faults' blame said said' (ConfigRefused why) cause fault = inl (Bad why, cause, refl)
found_of before config faults faults' blame said said' (LogRefused bus line why) cause fault = absurd cause
found_of before config faults faults' blame said said' (Unbuilt form) cause fault = absurd cause
found_of before config faults faults' blame said said' (ReadFault role) cause fault = inr tt
found_of before config faults faults' blame said said' (WriteFault role) cause fault = inl (Good cause.0, cause.1, inr (ap WriteFault fault.0))
found_of before config faults faults' blame said said' Memory cause fault = inr tt
found_of before config faults faults' blame said said' (Limit ConfigBytes value) cause fault = inl (Long, cause.1, ap (Limit ConfigBytes) cause.0)
found_of before config faults faults' blame said said' (Limit Lines value) cause fault = absurd cause
found_of before config faults faults' blame said said' (Limit Ticks value) cause fault = absurd cause

-- what is found is what is said
said_of : (before : Files) (config : List ℕ) (status : Status) → ((found : ConfigEnd) × ConfigIs before config None found × Says found status) ⊎ IsCutShort status →
    (there : ConfigEnd) → ConfigIs before config None there → Says there status ⊎ IsCutShort status
said_of before config status (inr short) there is = inr short
said_of before config status (inl (found, finds, says)) there is = inl (subst (λ f. Says f status) (config-once before config None found there finds is) says)

-- what is answered of a status holds of it
answers-of : (old new : DepotState) (config : List ℕ) (said said' : SinkState) (result : Status) →
    new.files ≡ old.files → (old.told ≡ true → IsCheckCause old.files config result) → IsCheckFault config old.faults new.faults new.blame said.faults said'.faults result →
    AnswersCheck old new config said said' result
answers-of old new config said said' result files cause fault = record {
  cause = cause;
  exact = λ is.
      let one = found_of old.files config old.faults new.faults new.blame said.faults said'.faults result (cause is) fault in
      record {
        accepted = λ holds. elim (said_of old.files config result one (Good holds.0) holds.1) [
          | inl says ↦ elim says [ inl accepted ↦ inl accepted | inr unsaid ↦ inr (inl unsaid) ]
          | inr short ↦ inr (inr short)
        ];
        refused = λ why holds. said_of old.files config result one (Bad why) holds;
        limit = λ long. said_of old.files config result one Long long;
      };
  files = files;
  fault = fault;
}

-- a check that was done has accepted
accepted_of : (before : Files) (config : List ℕ) (status : Status) → is_done status ≡ true → IsCheckCause before config status → HoldsAccepted before config
accepted_of before config (Ok summary) done cause = absurd cause
accepted_of before config Accepted done cause = cause
accepted_of before config Usage done cause = absurd cause
accepted_of before config (ConfigRefused why) done cause = let clash : false ≡ true = done in cc
accepted_of before config (LogRefused bus line why) done cause = absurd cause
accepted_of before config (Unbuilt form) done cause = absurd cause
accepted_of before config (ReadFault role) done cause = let clash : false ≡ true = done in cc
accepted_of before config (WriteFault role) done cause = cause
accepted_of before config Memory done cause = let clash : false ≡ true = done in cc
accepted_of before config (Limit which value) done cause = let clash : false ≡ true = done in cc

-- what was told of a status is answered for the status's reasons
pub answers_check : (old new : DepotState) (config : List ℕ) (said said' : SinkState) (status result : Status) →
    new.files ≡ old.files → (old.told ≡ true → IsCheckCause old.files config status) → IsCheckFault config old.faults new.faults new.blame said.faults said'.faults status → AfterTelling status said.faults said'.faults result →
    AnswersCheck old new config said said' result
answers_check old new config said said' status result files cause fault (inl same) =
    subst (λ r. AnswersCheck old new config said said' r) (sym same)
    (answers-of old new config said said' status files cause fault)
answers_check old new config said said' status result files cause fault (inr (was, inl (same, rose))) =
    subst (λ r. AnswersCheck old new config said said' r) (sym same)
    (answers-of old new config said said' (WriteFault Say) files (λ is. accepted_of old.files config status was (cause is)) (refl, rose))
answers_check old new config said said' status result files cause fault (inr (was, inr same)) =
    subst (λ r. AnswersCheck old new config said said' r) (sym same)
    (answers-of old new config said said' Memory files (λ is. tt) tt)
