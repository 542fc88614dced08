-- A run is decided in one way: by the first cause that stands in its files, or by none.
use Rattle.std.proofs.Common.{◌≡◌, ◌⊎◌, ℕ, zero, suc, ◌+◌, ◌-◌, Bool, Some, List, ◌++◌, refl, subst, sym, ◌∙◌, ap, inl, inr, arith}
use Rattle.candump_line.specs.declared.fault.LineFault.{LineFault}
use Rattle.gw_base.specs.declared.numbers.BusNo.{BusNo}
use Rattle.gw_depot.specs.Fault.{Blame, Rose}
use Rattle.gw_depot.specs.Files.{Files}
use Rattle.gw_depot.specs.Outside.{DepotState, SinkState}
use Rattle.candump_line.specs.declared.fault.LineFault.{LineFault}
use Rattle.candump_log.specs.declared.log.Stamped.{Stamped}
use Rattle.gw_run.specs.declared.status.FileRole.{FileRole}
use Rattle.gw_run.specs.declared.status.FileRole.TheVariants.{Config, Log, Out, Report, Say}
use Rattle.gw_run.specs.declared.status.Form.{Form}
use Rattle.gw_run.specs.declared.status.Form.TheVariants.{Configuration as WholeConfiguration}
use Rattle.gw_config.specs.Config.{Configuration}
use Rattle.gw_run.specs.declared.status.Status.{Status}
use Rattle.gw_run.specs.declared.status.Status.TheVariants.{Ok, Accepted, Usage, ConfigRefused, LogRefused, Unbuilt, ReadFault, WriteFault, Memory, Limit}
use Rattle.gw_run.specs.declared.status.Which.{Which}
use Rattle.gw_run.specs.declared.status.Which.TheVariants.{ConfigBytes, Lines, Ticks}
use Rattle.gw_run.specs.Answered.{IsCutShort, IsExact, IsComplete, IsFaultOf}
use Rattle.gw_run.specs.Causes.{IsCause, IsRefusedLine, LeavesFiles, PassesLog, StopsLog, TooManyTicks}
use Rattle.gw_run.specs.Results.{ReadFailed, WriteFailed}
use Rattle.gw_run.specs.Setup.{Bus, IsBuiltConfig, Setup}
use Rattle.gw_run.specs.Start.{stamps_of}
use Rattle.gw_run.specs.Forwarded.{Forwards, HoldsLog, IfDone, IsBuilt, IsConfigured, HasLawfulTicks, last_of}
use Rattle.candump_log.specs.Log.{GoesPast, StopsAt}
use Rattle.candump_log.proofs.Cuts.{taken-once, stops-once, stops-or_taken, stops-or_passes, passes-or_taken}
use Rattle.gw_run.specs.Log.{IsLogOfBus, source_of}
use Rattle.gw_run.proofs.Refused.{Bad, ConfigEnd, ConfigIs, Good, Long, config-once}
use Rattle.gw_run.proofs.Setups.{setup-once}
use Rattle.gw_run.proofs.Starts.{start-once}
use Rattle.gw_base.proofs.Lists.{same-some}

-- ---- how a log ends

pub data LogEnd : Type 0 where
  AtLine : ℕ → LineFault → LogEnd
  Past : LogEnd
  Whole : ℕ → List Stamped → LogEnd

abbrev Ends : Files → Bus → (most : ℕ) → LogEnd → Type 0
Ends before bus most (AtLine number fault) = StopsLog before bus most number fault
Ends before bus most Past = PassesLog before bus most
Ends before bus most (Whole count frames) = HoldsLog before bus most count frames

stops-holds : (before : Files) (bus : Bus) (most number : ℕ) (fault : LineFault) (count : ℕ) (frames : List Stamped) → StopsLog before bus most number fault → ¬ HoldsLog before bus most count frames
stops-holds before bus most number fault count frames stops holds =
    let same = same-some holds.there stops.there in
    stops-or_taken (source_of bus) most stops.content number fault count frames stops.stops (subst (λ c. IsLogOfBus bus c count frames) same holds.is_log)

stops-passes : (before : Files) (bus : Bus) (most number : ℕ) (fault : LineFault) → StopsLog before bus most number fault → ¬ PassesLog before bus most
stops-passes before bus most number fault stops past =
    let same = same-some past.there stops.there in
    stops-or_passes (source_of bus) most stops.content number fault stops.stops (subst (λ c. GoesPast (source_of bus) c most) same past.goes_past)

passes-holds : (before : Files) (bus : Bus) (most count : ℕ) (frames : List Stamped) → PassesLog before bus most → ¬ HoldsLog before bus most count frames
passes-holds before bus most count frames past holds =
    let same = same-some holds.there past.there in
    passes-or_taken (source_of bus) most past.content count frames holds.few past.goes_past (subst (λ c. IsLogOfBus bus c count frames) same holds.is_log)

same_stop : (m n : ℕ) (r s : LineFault) → (m ≡ n) × (r ≡ s) → AtLine m r ≡ AtLine n s
same_stop m n r s same = ap (λ k. AtLine k r) same.0 ∙ ap (AtLine n) same.1

same_whole : (m n : ℕ) (frames frames' : List Stamped) → (m ≡ n) × (frames ≡ frames') → Whole m frames ≡ Whole n frames'
same_whole m n frames frames' same = ap (λ k. Whole k frames) same.0 ∙ ap (Whole n) same.1

end-once : (before : Files) (bus : Bus) (most : ℕ) (e f : LogEnd) → Ends before bus most e → Ends before bus most f → e ≡ f
end-once before bus most (AtLine m r) (AtLine n s) one other =
    let same = same-some one.there other.there in
    same_stop m n r s (stops-once (source_of bus) most other.content m n r s (subst (λ c. StopsAt (source_of bus) most c m r) same one.stops) other.stops)
end-once before bus most (AtLine m r) Past one other = absurd (stops-passes before bus most m r one other)
end-once before bus most (AtLine m r) (Whole count frames) one other = absurd (stops-holds before bus most m r count frames one other)
end-once before bus most Past (AtLine n s) one other = absurd (stops-passes before bus most n s other one)
end-once before bus most Past Past one other = refl
end-once before bus most Past (Whole count frames) one other = absurd (passes-holds before bus most count frames one other)
end-once before bus most (Whole count frames) (AtLine n s) one other = absurd (stops-holds before bus most n s count frames other one)
end-once before bus most (Whole count frames) Past one other = absurd (passes-holds before bus most count frames other one)
end-once before bus most (Whole m frames) (Whole n frames') one other =
    let same = same-some one.there other.there in
    same_whole m n frames frames' (taken-once (source_of bus) other.content m n frames frames' (subst (λ c. IsLogOfBus bus c m frames) same one.is_log) other.is_log)

-- ---- how the ticks end

pub data PlanEnd : Type 0 where
  Many : ℕ → PlanEnd
  Fits : PlanEnd

abbrev Plans : Setup → (source destination : List Stamped) → PlanEnd → Type 0
Plans setup source destination (Many value) = TooManyTicks setup source destination value
Plans setup source destination Fits = (start : ℕ) × HasLawfulTicks setup source destination start

many-or_in_time : (setup : Setup) (source destination : List Stamped) (value start : ℕ) → TooManyTicks setup source destination value → HasLawfulTicks setup source destination start → ⊥
many-or_in_time setup source destination value start many lawful =
    let same : many.start ≡ start = start-once (stamps_of source ++ stamps_of destination) many.start start many.begins lawful.begins in
    let count : value ≡ last_of setup start source destination + 1 = many.count ∙ ap (λ n. last_of setup n source destination + 1) same in
    omega (arith, count, many.over, lawful.in_time)

plan-once : (setup : Setup) (source destination : List Stamped) (p q : PlanEnd) → Plans setup source destination p → Plans setup source destination q → p ≡ q
plan-once setup source destination (Many v) (Many w) one other =
    let same : one.start ≡ other.start = start-once (stamps_of source ++ stamps_of destination) one.start other.start one.begins other.begins in
    ap Many (one.count ∙ ap (λ n. last_of setup n source destination + 1) same ∙ sym other.count)
plan-once setup source destination (Many v) Fits one (start, other) = absurd (many-or_in_time setup source destination v start one other)
plan-once setup source destination Fits (Many w) (start, one) other = absurd (many-or_in_time setup source destination w start other one)
plan-once setup source destination Fits Fits one other = refl

-- ---- what is answered of them

-- the run came as far as its outputs
abbrev IsLate : Status → Type 0
IsLate (Ok summary) = Unit {0}
IsLate Accepted = ⊥
IsLate Usage = ⊥
IsLate (ConfigRefused cause) = ⊥
IsLate (LogRefused bus line fault) = ⊥
IsLate (Unbuilt form) = ⊥
IsLate (ReadFault role) = ⊥
IsLate (WriteFault role) = Unit {0}
IsLate Memory = ⊥
IsLate (Limit which value) = ⊥

-- the line of the bus is refused
abbrev SaysLine : (bus number : ℕ) → LineFault → Status → Type 0
SaysLine bus number fault status = (place : BusNo) × (place.0 ≡ bus) × (status ≡ LogRefused place number fault)

abbrev LogSays : ℕ → (ℕ → List Stamped → Status → Type 0) → LogEnd → Status → Type 0
LogSays bus next (AtLine number fault) status = SaysLine bus number fault status
LogSays bus next Past status = status ≡ Limit Lines 1_000_001
LogSays bus next (Whole count frames) status = next count frames status

abbrev PlanSays : PlanEnd → Status → Type 0
PlanSays (Many value) status = status ≡ Limit Ticks value
PlanSays Fits status = IsLate status

abbrev AfterBoth : Setup → (source destination : List Stamped) → Status → Type 0
AfterBoth setup source destination status = (p : PlanEnd) × Plans setup source destination p × PlanSays p status

abbrev AfterFirst : Files → Setup → (lines : ℕ) → (source : List Stamped) → Status → Type 0
AfterFirst before setup lines source status = (e : LogEnd) × Ends before setup.destination (1_000_000 - lines) e × LogSays 1 (λ count. AfterBoth setup source) e status

-- what is decided of a configuration that is accepted
pub data ConfigSays (before : Files) (c : Configuration) (status : Status) : Type 0 where
  NotBuilt : ((setup : Setup) → ¬ IsBuiltConfig c setup) → status ≡ Unbuilt WholeConfiguration → ConfigSays before c status
  IsBuiltAs : (setup : Setup) → IsBuiltConfig c setup → (e : LogEnd) → Ends before setup.source 1_000_000 e → LogSays 0 (AfterFirst before setup) e status → ConfigSays before c status

abbrev EndSays : Files → ConfigEnd → Status → Type 0
EndSays before (Good c) status = ConfigSays before c status
EndSays before (Bad cause) status = status ≡ ConfigRefused cause
EndSays before Long status = status ≡ Limit ConfigBytes 65_537

abbrev Decides : Files → (config report : List ℕ) → Status → Type 0
Decides before config report status = (e : ConfigEnd) × ConfigIs before config (Some report) e × EndSays before e status

abbrev IsSame : Status → Status → Type 0
IsSame s t = (s ≡ t) ⊎ (IsLate s × IsLate t)

line-once : (bus number : ℕ) (fault : LineFault) (s t : Status) → SaysLine bus number fault s → SaysLine bus number fault t → IsSame s t
line-once bus number fault s t (a, at, one) (b, bt, other) =
    let place : ℕ → BusNo = λ n. record { 0 = n } in
    let same : a ≡ b = ap place (at ∙ sym bt) in
    inl (one ∙ ap (λ bus. LogRefused bus number fault) same ∙ sym other)

log_says-once : (bus : ℕ) (next : ℕ → List Stamped → Status → Type 0) (e : LogEnd) (s t : Status) →
    ((count : ℕ) (frames : List Stamped) → next count frames s → next count frames t → IsSame s t) → LogSays bus next e s → LogSays bus next e t → IsSame s t
log_says-once bus next (AtLine number fault) s t later one other = line-once bus number fault s t one other
log_says-once bus next Past s t later one other = inl (one ∙ sym other)
log_says-once bus next (Whole count frames) s t later one other = later count frames one other

plan_says-once : (p : PlanEnd) (s t : Status) → PlanSays p s → PlanSays p t → IsSame s t
plan_says-once (Many value) s t one other = inl (one ∙ sym other)
plan_says-once Fits s t one other = inr (one, other)

after_both-once : (setup : Setup) (source destination : List Stamped) (s t : Status) → AfterBoth setup source destination s → AfterBoth setup source destination t → IsSame s t
after_both-once setup source destination s t (p, is, one) (q, is', other) =
    plan_says-once q s t (subst (λ r. PlanSays r s) (plan-once setup source destination p q is is') one) other

after_first-once : (before : Files) (setup : Setup) (lines : ℕ) (source : List Stamped) (s t : Status) → AfterFirst before setup lines source s → AfterFirst before setup lines source t → IsSame s t
after_first-once before setup lines source s t (e, is, one) (f, is', other) =
    log_says-once 1 (λ count. AfterBoth setup source) f s t (λ count destination. after_both-once setup source destination s t)
    (subst (λ g. LogSays 1 (λ count. AfterBoth setup source) g s) (end-once before setup.destination (1_000_000 - lines) e f is is') one) other

logs-once : (before : Files) (setup : Setup) (e f : LogEnd) (s t : Status) → Ends before setup.source 1_000_000 e → Ends before setup.source 1_000_000 f →
    LogSays 0 (AfterFirst before setup) e s → LogSays 0 (AfterFirst before setup) f t → IsSame s t
logs-once before setup e f s t is is' one other =
    log_says-once 0 (AfterFirst before setup) f s t (λ lines source. after_first-once before setup lines source s t)
    (subst (λ g. LogSays 0 (AfterFirst before setup) g s) (end-once before setup.source 1_000_000 e f is is') one) other

config_says-once : (before : Files) (c : Configuration) (s t : Status) → ConfigSays before c s → ConfigSays before c t → IsSame s t
config_says-once before c s t (NotBuilt not one) (NotBuilt not' other) = inl (one ∙ sym other)
config_says-once before c s t (NotBuilt not one) (IsBuiltAs setup built e is other) = absurd (not setup built)
config_says-once before c s t (IsBuiltAs setup built e is one) (NotBuilt not other) = absurd (not setup built)
config_says-once before c s t (IsBuiltAs setup built e is one) (IsBuiltAs setup' built' f is' other) =
    let same : setup ≡ setup' = setup-once c setup setup' built built' in
    let P : Setup → Type 0 = λ x. Ends before x.source 1_000_000 e × LogSays 0 (AfterFirst before x) e s in
    let moved : P setup' = subst P same (is, one) in
    logs-once before setup' e f s t moved.0 is' moved.1 other

end_says-once : (before : Files) (e : ConfigEnd) (s t : Status) → EndSays before e s → EndSays before e t → IsSame s t
end_says-once before (Good c) s t one other = config_says-once before c s t one other
end_says-once before (Bad cause) s t one other = inl (one ∙ sym other)
end_says-once before Long s t one other = inl (one ∙ sym other)

decided-once : (before : Files) (config report : List ℕ) (s t : Status) → Decides before config report s → Decides before config report t → IsSame s t
decided-once before config report s t (e, is, one) (f, is', other) =
    end_says-once before f s t (subst (λ g. EndSays before g s) (config-once before config (Some report) e f is is') one) other

-- ---- each answer decides

configured-decides : (before : Files) (config report : List ℕ) (setup : Setup) (e : LogEnd) (status : Status) → IsConfigured before config report setup → Ends before setup.source 1_000_000 e →
    LogSays 0 (AfterFirst before setup) e status → Decides before config report status
configured-decides before config report setup e status set is says = (Good set.c, set.reads, IsBuiltAs setup set.built e is says)

built-decides : (before : Files) (config report : List ℕ) (setup : Setup) (source destination : List Stamped) (start : ℕ) (status : Status) →
    IsBuilt before config report setup source destination start → IsLate status → Decides before config report status
built-decides before config report setup source destination start status built late =
    configured-decides before config report setup (Whole built.logs.source_lines source) status built.configured built.logs.source_log (Whole built.logs.destination_lines destination, built.logs.destination_log, (Fits, (start, built.ticks), late))

line-decides : (before : Files) (config report : List ℕ) (setup : Setup) (place : BusNo) (bus number : ℕ) (fault : LineFault) → place.0 ≡ bus → IsConfigured before config report setup →
    IsRefusedLine before setup bus number fault → Decides before config report (LogRefused place number fault)
line-decides before config report setup place zero number fault is set stops =
    configured-decides before config report setup (AtLine number fault) (LogRefused place number fault) set stops (place, is, refl)
line-decides before config report setup place (suc zero) number fault is set stops =
    configured-decides before config report setup (Whole stops.lines stops.source) (LogRefused place number fault) set stops.source_log (AtLine number fault, stops.stops, (place, is, refl))
line-decides before config report setup place (suc (suc bus)) number fault is set none = absurd none

log-decides : (before : Files) (config report : List ℕ) (bus : BusNo) (number : ℕ) (fault : LineFault) → IsCause before config report (LogRefused bus number fault) → Decides before config report (LogRefused bus number fault)
log-decides before config report bus number fault (setup, set, line) = line-decides before config report setup bus bus.0 number fault refl set line

unbuilt-decides : (before : Files) (config report : List ℕ) (form : Form) → IsCause before config report (Unbuilt form) → Decides before config report (Unbuilt form)
unbuilt-decides before config report WholeConfiguration (c, reads, not) = (Good c, reads, NotBuilt not refl)

limit-decides : (before : Files) (config report : List ℕ) (which : Which) (value : ℕ) → IsCause before config report (Limit which value) → Decides before config report (Limit which value)
limit-decides before config report ConfigBytes value (is, long) = (Long, long, ap (Limit ConfigBytes) is)
limit-decides before config report Lines value (is, (setup, set, inl past)) = configured-decides before config report setup Past (Limit Lines value) set past (ap (Limit Lines) is)
limit-decides before config report Lines value (is, (setup, set, inr past)) =
    configured-decides before config report setup (Whole past.lines past.source) (Limit Lines value) set past.source_log (Past, past.passes, ap (Limit Lines) is)
limit-decides before config report Ticks value (setup, set, ticks) =
    configured-decides before config report setup (Whole ticks.logs.source_lines ticks.source) (Limit Ticks value) set ticks.logs.source_log (Whole ticks.logs.destination_lines ticks.destination, ticks.logs.destination_log, (Many value, ticks.over, refl))

-- an answer that isn't cut short decides
answer-decides : (before after : Files) (config report : List ℕ) (result : Status) → IfDone result (Forwards before after config report) →
    IsCause before config report result → LeavesFiles result before after config report → Decides before config report result ⊎ IsCutShort result
answer-decides before after config report (Ok summary) done cause files = inl (built-decides before config report done.setup done.source done.destination done.start (Ok summary) done.built tt)
answer-decides before after config report Accepted done cause files = absurd cause
answer-decides before after config report Usage done cause files = absurd cause
answer-decides before after config report (ConfigRefused why) done cause files = inl (Bad why, cause, refl)
answer-decides before after config report (LogRefused bus number fault) done cause files = inl (log-decides before config report bus number fault cause)
answer-decides before after config report (Unbuilt form) done cause files = inl (unbuilt-decides before config report form cause)
answer-decides before after config report (ReadFault role) done cause files = inr tt
answer-decides before after config report (WriteFault role) done cause (inl (written, begun)) =
    inl (built-decides before config report begun.setup begun.source begun.destination begun.start (WriteFault role) begun.built tt)
answer-decides before after config report (WriteFault role) done cause (inr (said, (summary, forwards))) =
    inl (built-decides before config report forwards.setup forwards.source forwards.destination forwards.start (WriteFault role) forwards.built tt)
answer-decides before after config report Memory done cause files = inr tt
answer-decides before after config report (Limit which value) done cause files = inl (limit-decides before config report which value cause)

-- a refusal that decides is the answer
same-answer : (before : Files) (config report : List ℕ) (result refusal : Status) → (Decides before config report result ⊎ IsCutShort result) →
    Decides before config report refusal → ¬ IsLate refusal → (result ≡ refusal) ⊎ IsCutShort result
same-answer before config report result refusal (inr short) decides early = inr short
same-answer before config report result refusal (inl one) decides early =
    elim (decided-once before config report result refusal one decides) [ inl same ↦ inl same | inr late ↦ absurd (early late.1) ]

-- a refusal comes wherever its cause stands
pub is_exact : (before after : Files) (config report : List ℕ) (result : Status) → IfDone result (Forwards before after config report) →
    IsCause before config report result → LeavesFiles result before after config report → IsExact before config report result
is_exact before after config report result done cause files =
    let answered = answer-decides before after config report result done cause files in
    record {
      refused = λ why is. same-answer before config report result (ConfigRefused why) answered (Bad why, is, refl) (λ late. late);
      log = λ bus number fault is. same-answer before config report result (LogRefused bus number fault) answered (log-decides before config report bus number fault is) (λ late. late);
      unbuilt = λ form is. same-answer before config report result (Unbuilt form) answered (unbuilt-decides before config report form is) (λ late. late);
      limit = λ which value is. same-answer before config report result (Limit which value) answered (limit-decides before config report which value is) (λ late. late);
    }

-- ---- what is built is done

-- what is built isn't refused
not_refused : (before : Files) (config report : List ℕ) (setup : Setup) (source destination : List Stamped) (start : ℕ) (refusal : Status) →
    IsBuilt before config report setup source destination start → Decides before config report refusal → ¬ IsLate refusal → ¬ (refusal ≡ WriteFault Say) → ⊥
not_refused before config report setup source destination start refusal built decides early other =
    elim (decided-once before config report refusal (WriteFault Say) decides (built-decides before config report setup source destination start (WriteFault Say) built tt)) [
      | inl same ↦ other same
      | inr late ↦ early late.0
    ]

-- a fault that is told has risen the count
read-rose : (setup : Setup) (faults faults' : ℕ) (blame : Blame) (role : FileRole) → ReadFailed setup faults faults' blame role → Rose faults faults'
read-rose setup faults faults' blame Config failed = absurd failed
read-rose setup faults faults' blame (Log bus) failed = failed.0
read-rose setup faults faults' blame (Out bus) failed = absurd failed
read-rose setup faults faults' blame Report failed = absurd failed
read-rose setup faults faults' blame Say failed = absurd failed

write-rose : (setup : Setup) (report : List ℕ) (faults faults' : ℕ) (blame : Blame) (role : FileRole) → WriteFailed setup report faults faults' blame role → Rose faults faults'
write-rose setup report faults faults' blame Config failed = absurd failed
write-rose setup report faults faults' blame (Log bus) failed = absurd failed
write-rose setup report faults faults' blame (Out bus) failed = failed.0
write-rose setup report faults faults' blame Report failed = failed.0
write-rose setup report faults faults' blame Say failed = absurd failed

pub is_complete : (old new : DepotState) (config report : List ℕ) (said said' : SinkState) (result : Status) →
    IsCause old.files config report result → IsFaultOf old new config report said said' result → IsComplete old new config report said said' result
is_complete old new config report said said' (Ok summary) cause fault setup source destination start built no_fault all_said = inl refl
is_complete old new config report said said' Accepted cause fault setup source destination start built no_fault all_said = absurd cause
is_complete old new config report said said' (ConfigRefused why) cause fault setup source destination start built no_fault all_said =
    absurd (not_refused old.files config report setup source destination start (ConfigRefused why) built (Bad why, cause, refl) (λ late. late) (λ e. cc))
is_complete old new config report said said' Usage cause fault setup source destination start built no_fault all_said = absurd cause
is_complete old new config report said said' (LogRefused bus number why) cause fault setup source destination start built no_fault all_said =
    absurd (not_refused old.files config report setup source destination start (LogRefused bus number why) built (log-decides old.files config report bus number why cause) (λ late. late) (λ e. cc))
is_complete old new config report said said' (Unbuilt form) cause fault setup source destination start built no_fault all_said =
    absurd (not_refused old.files config report setup source destination start (Unbuilt form) built (unbuilt-decides old.files config report form cause) (λ late. late) (λ e. cc))
is_complete old new config report said said' (ReadFault role) cause (inl (inl failed)) setup source destination start built no_fault all_said = absurd (no_fault failed.1)
is_complete old new config report said said' (ReadFault role) cause (inl (inr (of, is, failed))) setup source destination start built no_fault all_said =
    absurd (no_fault (read-rose of old.faults new.faults new.blame role failed))
is_complete old new config report said said' (ReadFault role) cause (inr unsaid) setup source destination start built no_fault all_said = absurd (all_said unsaid.1)
is_complete old new config report said said' (WriteFault role) cause (inl (of, is, failed)) setup source destination start built no_fault all_said =
    absurd (no_fault (write-rose of report old.faults new.faults new.blame role failed))
is_complete old new config report said said' (WriteFault role) cause (inr unsaid) setup source destination start built no_fault all_said = absurd (all_said unsaid.1)
is_complete old new config report said said' Memory cause fault setup source destination start built no_fault all_said = inr refl
is_complete old new config report said said' (Limit which value) cause fault setup source destination start built no_fault all_said =
    absurd (not_refused old.files config report setup source destination start (Limit which value) built (limit-decides old.files config report which value cause) (λ late. late) (λ e. cc))
