-- Which phase a session was in as it ended, by its result.
use Rattle.std.proofs.Common.{◌≡◌, ◌⊎◌, inl, inr, ℕ, List, [], refl, sym, ◌∙◌, subst, ap}
use Rattle.std.specs.List.{AllByRecursion}
use Rattle.gw_base.proofs.Lists.{all-weaker}
use Rattle.hub_core.specs.View.{Event}
use Rattle.hub_core.specs.declared.port.Seen.{Seen as Look}
use Rattle.hub_core.specs.declared.record.DestRecord.{DestRecord}
use Rattle.hub_core.specs.declared.record.DestResult.{DestResult}
use Rattle.hub_core.specs.declared.record.DestResult.TheVariants.{Sent, SourceEnded, BsTimeout, FcOverflow, InvalidFs, CsTimeout, AsTimeout, Cancelled, RunEnd as EndOfRun}
use Rattle.hub_core.specs.declared.record.TxWait.TheVariants.{Bus as ForBus, Turn as ForTurn, Start as ForStart}
use Rattle.tp_sender.specs.State.{Transmission, TxDid}
use Rattle.tp_sender.specs.Table.{Answered, Ends, FrameLeft, IdleRow, InAnswer, InBytes, InStart, InTurn, InWait, Lacks, LiveRow, all_sent, fetched, in_phase, joined_in, revoked, wait_of}
use Rattle.tp_sender.specs.Table.{AsksToWait, BlockLeft, Continues, Due, Enough, FindsOne, FirstLeft, GapLasts, GapOver, IsInvalid, Joins, LastLeft, MayCome, NeverReached, NextLeft, NotDue, NotReached, NothingStands, NothingToSend, Overflows, Reached, Short, TooLate, WriterGone}
use Rattle.tp_sender.specs.declared.event.TxEvent.{TxEvent}
use Rattle.tp_sender.specs.declared.event.TxEvent.TheVariants.{Turn, Fc as CameFc, Left, RunEnd}
use Rattle.tp_sender.specs.declared.set.TxSet.{TxSet}
use Rattle.tp_sender.specs.declared.transmission.Phase.{Phase}
use Rattle.tp_sender.specs.declared.transmission.Phase.TheVariants.{Start, Bytes, Box, Fc, Gap}
use Rattle.tp_unit.specs.Unit.{BoxMeaning, Keeps}
use Rattle.sender_law.specs.Boxed.{WaitedForBus}

-- a phase in which a turn may find that the source ended
abbrev pub MayLack : Phase → Type 0
MayLack Start = Unit {0}
MayLack Bytes = Unit {0}
MayLack Box = ⊥
MayLack Fc = ⊥
MayLack (Gap until) = Unit {0}

-- what a result says of the session that it ends, with so many sent bytes
abbrev pub EndsFrom : Transmission → TxEvent → (sent : ℕ) → DestResult → Type 0
EndsFrom s event sent Sent = Unit {0}
EndsFrom s event sent SourceEnded = (event ≡ Turn) × MayLack s.phase
EndsFrom s event sent BsTimeout = Unit {0}
EndsFrom s event sent FcOverflow = Unit {0}
EndsFrom s event sent (InvalidFs status) = Unit {0}
EndsFrom s event sent (CsTimeout seen) = Unit {0}
EndsFrom s event sent AsTimeout = (sent ≡ s.sent) × (s.phase ≡ Box)
EndsFrom s event sent Cancelled = Unit {0}
EndsFrom s event sent (EndOfRun wait since) = (sent ≡ s.sent) × (wait ≡ wait_of s.phase)

-- a record of the session that was being sent
pub record IsEndOf (s : Transmission) (event : TxEvent) (told : DestRecord) : Type 0 where
  pub seq : told.seq ≡ s.seq
  pub begin : told.begin.0 ≡ s.begin
  pub some : (told.sent ≡ s.sent) ⊎ (s.phase ≡ Box)
  pub from : EndsFrom s event told.sent told.result

abbrev AreEndsOf : Transmission → TxEvent → List DestRecord → Type 0
AreEndsOf s event records = AllByRecursion (IsEndOf s event) records

none : (s : Transmission) (event : TxEvent) (records : List DestRecord) → records ≡ [] → AreEndsOf s event records
none s event records is = let P : List DestRecord → Type 0 = λ l. AreEndsOf s event l in subst P (sym is) tt

-- the same session, later in the turn
record IsSame (s now : Transmission) : Type 0 where
  seq : now.seq ≡ s.seq
  begin : now.begin ≡ s.begin
  some : (now.sent ≡ s.sent) ⊎ (s.phase ≡ Box)

ends : (set : TxSet) (s now : Transmission) (event : TxEvent) (act : BoxMeaning) (result : DestResult) (calls : List Event) (did : TxDid) → IsSame s now → EndsFrom s event now.sent result → Ends set now act result calls did → AreEndsOf s event did.records
ends set s now event act result calls did same from row = let P : List DestRecord → Type 0 = λ l. AreEndsOf s event l in subst P (sym row.records) (record { seq = same.seq; begin = same.begin; some = same.some; from = from }, tt)

of-lacks : (set : TxSet) (s now : Transmission) (look : Look) (calls : List Event) (did : TxDid) → IsSame s now → MayLack s.phase → Lacks set now look calls did → AreEndsOf s Turn did.records
of-lacks set s now look calls did same may (WriterGone gone row) = ends set s now Turn Keeps SourceEnded calls did same (refl, may) row
of-lacks set s now look calls did same may (TooLate there late row) = ends set s now Turn Keeps (CsTimeout look.bytes) calls did same tt row
of-lacks set s now look calls did same may (MayCome there early row) = none s Turn did.records row.records

of-bytes : (set : TxSet) (s now : Transmission) (calls : List Event) (did : TxDid) → IsSame s now → MayLack s.phase → InBytes set now calls did → AreEndsOf s Turn did.records
of-bytes set s now calls did same may (Enough look cells fetches row) = none s Turn did.records row.records
of-bytes set s now calls did same may (Short look cells more fetches short lacks) = of-lacks set s (fetched cells now) look more did (record { seq = same.seq; begin = same.begin; some = same.some }) may lacks

of-start : (set : TxSet) (s : Transmission) (calls : List Event) (did : TxDid) → MayLack s.phase → InStart set s calls did → AreEndsOf s Turn did.records
of-start set s calls did may (Reached look more are is row) = of-bytes set s (in_phase Bytes did.tick s) more did (record { seq = refl; begin = refl; some = inl refl }) may row
of-start set s calls did may (NeverReached look more are is gone row) = ends set s s Turn Keeps SourceEnded more did (record { seq = refl; begin = refl; some = inl refl }) (refl, may) row
of-start set s calls did may (NotReached look more are is there row) = none s Turn did.records row.records

of-wait : (set : TxSet) (s : Transmission) (limit : ℕ) (result : DestResult) (calls : List Event) (did : TxDid) → EndsFrom s Turn s.sent result → InWait set s limit result calls did → AreEndsOf s Turn did.records
of-wait set s limit result calls did from (Due late row) = ends set s s Turn (revoked s.phase) result calls did (record { seq = refl; begin = refl; some = inl refl }) from row
of-wait set s limit result calls did from (NotDue early row) = none s Turn did.records row.records

of-turn : (set : TxSet) (s : Transmission) (phase : Phase) (calls : List Event) (did : TxDid) → s.phase ≡ phase → InTurn set s phase calls did → AreEndsOf s Turn did.records
of-turn set s Start calls did at row = of-start set s calls did (subst MayLack (sym at) tt) row
of-turn set s Bytes calls did at row = of-bytes set s s calls did (record { seq = refl; begin = refl; some = inl refl }) (subst MayLack (sym at) tt) row
of-turn set s Box calls did at row = of-wait set s set.n_as AsTimeout calls did (refl, at) row
of-turn set s Fc calls did at row = of-wait set s set.n_bs BsTimeout calls did tt row
of-turn set s (Gap until) calls did at (GapOver over row) = of-bytes set s (in_phase Bytes did.tick s) calls did (record { seq = refl; begin = refl; some = inl refl }) (subst MayLack (sym at) tt) row
of-turn set s (Gap until) calls did at (GapLasts before row) = none s Turn did.records row.records

of-answered : (set : TxSet) (s : Transmission) (event : TxEvent) (fs bs st : ℕ) (calls : List Event) (did : TxDid) → Answered set s fs bs st calls did → AreEndsOf s event did.records
of-answered set s event fs bs st calls did (Continues is row) = none s event did.records row.records
of-answered set s event fs bs st calls did (AsksToWait is row) = none s event did.records row.records
of-answered set s event fs bs st calls did (Overflows is row) = ends set s s event Keeps FcOverflow calls did (record { seq = refl; begin = refl; some = inl refl }) tt row
of-answered set s event fs bs st calls did (IsInvalid is row) = ends set s s event Keeps (InvalidFs fs) calls did (record { seq = refl; begin = refl; some = inl refl }) tt row

of-answer : (set : TxSet) (s : Transmission) (phase : Phase) (event : TxEvent) (fs bs st : ℕ) (calls : List Event) (did : TxDid) → InAnswer set s phase fs bs st calls did → AreEndsOf s event did.records
of-answer set s Start event fs bs st calls did row = none s event did.records row.records
of-answer set s Bytes event fs bs st calls did row = none s event did.records row.records
of-answer set s Box event fs bs st calls did row = none s event did.records row.records
of-answer set s Fc event fs bs st calls did row = of-answered set s event fs bs st calls did row
of-answer set s (Gap until) event fs bs st calls did row = none s event did.records row.records

of-left : (set : TxSet) (s : Transmission) (event : TxEvent) (calls : List Event) (did : TxDid) → s.phase ≡ Box → FrameLeft set s calls did → AreEndsOf s event did.records
of-left set s event calls did box (LastLeft whole row) = ends set s (all_sent s) event Keeps Sent calls did (record { seq = refl; begin = refl; some = inr box }) tt row
of-left set s event calls did box (FirstLeft first more row) = none s event did.records row.records
of-left set s event calls did box (BlockLeft some more one row) = none s event did.records row.records
of-left set s event calls did box (NextLeft some more out row) = none s event did.records row.records

-- whose records a step's are where a session was being sent
pub of-live : (set : TxSet) (s : Transmission) (event : TxEvent) (calls : List Event) (did : TxDid) → LiveRow set s event calls did → AllByRecursion (IsEndOf s event) did.records
of-live set s Turn calls did row = of-turn set s s.phase calls did refl row
of-live set s (CameFc fs bs st) calls did row = of-answer set s s.phase (CameFc fs bs st) fs bs st calls did row
of-live set s Left calls did row = of-left set s Left calls did row.0 row.1
of-live set s RunEnd calls did row = ends set s s RunEnd (revoked s.phase) (EndOfRun (wait_of s.phase) (record { 0 = s.since })) calls did (record { seq = refl; begin = refl; some = inl refl }) (refl, refl) row

-- and where none was: it begins in the step, and waited for no bus
pub record IsEndNew (tick : ℕ) (told : DestRecord) : Type 0 where
  pub begin : told.begin.0 ≡ tick
  pub unsent : told.sent ≡ 0
  pub bus : WaitedForBus told.result → ⊥

start-bus : (s : Transmission) (sent : ℕ) (result : DestResult) → s.phase ≡ Start → EndsFrom s Turn sent result → WaitedForBus result → ⊥
start-bus s sent Sent at from waited = waited
start-bus s sent SourceEnded at from waited = waited
start-bus s sent BsTimeout at from waited = waited
start-bus s sent FcOverflow at from waited = waited
start-bus s sent (InvalidFs status) at from waited = waited
start-bus s sent (CsTimeout seen) at from waited = waited
start-bus s sent AsTimeout at from waited = let no : Start ≡ Box = sym at ∙ from.1 in cc
start-bus s sent Cancelled at from waited = waited
start-bus s sent (EndOfRun wait since) at from waited = let no : ForStart ≡ ForBus = ap wait_of (sym at) ∙ sym from.1 ∙ waited in cc

start-unsent : (s : Transmission) (sent : ℕ) → s.phase ≡ Start → s.sent ≡ 0 → (sent ≡ s.sent) ⊎ (s.phase ≡ Box) → sent ≡ 0
start-unsent s sent at none (inl same) = same ∙ none
start-unsent s sent at none (inr box) = absurd (let no : Start ≡ Box = sym at ∙ box in cc)

pub of-idle : (set : TxSet) (next : ℕ) (event : TxEvent) (did : TxDid) → IdleRow set next event did → AllByRecursion (IsEndNew did.tick) did.records
of-idle set next Turn did (NothingToSend row) = let P : List DestRecord → Type 0 = λ l. AllByRecursion (IsEndNew did.tick) l in subst P (sym row.records) tt
of-idle set next Turn did (Joins buf len more row start) =
    all-weaker (IsEndOf (joined_in did.tick next len) Turn) (IsEndNew did.tick) did.records (λ told is. record { begin = is.begin; unsent = start-unsent (joined_in did.tick next len) told.sent refl refl is.some; bus = start-bus (joined_in did.tick next len) told.sent told.result refl is.from }) (of-start set (joined_in did.tick next len) more did tt start)
of-idle set next (CameFc fs bs st) did row = let P : List DestRecord → Type 0 = λ l. AllByRecursion (IsEndNew did.tick) l in subst P (sym row.records) tt
of-idle set next Left did row = absurd row
of-idle set next RunEnd did (NothingStands row) = let P : List DestRecord → Type 0 = λ l. AllByRecursion (IsEndNew did.tick) l in subst P (sym row.records) tt
of-idle set next RunEnd did (FindsOne buf len more row end) =
    let P : List DestRecord → Type 0 = λ l. AllByRecursion (IsEndNew did.tick) l in
    subst P (sym end.records) (record { begin = refl; unsent = refl; bus = λ waited. let no : ForTurn ≡ ForBus = waited in cc }, tt)
