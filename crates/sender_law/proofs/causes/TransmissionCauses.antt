-- Each record of a destination is caused, in every run.
use Rattle.std.proofs.Common.{◌≡◌, ℕ, ◌+◌, Bool, true, false, Option, Some, None, List, [], ◌∷◌, ◌++◌, refl, ap, sym, subst, ◌∙◌, arith, append-nil, inl, inr}
use Rattle.tp_unit.specs.Box.{Answer}
use Rattle.tp_sender.specs.Runs.{controls_in}
use Rattle.tp_sender.specs.State.{TxTurn, tx_new, Transmission}
use Rattle.hub_core.specs.Turns.{came_by, records_by, state_after}
use Rattle.std.specs.Prelude.{Bool, filter, map, nat_lt}
use Rattle.std.specs.List.{AllByRecursion, AllZip}
use Rattle.std.proofs.lemmas.Bool.{cases_lt}
use Rattle.std.proofs.lemmas.Bool.Decides.{nat_tests}
use Rattle.hub_core.specs.declared.record.DestRecord.{DestRecord}
use Rattle.hub_core.specs.declared.record.DestResult.{DestResult}
use Rattle.hub_core.specs.declared.record.DestResult.TheVariants.{Sent, SourceEnded, BsTimeout, FcOverflow, InvalidFs, CsTimeout, AsTimeout, Cancelled, RunEnd}
use Rattle.hub_core.specs.declared.record.TxWait.{TxWait}
use Rattle.hub_core.specs.declared.record.TxWait.TheVariants.{Start as ForStart, Turn as ForTurn, Fc as ForFc, Gap as ForGap, Bytes as ForBytes, Bus as ForBus}
use Rattle.tp_attempts.specs.Attempts.{attempts_in}
use Rattle.tp_attempts.specs.Cuts.{Cut}
use Rattle.tp_attempts.specs.Seen.{Seen}
use Rattle.tp_sender.specs.declared.set.TxSet.{TxSet}
use Rattle.tp_unit.specs.Shape.{address_size}
use Rattle.sender_law.specs.Runs.{HasLimits, IsTxRun, TxRun, leg_of, turns_in}
use Rattle.sender_law.specs.Transfer.{SendsFor, Transfer, TransferLaw, has_sent, ticks_of, transfer_of}
use Rattle.sender_law.specs.Channel.{DestChannel}
use Rattle.sender_law.specs.Pacing.{controls_of}
use Rattle.flow_plan.specs.Pace.{Control}
use Rattle.sender_law.specs.TransmissionCauses.{CauseOf, IsCaused, IsCausedUnsent, IsCausedWith, TransmissionCauses, WaitOf, left_in}
use Rattle.sender_law.proofs.transfers.TxLaw.{law, none-going}
use Rattle.sender_law.proofs.causes.TxCausesFrames.{ended_ticks, frames_by, is_left, live_ticks}
use Rattle.sender_law.proofs.causes.TxCausesMoments.{Lives}
use Rattle.sender_law.proofs.causes.TxCausesSteps.{Counted, Opens, Tells}
use Rattle.gw_base.proofs.Lists.{all-weaker, zip-both, zip-weaker}
use Rattle.sender_law.proofs.causes.TxCausesLists.{asked}
use Rattle.sender_law.proofs.causes.TxCausesParts.{in-run}

-- the records with sent bytes are those of which frames left
has-sent-by : (sent : ℕ) (ticks : List ℕ) → Counted sent ticks → nat_lt 0 sent ≡ is_left ticks
has-sent-by sent [] counted = elim (cases_lt 0 sent) [
  | inl some ↦ absurd (omega (arith, counted.some some))
  | inr le ↦ grind (arith, nat_tests)
]
has-sent-by sent (first ∷ later) counted = elim (cases_lt 0 sent) [
  | inl some ↦ grind (arith, nat_tests)
  | inr le ↦ let no : first ∷ later ≡ [] = counted.none (omega (arith, le)) in cc
]

zip-by : (R : List ℕ → DestRecord → Type 0) (ticks : List ℕ) (told : DestRecord) (closed : List (List ℕ)) (records : List DestRecord) (b : Bool) → is_left ticks ≡ b → has_sent told ≡ b → R ticks told → AllZip R (filter is_left closed) (filter has_sent records) →
    AllZip R (filter is_left (ticks ∷ closed)) (filter has_sent (told ∷ records))
zip-by R ticks told closed records true left sent is later = rw (left, sent) (is, later)
zip-by R ticks told closed records false left sent is later = rw (left, sent) later

-- of lists that count the frames of each record
abbrev CountsAnd : (List ℕ → DestRecord → Type 0) → List ℕ → DestRecord → Type 0
CountsAnd R ticks told = Counted told.sent ticks × R ticks told

zip-left : (R : List ℕ → DestRecord → Type 0) (closed : List (List ℕ)) (records : List DestRecord) → AllZip (CountsAnd R) closed records → AllZip R (filter is_left closed) (filter has_sent records)
zip-left R [] [] zip = tt
zip-left R [] (told ∷ records) zip = absurd zip
zip-left R (ticks ∷ closed) [] zip = absurd zip
zip-left R (ticks ∷ closed) (told ∷ records) zip = zip-by R ticks told closed records (is_left ticks) refl (has-sent-by told.sent ticks zip.0.0) zip.0.1 (zip-left R closed records zip.1)

zip-unsent : (R : List ℕ → DestRecord → Type 0) (closed : List (List ℕ)) (records : List DestRecord) → AllZip (CountsAnd R) closed records → AllByRecursion (λ (told : DestRecord). told.sent ≡ 0 → R [] told) records
zip-unsent R [] [] zip = tt
zip-unsent R [] (told ∷ records) zip = absurd zip
zip-unsent R (ticks ∷ closed) [] zip = absurd zip
zip-unsent R (ticks ∷ closed) (told ∷ records) zip = let C : List ℕ → Type 0 = λ l. R l told in (λ none. subst C (zip.0.0.none none) zip.0.1, zip-unsent R closed records zip.1)

zip-of : {A B C : Type 0} (f : A → B) (R : B → C → Type 0) (xs : List A) (ys : List C) → AllZip R (map f xs) ys → AllZip (λ x y. R (f x) y) xs ys
zip-of f R [] [] zip = tt
zip-of f R [] (y ∷ ys) zip = absurd zip
zip-of f R (x ∷ xs) [] zip = absurd zip
zip-of f R (x ∷ xs) (y ∷ ys) zip = (zip.0, zip-of f R xs ys zip.1)

none-left : (P : List ℕ → Transmission → Type 0) (ticks : List ℕ) (live : Option Transmission) → live ≡ None → Lives P ticks live → ticks ≡ []
none-left P ticks None is lives = lives
none-left P ticks (Some s) is lives = cc

-- what holds of each record and of the ticks of its session's frames, in a run: of those with sent bytes by their transmissions, and
-- of the others by no ticks
pub record AreOfFrames (R : List ℕ → DestRecord → Type 0) (run : TxRun) : Type 0 where
  pub sent : AllZip (λ cut told. R (left_in (address_size run.set.shape) cut) told) (attempts_in false (frames_by run.set (turns_in run))) (filter has_sent (records_by (turns_in run)))
  pub unsent : AllByRecursion (λ (told : DestRecord). told.sent ≡ 0 → R [] told) (records_by (turns_in run))

pub of-frames : (R : List ℕ → DestRecord → Type 0) (run : TxRun) → IsTxRun run → HasLimits run.set → AllZip R (ended_ticks (turns_in run)) (records_by (turns_in run)) → AreOfFrames R run
of-frames R run is some each =
    let moments : List TxTurn = turns_in run in
    let records : List DestRecord = records_by moments in
    let t : Transfer = transfer_of run.set moments in
    let all : List Answer = came_by controls_in moments in
    let full : ℕ → Bool = run.full in
    let tx : TxSet = run.set in
    let last : ℕ = run.last in
    let holds = in-run run some is in
    let sends : TransferLaw t = law tx moments is.shape is.happened in
    let whole : attempts_in false (frames_by tx moments) ≡ sends.ended = sends.cut ∙ ap (λ l. sends.ended ++ l) (none-going t t.now t.live sends.going is.idle sends.goes_on) ∙ append-nil sends.ended in
    let none : live_ticks moments ≡ [] = none-left (Opens full tx all all (last + 1)) (live_ticks moments) (state_after tx_new moments).live is.idle holds.live in
    let ticks : map ticks_of sends.ended ≡ filter is_left (ended_ticks moments) =
    ap (λ l. map ticks_of l) (sym whole) ∙ holds.cuts ∙ ap (λ l. filter is_left (ended_ticks moments) ++ filter is_left (l ∷ [])) none ∙ append-nil (filter is_left (ended_ticks moments)) in
    let counts : AllZip (CountsAnd R) (ended_ticks moments) records = zip-both (Tells full tx all last) R (CountsAnd R) (ended_ticks moments) records (λ l told tells is. (tells.counted, is)) holds.told each in
    let Z : List (List ℕ) → Type 0 = λ l. AllZip R l (filter has_sent records) in
    let C : List (Cut Seen) → Type 0 = λ l. AllZip (λ cut told. R (left_in (address_size tx.shape) cut) told) l (filter has_sent records) in
    let told : AllZip (λ cut d. R (ticks_of cut) d) sends.ended (filter has_sent records) = zip-of ticks_of R sends.ended (filter has_sent records) (subst Z (sym ticks) (zip-left R (ended_ticks moments) records counts)) in
    record {
      sent = subst C (sym whole)
          (zip-both (SendsFor t) (λ cut d. R (ticks_of cut) d) (λ cut d. R (left_in (address_size tx.shape) cut) d) sends.ended (filter has_sent records)
          (λ cut d sent so. let T : List ℕ → Type 0 = λ l. R l d in subst T (sym sent.counts) so) sends.sends told);
      unsent = zip-unsent R (ended_ticks moments) records counts;
    }

pub causes : (run : TxRun) (budget : ℕ) → IsTxRun run → HasLimits run.set → TransmissionCauses run.full (leg_of budget run)
causes run budget is some =
    let turns : List TxTurn = turns_in run in
    let all : List Answer = came_by controls_in turns in
    let R : List ℕ → DestRecord → Type 0 = λ ticks told. IsCaused run.full run.set (asked run.set all) run.last ticks told in
    let so : AreOfFrames R run = of-frames R run is some (zip-weaker (Tells run.full run.set all run.last) R (ended_ticks turns) (records_by turns) (λ ticks told tells. tells.caused) (in-run run some is).told) in
    record { sent = so.sent; unsent = so.unsent }

-- a cause stands as well of a bus that is full in more ticks
free-of : (full wide : Bool) → (full ≡ true → wide ≡ true) → wide ≡ false → full ≡ false
free-of true wide more free = let no : true ≡ false = sym (more refl) ∙ free in cc
free-of false wide more free = refl

wait-fuller : (full wide : ℕ → Bool) (tx : TxSet) (controls : List Control) (last begin : ℕ) (ticks : List ℕ) (sent : ℕ) (wait : TxWait) (since : ℕ) → ((tick : ℕ) → full tick ≡ true → wide tick ≡ true) →
    WaitOf full tx controls last begin ticks sent wait since → WaitOf wide tx controls last begin ticks sent wait since
wait-fuller full wide tx controls last begin ticks sent ForStart since more waits = waits
wait-fuller full wide tx controls last begin ticks sent ForTurn since more waits = waits
wait-fuller full wide tx controls last begin ticks sent ForFc since more waits = waits
wait-fuller full wide tx controls last begin ticks sent ForGap since more waits = waits
wait-fuller full wide tx controls last begin ticks sent ForBytes since more waits = waits
wait-fuller full wide tx controls last begin ticks sent ForBus since more waits = (waits.0, λ tick from to. more tick (waits.1 tick from to), waits.2)

cause-fuller : (full wide : ℕ → Bool) (tx : TxSet) (controls : List Control) (last begin : ℕ) (ticks : List ℕ) (end sent : ℕ) (how : DestResult) → ((tick : ℕ) → full tick ≡ true → wide tick ≡ true) →
    CauseOf full tx controls last begin ticks end sent how → CauseOf wide tx controls last begin ticks end sent how
cause-fuller full wide tx controls last begin ticks end sent Sent more cause = cause
cause-fuller full wide tx controls last begin ticks end sent SourceEnded more cause = cause
cause-fuller full wide tx controls last begin ticks end sent BsTimeout more cause = cause
cause-fuller full wide tx controls last begin ticks end sent FcOverflow more cause = cause
cause-fuller full wide tx controls last begin ticks end sent (InvalidFs status) more cause = cause
cause-fuller full wide tx controls last begin ticks end sent (CsTimeout seen) more cause = cause
cause-fuller full wide tx controls last begin ticks end sent AsTimeout more cause = record { since = cause.since; allowed = cause.allowed; blocked = λ tick from to. more tick (cause.blocked tick from to); over = cause.over }
cause-fuller full wide tx controls last begin ticks end sent Cancelled more cause = cause
cause-fuller full wide tx controls last begin ticks end sent (RunEnd wait since) more cause = (cause.0, cause.1, wait-fuller full wide tx controls last begin ticks sent wait since.0 more cause.2)

caused-fuller : (full wide : ℕ → Bool) (tx : TxSet) (controls : List Control) (last : ℕ) (ticks : List ℕ) (told : DestRecord) → ((tick : ℕ) → full tick ≡ true → wide tick ≡ true) → IsCaused full tx controls last ticks told → IsCaused wide tx controls last ticks told
caused-fuller full wide tx controls last ticks told more is = record {
  cause = cause-fuller full wide tx controls last told.begin.0 ticks told.end.0 told.sent told.result more is.cause;
  in_time = λ tick from to. record {
    accepted = (is.in_time tick from to).accepted;
    answered = (is.in_time tick from to).answered;
    leaves = λ free. (is.in_time tick from to).leaves (free-of (full tick) (wide tick) (more tick) free);
  };
}

pub causes-fuller : (full wide : ℕ → Bool) (c : DestChannel) → ((tick : ℕ) → full tick ≡ true → wide tick ≡ true) → TransmissionCauses full c → TransmissionCauses wide c
causes-fuller full wide c more is = record {
  sent = zip-weaker (IsCausedWith full c) (IsCausedWith wide c) _ (filter has_sent c.dests) (λ cut told one. caused-fuller full wide c.tx (controls_of c.tx.period c.answers) c.last (left_in (address_size c.tx.shape) cut) told more one) is.sent;
  unsent = all-weaker (IsCausedUnsent full c) (IsCausedUnsent wide c) c.dests (λ told one none. caused-fuller full wide c.tx (controls_of c.tx.period c.answers) c.last [] told more (one none)) is.unsent;
}
