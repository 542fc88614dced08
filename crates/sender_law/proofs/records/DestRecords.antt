-- Whose a destination's records are, that they end by the last tick, and that one follows another.
use Rattle.std.proofs.Common.{◌≡◌, ℕ, ◌+◌, ◌≤◌, inl, inr, Option, Some, List, [], ◌∷◌, ◌++◌, length, refl, sym, ◌∙◌, subst, arith, append-nil}
use Rattle.std.specs.Prelude.{slice_get}
use Rattle.std.specs.List.{AllByRecursion}
use Rattle.std.proofs.lemmas.Option.{slice_get_within}
use Rattle.hub_core.specs.Turns.{now_of, records_by, state_after}
use Rattle.hub_core.specs.declared.record.DestRecord.{DestRecord}
use Rattle.tp_sender.specs.Runs.{HasSent}
use Rattle.tp_sender.specs.State.{TxTurn, tx_new, Transmission, TxDid}
use Rattle.tp_sender.specs.declared.set.TxSet.{TxSet}
use Rattle.sender_law.specs.Emission.{DestRecords, IsOfDestination}
use Rattle.sender_law.specs.Runs.{IsTxRun, TxRun, leg_of, turns_in}
use Rattle.sender_law.proofs.records.Origins.{InTicks, IsToldBy, OfLive, step-by, told-by}
use Rattle.sender_law.proofs.causes.TxCausesParts.{run-within}
use Rattle.gw_base.proofs.Lists.{all-at, all-join, all-push, all-weaker, at-next}

-- the destination's records, in moments up to a tick
abbrev pub IsSent : TxSet → ℕ → DestRecord → Type 0
IsSent set last told = (told.path ≡ set.path) × (told.dest ≡ set.dest) × (told.end.0 ≤ last)

dests-of : (set : TxSet) (last : ℕ) (moments : List TxTurn) → HasSent set moments → AllByRecursion (InTicks (λ (t : ℕ). t ≤ last)) moments → AllByRecursion (IsSent set last) (records_by moments)
dests-of set last [] happened all = tt
dests-of set last (m ∷ earlier) happened all =
    all-join (IsSent set last) (records_by earlier) m.did.records (dests-of set last earlier happened.2 all.1)
    (all-weaker (IsToldBy _ set m.did) (IsSent set last) m.did.records (λ told is. (is.path, is.dest, omega (arith, is.end, all.0))) (told-by set (state_after tx_new earlier) m happened.1.1))

-- all records so far ended by that tick
abbrev EndBy : List DestRecord → ℕ → Type 0
EndBy records tick = AllByRecursion (λ (told : DestRecord). told.end.0 ≤ tick) records

abbrev Follow : List DestRecord → Type 0
Follow records = (place : ℕ) (told next : DestRecord) → slice_get records place ≡ Some told → slice_get records (place + 1) ≡ Some next → told.end.0 ≤ next.begin.0

-- one record follows another, and what is being sent began after all of them
pub record AreApart (records : List DestRecord) (live : Option Transmission) (now : ℕ) : Type 0 where
  pub past : EndBy records now
  pub begun : OfLive (λ number begin. EndBy records begin) live
  pub follow : Follow records

end-later : (records : List DestRecord) (before now : ℕ) → before ≤ now → EndBy records before → EndBy records now
end-later records before now later past = all-weaker (λ (told : DestRecord). told.end.0 ≤ before) (λ (told : DestRecord). told.end.0 ≤ now) records (λ told by. omega (arith, by, later)) past

follow-push : (records : List DestRecord) (one : DestRecord) → EndBy records one.begin.0 → Follow records → Follow (records ++ one ∷ [])
follow-push records one past follow place told next there after = elim (at-next records one next (place + 1) after) [
  | inl old ↦ elim (at-next records one told place there) [ inl before ↦ follow place told next before old | inr new ↦ absurd (omega (arith, new.0, slice_get_within records (place + 1) next old)) ]
  | inr new ↦ elim (at-next records one told place there) [
    | inl before ↦ subst (λ (t : DestRecord). told.end.0 ≤ t.begin.0) new.1 (all-at (λ (t : DestRecord). t.end.0 ≤ one.begin.0) records place told past before)
    | inr same ↦ absurd (omega (arith, same.0, new.0))
  ]
]

apart-next : (set : TxSet) (records : List DestRecord) (did : TxDid) (before : ℕ) (ended : List DestRecord) (live : Option Transmission) → before ≤ did.tick → did.new.live ≡ live → EndBy records before → Follow records →
    AllByRecursion (IsToldBy (λ number begin. EndBy records begin) set did) ended → length ended ≤ 1 → OfLive (λ number begin. EndBy records begin) live → AreApart (records ++ ended) live did.tick
apart-next set records did before [] live later is past follow told few going = rw append-nil (record { past = end-later records before did.tick later past; begun = going; follow = follow })
apart-next set records did before (one ∷ two ∷ more) live later is past follow told few going = absurd (omega (arith, few))
apart-next set records did before (one ∷ []) live later is past follow told few going = record {
  past = all-push (λ (t : DestRecord). t.end.0 ≤ did.tick) records one (end-later records before did.tick later past) (omega (arith, told.0.end));
  begun = subst (OfLive (λ number begin. EndBy (records ++ one ∷ []) begin)) (sym told.0.over ∙ is) tt;
  follow = follow-push records one told.0.of follow;
}

pub dests-apart : (set : TxSet) (moments : List TxTurn) → HasSent set moments → AreApart (records_by moments) (state_after tx_new moments).live (now_of moments)
dests-apart set [] happened = record { past = tt; begun = tt; follow = λ place told next there after. cc }
dests-apart set (m ∷ earlier) happened =
    let so : AreApart (records_by earlier) (state_after tx_new earlier).live (now_of earlier) = dests-apart set earlier happened.2 in
    let row = step-by (λ number begin. EndBy (records_by earlier) begin) set (state_after tx_new earlier) m so.begun happened.1.1 in
    let now = row.1 (λ number from below. end-later (records_by earlier) (now_of earlier) m.did.tick happened.0 so.past) in
    apart-next set (records_by earlier) m.did (now_of earlier) m.did.records m.did.new.live happened.0 refl so.past so.follow now.0 now.2 now.1

-- ticks never fall, so that all turns are of ticks up to the last one's
happened-by : (set : TxSet) (last : ℕ) (turns : List TxTurn) → HasSent set turns → now_of turns ≤ last → AllByRecursion (InTicks (λ (t : ℕ). t ≤ last)) turns
happened-by set last [] happened le = tt
happened-by set last (turn ∷ earlier) happened le = (le, happened-by set last earlier happened.2 (omega (arith, happened.0, le)))

pub dest_records : (run : TxRun) (budget : ℕ) → IsTxRun run → DestRecords (leg_of budget run)
dest_records run budget is =
    let turns : List TxTurn = turns_in run in
    record {
      own = all-weaker (IsSent run.set run.last) (IsOfDestination (leg_of budget run)) (records_by turns) (λ told of. record { path = of.0; dest = of.1; end = of.2 }) (dests-of run.set run.last turns is.happened (happened-by run.set run.last turns is.happened (run-within run is)));
      follow = (dests-apart run.set turns is.happened).follow;
    }
