-- Each session that was opened has one record of a destination that joined them all.
use Rattle.std.proofs.Common.{◌≡◌, ℕ, ◌+◌, ◌≤◌, zero, suc, Option, Some, None, option_map, List, [], ◌∷◌, length, map, refl, ap, sym, ◌∙◌, arith}
use Rattle.tp_sender.specs.State.{TxTurn, tx_new}
use Rattle.tp_receiver.specs.State.{RxTurn}
use Rattle.hub_core.specs.Turns.{records_by, calls_by, state_after}
use Rattle.std.specs.Prelude.{option_to_list, slice_get}
use Rattle.std.proofs.lemmas.List.{length-append, length-map}
use Rattle.std.proofs.lemmas.Option.{slice_get-get_or, slice_get_within}
use Rattle.hub_core.specs.View.{View, Session, Reading, empty_view, grows, reading_new, reading_at}
use Rattle.hub_core.specs.declared.record.DestRecord.{DestRecord}
use Rattle.hub_core.specs.declared.record.OpenedAt.{OpenedAt}
use Rattle.hub_core.specs.declared.record.SessionRecord.{SessionRecord}
use Rattle.tp_receiver.specs.declared.set.RxSet.{RxSet}
use Rattle.tp_sender.specs.declared.set.TxSet.{TxSet}
use Rattle.gw_law.specs.Delivery.{AreOfEach, AreWholeRuns}
use Rattle.receiver_law.specs.Source.{CountsFrom, sessions_in}
use Rattle.sender_law.specs.Transfer.{NumberedFrom}
use Rattle.receiver_law.proofs.sessions.Openings.{entries-are}
use Rattle.receiver_law.proofs.sessions.Entries.{entries_told, entry_told, writing}
use Rattle.receiver_law.proofs.records.SourceLaws.{source_law_of}
use Rattle.sender_law.proofs.transfers.TxLaw.{so-far, world_of}
use Rattle.sender_law.proofs.transfers.TxMoves.{lives-none}
use Rattle.sender_law.proofs.transfers.TxReadings.{readings}
use Rattle.sender_law.proofs.transfers.TxWorld.{SoFar}

-- lists that count from the same number are the same where they are as long
same-numbers : (first : ℕ) (records : List DestRecord) (numbers : List ℕ) → NumberedFrom first records → CountsFrom first numbers → length records ≡ length numbers → map (λ (told : DestRecord). told.seq) records ≡ numbers
same-numbers first [] [] numbered counts long = refl
same-numbers first [] (number ∷ numbers) numbered counts long = absurd (omega (arith, long))
same-numbers first (told ∷ records) [] numbered counts long = absurd (omega (arith, long))
same-numbers first (told ∷ records) (number ∷ numbers) numbered counts long =
    ap (λ n. n ∷ map (λ (r : DestRecord). r.seq) records) (numbered.0 ∙ sym counts.0) ∙ ap (λ l. number ∷ l) (same-numbers (first + 1) records numbers numbered.1 counts.1 (omega (arith, long)))

-- each opened session is told once
one-each : (told : SessionRecord) (was : Option OpenedAt) → length (option_to_list (option_map (λ (o : OpenedAt). o.seq) was)) ≡ length (option_to_list (option_map (entry_told told) was))
one-each told None = refl
one-each told (Some opened) = refl

entries-long : (records : List SessionRecord) → length (sessions_in records) ≡ length (entries_told records)
entries-long [] = refl
entries-long (told ∷ records) =
    length-append (option_to_list (option_map (λ (o : OpenedAt). o.seq) told.opened)) (sessions_in records) ∙ rw (one-each told told.opened, entries-long records) (sym (length-append (option_to_list (option_map (entry_told told) told.opened)) (entries_told records)))

-- a destination's sessions are sessions of the path
pub at-most : (tx : TxSet) (v : View) (known : List Reading) (number : ℕ) → v.readings tx.path.0 tx.dest.0 ≡ known → length known ≡ number →
    ((seq : ℕ) (r : Reading) → reading_at v tx.path.0 tx.dest.0 seq ≡ Some r → (s : Session) × (slice_get (v.sessions tx.path.0) seq ≡ Some s)) → number ≤ length (v.sessions tx.path.0)
at-most tx v known zero is long joined = omega arith
at-most tx v known (suc last) is long joined =
    let r = slice_get-get_or known last (reading_new 0 0) (omega (arith, long)) in
    let s = joined last _ (ap (λ l. slice_get l last) is ∙ r) in
    omega (arith, slice_get_within (v.sessions tx.path.0) last s.0 s.1)

pub each_session_of : (rx : RxSet) (turns : List RxTurn) (tx : TxSet) (moments : List TxTurn) (v : View) → AreWholeRuns rx turns tx moments v → length (v.sessions rx.path.0) ≤ (state_after tx_new moments).next → AreOfEach (records_by turns) (records_by moments)
each_session_of rx turns tx moments v runs all =
    let so : SoFar tx.shape (world_of tx moments) = so-far tx moments runs.shape runs.sent in
    let source = source_law_of rx turns runs.received runs.idle in
    let read = readings tx moments runs.sent empty_view refl in
    let known : List Reading = (grows (calls_by moments) empty_view).readings tx.path.0 tx.dest.0 in
    let joined : length known ≡ (state_after tx_new moments).next = sym (length-map known (λ (r : Reading). r.len)) ∙ ap length read.fixed ∙ so.lens in
    let path : tx.path.0 ≡ rx.path.0 = ap (λ p. p.0) runs.path in
    let entries = entries-are rx turns v runs.received runs.idle runs.sessions in
    let most : (state_after tx_new moments).next ≤ length (v.sessions tx.path.0) =
    at-most tx v known (state_after tx_new moments).next runs.readings joined (λ seq r is. let s = runs.streams.joined tx.path.0 tx.dest.0 seq r is in (s.0, s.1)) in
    same-numbers 0 (records_by moments) (sessions_in (records_by turns)) so.numbered source.sessions
    (omega (arith, (lives-none tx.shape (world_of tx moments) (state_after tx_new moments).live so.going runs.ended so.lives).1, all, most, ap (λ p. length (v.sessions p)) path, entries-long (records_by turns), ap length entries, length-map (v.sessions rx.path.0) (writing rx.path.0).fixed))
