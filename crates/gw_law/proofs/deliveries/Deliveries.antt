-- The law of delivery: the laws of the source and of the destination meet in what the hub says of their sessions.
use Rattle.std.proofs.Common.{◌≡◌, ℕ, ◌+◌, ◌≤◌, zero, suc, Bool, true, false, cond, Option, Some, None, option_map, List, [], ◌∷◌, ◌++◌, length, take, drop, refl, ap, sym, ◌∙◌, subst, arith, append-nil, length-append}
use Rattle.tp_sender.specs.State.{TxTurn}
use Rattle.tp_sender.specs.Runs.{cells_in as cells_read, lens_in}
use Rattle.tp_receiver.specs.State.{RxTurn}
use Rattle.hub_core.specs.Turns.{calls_by, came_by, records_by}
use Rattle.tp_receiver.specs.Runs.{put_in, frames_in}
use Rattle.std.specs.Prelude.{filter, option_to_list, slice_get}
use Rattle.std.specs.List.{AllByRecursion, AllZip}
use Rattle.std.proofs.lemmas.List.{length-take-le, take-append-drop, take-append-le, take-take}
use Rattle.std.proofs.lemmas.Grind.{flat_map-append}
use Rattle.std.proofs.lemmas.Option.{slice_get-map}
use Rattle.gw_base.specs.Cell.{bytes_of, cell_bytes}
use Rattle.hub_core.specs.View.{View, Session, Reading, empty_view, grows}
use Rattle.hub_core.specs.declared.record.DestRecord.{DestRecord}
use Rattle.hub_core.specs.declared.record.OpenedAt.{OpenedAt}
use Rattle.hub_core.specs.declared.record.SessionRecord.{SessionRecord}
use Rattle.tp_attempts.specs.Attempts.{attempts_in}
use Rattle.tp_attempts.specs.Cuts.{Cut}
use Rattle.tp_attempts.specs.Seen.{Seen, len_of}
use Rattle.tp_attempts.specs.Walk.{reassembled}
use Rattle.tp_receiver.specs.declared.set.RxSet.{RxSet}
use Rattle.tp_sender.specs.declared.set.TxSet.{TxSet}
use Rattle.gw_law.specs.Delivery.{AreWholeRuns, Delivers, Delivery, DeliveryLaw, IsNamed, Names, delivery_of}
use Rattle.receiver_law.specs.Source.{CountsFrom, sessions_in}
use Rattle.sender_law.specs.Transfer.{SendsFor, Tells, Transfer, TransferLaw, has_sent, transfer_of}
use Rattle.receiver_law.proofs.sessions.Entries.{Entry, entries_told, entry_told, writing}
use Rattle.receiver_law.proofs.sessions.Openings.{entries-are, openings}
use Rattle.hub_core.proofs.Sides.{cells_at-there}
use Rattle.receiver_law.proofs.records.SourceLaws.{idle-of, source_law_of}
use Rattle.receiver_law.proofs.records.Tellings.{TellsPut}
use Rattle.sender_law.proofs.transfers.TxLaw.{law, none-going}
use Rattle.sender_law.proofs.transfers.TxReadings.{readings}
use Rattle.gw_base.proofs.Lists.{all-weaker, mapped-at, zip-all}

-- the record that opened a session, its unit, and what it tells of it
pub record Found (R : Cut Seen → SessionRecord → Type 0) (units : List (Cut Seen)) (records : List SessionRecord) (seq : ℕ) (entry : Entry) : Type 0 where
  pub unit : Cut Seen
  pub session : SessionRecord
  pub place : ℕ
  pub unit_is : slice_get units place ≡ Some unit
  pub session_is : slice_get records place ≡ Some session
  pub opened : OpenedAt
  pub opened_is : session.opened ≡ Some opened
  pub seq_is : opened.seq ≡ seq
  pub entry_is : entry_told session opened ≡ entry
  pub tells : R unit session

further : (R : Cut Seen → SessionRecord → Type 0) (unit : Cut Seen) (units : List (Cut Seen)) (told : SessionRecord) (records : List SessionRecord) (seq : ℕ) (entry : Entry) → Found R units records seq entry → Found R (unit ∷ units) (told ∷ records) seq entry
further R unit units told records seq entry found = record {
  unit = found.unit;
  session = found.session;
  place = suc found.place;
  unit_is = found.unit_is;
  session_is = found.session_is;
  opened = found.opened;
  opened_is = found.opened_is;
  seq_is = found.seq_is;
  entry_is = found.entry_is;
  tells = found.tells;
}

-- the session with so many before it is one that a record opened
find-in : (R : Cut Seen → SessionRecord → Type 0) (unit : Cut Seen) (units : List (Cut Seen)) (told : SessionRecord) (records : List SessionRecord) (opened : Option OpenedAt) (first k : ℕ) (entry : Entry) → told.opened ≡ opened → R unit told →
    ((first k : ℕ) → CountsFrom first (sessions_in records) → slice_get (entries_told records) k ≡ Some entry → Found R units records (first + k) entry) →
    CountsFrom first (option_to_list (option_map (λ (o : OpenedAt). o.seq) opened) ++ sessions_in records) → slice_get (option_to_list (option_map (entry_told told) opened) ++ entries_told records) k ≡ Some entry → Found R (unit ∷ units) (told ∷ records) (first + k) entry
find-in R unit units told records None first k entry at tells later counts is = further R unit units told records (first + k) entry (later first k counts is)
find-in R unit units told records (Some opened) first zero entry at tells later counts is = record {
  unit = unit;
  session = told;
  place = zero;
  unit_is = refl;
  session_is = refl;
  opened = opened;
  opened_is = at;
  seq_is = omega (arith, counts.0);
  entry_is = cc;
  tells = tells;
}
find-in R unit units told records (Some opened) first (suc k) entry at tells later counts is =
    let same : (first + 1) + k ≡ first + suc k = omega arith in
    let P : ℕ → Type 0 = λ n. Found R (unit ∷ units) (told ∷ records) n entry in
    subst P same (further R unit units told records ((first + 1) + k) entry (later (first + 1) k counts.1 is))

pub find : (R : Cut Seen → SessionRecord → Type 0) (units : List (Cut Seen)) (records : List SessionRecord) (first k : ℕ) (entry : Entry) → AllZip R units records → CountsFrom first (sessions_in records) → slice_get (entries_told records) k ≡ Some entry → Found R units records (first + k) entry
find R units [] first k entry all counts is = cc
find R [] (told ∷ records) first k entry all counts is = absurd all
find R (unit ∷ units) (told ∷ records) first k entry all counts is = find-in R unit units told records told.opened first k entry refl all.0 (λ next n. find R units records next n entry all.1) counts is

-- what joins a destination's session with the unit that came into it
record Joins (chan : ℕ) (d : Delivery) (t : Transfer) (seq len : ℕ) : Type 0 where
  unit : Cut Seen
  session : SessionRecord
  named : IsNamed d seq unit session
  len_is : len_of unit.start.meaning ≡ len
  most : length (t.read seq) ≤ session.bytes
  bytes : (sent : ℕ) → sent ≤ length (t.read seq) → take sent (t.read seq) ≡ take sent (reassembled d.source unit)

-- a front of cells is a front of bytes
pub front-bytes : (stored read : List ℕ) (n sent : ℕ) → read ≡ bytes_of (take n stored) → sent ≤ length read → (length read ≤ length (bytes_of stored)) × (take sent read ≡ take sent (bytes_of stored))
front-bytes stored read n sent is within =
    let all : bytes_of stored ≡ read ++ bytes_of (drop n stored) = ap bytes_of (sym (take-append-drop n stored)) ∙ flat_map-append cell_bytes (take n stored) (drop n stored) ∙ ap (λ b. b ++ bytes_of (drop n stored)) (sym is) in
    rw all (omega (arith, length-append read (bytes_of (drop n stored))), sym (take-append-le sent read (bytes_of (drop n stored)) within))

joins : (rx : RxSet) (turns : List RxTurn) (tx : TxSet) (moments : List TxTurn) (v : View) (seq len : ℕ) → AreWholeRuns rx turns tx moments v → slice_get (lens_in (calls_by moments)) seq ≡ Some len → Joins rx.chan.0 (delivery_of rx turns tx moments) (transfer_of tx moments) seq len
joins rx turns tx moments v seq len runs is =
    let path : ℕ = rx.path.0 in
    let d : Delivery = delivery_of rx turns tx moments in
    let t : Transfer = transfer_of tx moments in
    let stored : ℕ → List ℕ = λ k. bytes_of (put_in rx turns k) in
    let put = openings rx turns runs.received in
    let puts = put.fill empty_view refl in
    let read = readings tx moments runs.sent empty_view refl in
    let at = mapped-at (λ (r : Reading). r.len) seq ((grows (calls_by moments) empty_view).readings tx.path.0 tx.dest.0) len (ap (λ l. slice_get l seq) read.fixed ∙ is) in
    let r : Reading = at.0 in
    let known = runs.streams.joined tx.path.0 tx.dest.0 seq r (ap (λ l. slice_get l seq) runs.readings ∙ at.1) in
    let s : Session = known.0 in
    let session : slice_get ((grows (calls_by turns) empty_view).sessions path) seq ≡ Some s =
    sym (ap (λ l. slice_get l seq) runs.sessions) ∙ ap (λ (p : ℕ). slice_get (v.sessions p) seq) (sym (ap (λ p. p.0) runs.path)) ∙ known.1 in
    let entry : Entry = (writing path).fixed s in
    let told : slice_get (entries_told (records_by turns)) seq ≡ Some entry =
    ap (λ l. slice_get l seq) (sym (entries-are rx turns v runs.received runs.idle runs.sessions)) ∙ slice_get-map (writing path).fixed (v.sessions path) seq ∙ ap (option_map (writing path).fixed) (ap (λ l. slice_get l seq) runs.sessions ∙ session) in
    let source = idle-of rx turns runs.received runs.idle in
    let found = find (TellsPut rx.chan.0 rx.a stored) (attempts_in rx.functional (came_by frames_in turns)) (records_by turns) 0 seq entry source.told.tells source.told.sessions told in
    let cells : s.cells ≡ put_in rx turns seq = sym (cells_at-there (λ (x : Session). x.cells) seq ((grows (calls_by turns) empty_view).sessions path) s session) ∙ puts.cells seq in
    let cells_were : r.cells ≡ cells_read seq (calls_by moments) = sym (cells_at-there (λ (x : Reading). x.cells) seq ((grows (calls_by moments) empty_view).readings tx.path.0 tx.dest.0) r at.1) ∙ read.cells seq in
    let front : t.read seq ≡ bytes_of (take (length r.cells) (put_in rx turns seq)) = ap bytes_of (sym cells_were ∙ known.2.prefix) ∙ ap (λ c. bytes_of (take (length r.cells) c)) cells in
    let numbered : found.opened.seq ≡ seq = omega (arith, found.seq_is) in
    let puts_are : stored seq ≡ take found.session.bytes (reassembled rx.a found.unit) = ap stored (sym numbered) ∙ found.tells.1 found.opened found.opened_is in
    let most : length (t.read seq) ≤ found.session.bytes =
    omega (arith, (front-bytes (put_in rx turns seq) (t.read seq) (length r.cells) 0 front (omega arith)).0, ap length puts_are, length-take-le found.session.bytes (reassembled rx.a found.unit)) in
    record {
      unit = found.unit;
      session = found.session;
      named = record { place = found.place; unit_is = found.unit_is; session_is = found.session_is; opened = found.opened; opened_is = found.opened_is; seq_is = numbered };
      len_is = omega (arith, found.tells.0.len, ap (λ (e : Entry). e.len) found.entry_is, known.2.len, at.2);
      most = most;
      bytes = λ sent within.
          (front-bytes (put_in rx turns seq) (t.read seq) (length r.cells) sent front within).1 ∙ ap (take sent) puts_are ∙ take-take sent found.session.bytes (reassembled rx.a found.unit) (omega (arith, within, most));
    }

-- what a destination's record names
names-of : (chan : ℕ) (d : Delivery) (t : Transfer) (told : DestRecord) (tells : Tells t told) → Joins chan d t told.seq tells.len → Names d told
names-of chan d t told tells so = record {
  unit = so.unit;
  session = so.session;
  named = so.named;
  most = rw so.len_is tells.most;
  whole = rw so.len_is tells.whole;
  ticks = tells.ticks;
}

-- what a transmission delivers
delivers-so : (chan : ℕ) (d : Delivery) (t : Transfer) (cut : Cut Seen) (told : DestRecord) (tells : Tells t told) → d.address ≡ t.address → d.answers ≡ t.answers → Joins chan d t told.seq tells.len → SendsFor t cut told → Delivers d cut told
unfolding names-of
delivers-so chan d t cut told tells address answers so sends =
    let len : len_of cut.start.meaning ≡ tells.len = (let same : Some (len_of cut.start.meaning) ≡ Some tells.len = sym sends.len ∙ tells.joined in cc) in
    record {
      names = names-of chan d t told tells so;
      len = len ∙ sym so.len_is;
      within = omega (arith, sends.within, so.most);
      bytes = rw address (sends.bytes ∙ so.bytes told.sent sends.within);
      right = rw address sends.right;
      ticks = rw address sends.ticks;
      paced = rw (address, answers) sends.paced;
    }

-- what holds of each record holds of those with sent bytes
sent-in : (P : DestRecord → Type 0) (told : DestRecord) (records : List DestRecord) (sent : Bool) → P told → AllByRecursion P records → AllByRecursion P (cond sent (told ∷ records) records)
sent-in P told records true is all = (is, all)
sent-in P told records false is all = all

pub all-sent : (P : DestRecord → Type 0) (records : List DestRecord) → AllByRecursion P records → AllByRecursion P (filter has_sent records)
all-sent P [] all = tt
all-sent P (told ∷ records) all = sent-in P told (filter has_sent records) (has_sent told) all.0 (all-sent P records all.1)

pub delivery_law_of : (rx : RxSet) (turns : List RxTurn) (tx : TxSet) (moments : List TxTurn) (v : View) → AreWholeRuns rx turns tx moments v → DeliveryLaw (delivery_of rx turns tx moments)
delivery_law_of rx turns tx moments v runs =
    let d : Delivery = delivery_of rx turns tx moments in
    let t : Transfer = transfer_of tx moments in
    let transfer : TransferLaw t = law tx moments runs.shape runs.sent in
    let source = source_law_of rx turns runs.received runs.idle in
    let joined : (told : DestRecord) (tells : Tells t told) → Joins rx.chan.0 d t told.seq tells.len = λ told tells. joins rx turns tx moments v told.seq tells.len runs tells.joined in
    let whole : attempts_in false t.frames ≡ transfer.ended = transfer.cut ∙ ap (λ l. transfer.ended ++ l) (none-going t t.now t.live transfer.going runs.ended transfer.goes_on) ∙ append-nil transfer.ended in
    record {
      sessions = source.sessions;
      numbered = transfer.numbered;
      names = all-weaker (Tells t) (Names d) t.records (λ told tells. names-of rx.chan.0 d t told tells (joined told tells)) transfer.told;
      delivers = rw whole (zip-all (Tells t) (SendsFor t) (Delivers d) transfer.ended (filter has_sent t.records) (λ cut told tells sends. delivers-so rx.chan.0 d t cut told tells refl refl (joined told tells) sends)
          (all-sent (Tells t) t.records transfer.told) transfer.sends);
    }
