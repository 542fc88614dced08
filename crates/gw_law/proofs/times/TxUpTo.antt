-- What a sender has sent up to a tick: no more than what it had read by then.
use Rattle.std.proofs.Common.{◌≡◌, ℕ, ◌+◌, ◌<◌, ◌≤◌, zero, suc, false, inl, inr, Option, Some, None, List, [], ◌∷◌, ◌++◌, length, map, refl, ap, sym, ◌∙◌, subst, arith, append-nil}
use Rattle.tp_sender.specs.Runs.{HasSent, left_by}
use Rattle.tp_unit.specs.Box.{Written}
use Rattle.tp_sender.specs.State.{TxTurn, tx_new, Transmission}
use Rattle.hub_core.specs.Turns.{state_after, records_by}
use Rattle.std.specs.Prelude.{filter, slice_get}
use Rattle.std.specs.List.{AllByRecursion}
use Rattle.std.proofs.lemmas.Bool.{cases_lt}
use Rattle.std.proofs.lemmas.List.{length-take-le, map-append}
use Rattle.std.proofs.lemmas.List.Elements.{filter-append}
use Rattle.hub_core.specs.declared.record.DestRecord.{DestRecord}
use Rattle.tp_attempts.specs.Attempts.{attempts_in}
use Rattle.tp_attempts.specs.Cuts.{Cut}
use Rattle.tp_attempts.specs.Seen.{Seen, is_start}
use Rattle.tp_attempts.specs.Walk.{Piece, reassembled, walk_of}
use Rattle.tp_sender.specs.declared.set.TxSet.{TxSet}
use Rattle.tp_unit.specs.declared.shape.Shape.{Shape}
use Rattle.tp_unit.specs.Shape.{IsShape, address_size}
use Rattle.gw_law.specs.Timely.{bytes_to}
use Rattle.sender_law.specs.Transfer.{GoesOnWith, NumberedFrom, Sends, SendsFor, Transfer, TransferLaw, has_sent, seen_of, transfer_of}
use Rattle.gw_law.proofs.deliveries.Deliveries.{all-sent}
use Rattle.gw_law.proofs.runs.Fronts.{More, left-more, sent-more}
use Rattle.sender_law.proofs.records.Origins.{InTicks, OfLive, OfTold, Originates, originates}
use Rattle.gw_law.proofs.times.Pieces.{After, CutFront, CutIn, Within, bytes-front, bytes-most, bytes-none, cut-front, cuts-in, pieces-in}
use Rattle.sender_law.proofs.transfers.TxLaw.{law, so-far, world_of}
use Rattle.gw_base.proofs.Lists.{all-at, all-map, all-weaker, get-after, get-append, slice_get-more, zip-at, zip-long}
use Rattle.sender_law.proofs.transfers.TxMoves.{lives-some}
use Rattle.sender_law.proofs.transfers.TxWorld.{GoesOn, Lives, SoFar, World}
use Rattle.hub_core.proofs.Turns.{happened-front}

-- sessions from a number on are joined after that tick
abbrev pub IsJoinedAfter : ℕ → ℕ → ℕ → ℕ → Type 0
IsJoinedAfter next tick seq begin = next ≤ seq → tick < begin

pub seqs-below : (number : ℕ) (records : List DestRecord) → NumberedFrom number records → AllByRecursion (λ (d : DestRecord). d.seq < number + length records) records
seqs-below number [] numbered = tt
seqs-below number (told ∷ records) numbered =
    (omega (arith, numbered.0), all-weaker (λ (d : DestRecord). d.seq < (number + 1) + length records) (λ (d : DestRecord). d.seq < number + length (told ∷ records)) records (λ d lt. omega (arith, lt)) (seqs-below (number + 1) records numbered.1))

seqs-from : (number : ℕ) (records : List DestRecord) → NumberedFrom number records → AllByRecursion (λ (d : DestRecord). number ≤ d.seq) records
seqs-from number [] numbered = tt
seqs-from number (told ∷ records) numbered =
    (omega (arith, numbered.0), all-weaker (λ (d : DestRecord). number + 1 ≤ d.seq) (λ (d : DestRecord). number ≤ d.seq) records (λ d le. omega (arith, le)) (seqs-from (number + 1) records numbered.1))

seqs-above : (number : ℕ) (records more : List DestRecord) → NumberedFrom number (records ++ more) → AllByRecursion (λ (d : DestRecord). number + length records ≤ d.seq) more
seqs-above number [] more numbered = all-weaker (λ (d : DestRecord). number ≤ d.seq) (λ (d : DestRecord). number + 0 ≤ d.seq) more (λ d le. omega (arith, le)) (seqs-from number more numbered)
seqs-above number (told ∷ records) more numbered =
    all-weaker (λ (d : DestRecord). (number + 1) + length records ≤ d.seq) (λ (d : DestRecord). number + length (told ∷ records) ≤ d.seq) more (λ d le. omega (arith, le)) (seqs-above (number + 1) records more numbered.1)

-- what is told and sent was joined before the next number
pub told-before : (shape : Shape) (w : World) (live : Option Transmission) (going : List (Cut Seen)) → Lives shape w live going → length w.told.records ≤ w.next
told-before shape w None going lives = omega (arith, lives.1)
told-before shape w (Some s) going lives = omega (arith, lives.before, lives.next)

live-before : (shape : Shape) (w : World) (live : Option Transmission) (going : List (Cut Seen)) (tick : ℕ) → Lives shape w live going → OfLive (IsJoinedAfter w.next tick) live
live-before shape w None going tick lives = tt
live-before shape w (Some s) going tick lives = λ le. absurd (omega (arith, le, lives.next))

joined-before : (set : TxSet) (moments : List TxTurn) (tick : ℕ) → IsShape set.shape → HasSent set moments → Originates (IsJoinedAfter (state_after tx_new moments).next tick) moments
joined-before set moments tick sound happened =
    let w : World = world_of set moments in
    let so : SoFar set.shape w = so-far set moments sound happened in
    let most : length (records_by moments) ≤ (state_after tx_new moments).next = told-before set.shape w (state_after tx_new moments).live so.going so.lives in
    record {
      told = all-weaker (λ (d : DestRecord). d.seq < 0 + length (records_by moments)) (OfTold (IsJoinedAfter (state_after tx_new moments).next tick)) (records_by moments) (λ d lt le. absurd (omega (arith, lt, le, most))) (seqs-below 0 (records_by moments) so.numbered);
      live = live-before set.shape w (state_after tx_new moments).live so.going tick so.lives;
    }

-- a record that begins by a tick is of a session that was joined in the moments up to then
pub joined-by : (set : TxSet) (later front : List TxTurn) (tick : ℕ) → IsShape set.shape → HasSent set (later ++ front) → AllByRecursion (InTicks (λ (t : ℕ). tick < t)) later → AllByRecursion (OfTold (IsJoinedAfter (state_after tx_new front).next tick)) (records_by (later ++ front))
joined-by set later front tick sound happened late =
    (originates (λ (t : ℕ). tick < t) (IsJoinedAfter (state_after tx_new front).next tick) set (state_after tx_new (later ++ front)).next later front (λ number t at below le. at) happened late (omega arith) (joined-before set front tick sound (happened-front _ later front happened))).0.told

pub before-next : (next seq tick begin : ℕ) → (next ≤ seq → tick < begin) → begin ≤ tick → seq < next
before-next next seq tick begin after by = elim (cases_lt seq next) [
  | inl below ↦ below
  | inr above ↦ absurd (omega (arith, after above, by))
]

-- the frames up to a tick, and the later ones
pub frames-all : (P : ℕ → Type 0) (shape : Shape) (moments : List TxTurn) → AllByRecursion (InTicks P) moments → AllByRecursion (λ (s : Seen). P s.at) (map (seen_of (address_size shape)) (left_by shape moments))
frames-all P shape moments all =
    let so : More (λ (w : Written). P w.tick) [] (left_by shape (moments ++ [])) = left-more P shape moments [] all in
    let Q : List Written → Type 0 = λ l. AllByRecursion (λ (w : Written). P w.tick) l in
    all-map (λ (s : Seen). P s.at) (seen_of (address_size shape)) (left_by shape moments) (subst Q (sym so.is ∙ ap (left_by shape) (append-nil moments)) so.all)

-- the transmission that goes on
going-at : (t : Transfer) (now : ℕ) (live : Option Transmission) (going : List (Cut Seen)) (j : ℕ) (cut : Cut Seen) → GoesOnWith t now live going → slice_get going j ≡ Some cut → (s : Transmission) × (live ≡ Some s) × (j ≡ 0) × (0 < s.sent) × Sends t s.seq s.sent s.begin now cut
going-at t now None going j cut goes is = let P : List (Cut Seen) → Type 0 = λ l. slice_get l j ≡ Some cut in let none : slice_get [] j ≡ Some cut = subst P goes is in cc
going-at t now (Some s) [] j cut goes is = cc
going-at t now (Some s) (first ∷ more) zero cut goes is = let same : first ≡ cut = cc in rw (← same) (s, refl, refl, goes.1, goes.2)
going-at t now (Some s) (first ∷ more) (suc j) cut goes is = let P : List (Cut Seen) → Type 0 = λ l. slice_get l j ≡ Some cut in let none : slice_get [] j ≡ Some cut = subst P goes.0 is in cc

-- a transmission's bytes are some that were read
sends-read : (t : Transfer) (seq sent begin end : ℕ) (cut : Cut Seen) → Sends t seq sent begin end cut → length (reassembled t.address cut) ≤ length (t.read seq)
sends-read t seq sent begin end cut sends = omega (arith, ap length sends.bytes, length-take-le sent (t.read seq) sends.within, sends.within)

begin-by : (t : Transfer) (seq sent begin end : ℕ) (cut : Cut Seen) → Sends t seq sent begin end cut → begin ≤ cut.start.at
begin-by t seq sent begin end cut sends =
    let P : List ℕ → Type 0 = λ l. AllByRecursion (λ (a : ℕ). begin ≤ a) l in
    (subst P sends.counts (all-map (λ (a : ℕ). begin ≤ a) (λ (p : Piece). p.at) (walk_of t.address cut).pieces
    (all-weaker (λ (p : Piece). (begin ≤ p.at) × (p.at ≤ end)) (λ (p : Piece). begin ≤ p.at) (walk_of t.address cut).pieces (λ p at. at.0) sends.ticks))).0

-- a transmission of a front belongs to the record in its place, which is told in the front, or it goes on there
pub data IsFrontFor (set : TxSet) (front : List TxTurn) (k : ℕ) (cut : Cut Seen) (told : DestRecord) : Type 0 where
  ToldThere : slice_get (filter has_sent (records_by front)) k ≡ Some told → SendsFor (transfer_of set front) cut told → IsFrontFor set front k cut told
  GoesOnThere : (s : Transmission) → (state_after tx_new front).live ≡ Some s → told.seq ≡ s.seq → 0 < s.sent → Sends (transfer_of set front) s.seq s.sent s.begin (transfer_of set front).now cut → IsFrontFor set front k cut told

pub front-for : (set : TxSet) (later front : List TxTurn) (k : ℕ) (cut : Cut Seen) (told : DestRecord) → IsShape set.shape → HasSent set (later ++ front) → slice_get (attempts_in false (transfer_of set front).frames) k ≡ Some cut →
    slice_get (filter has_sent (records_by (later ++ front))) k ≡ Some told → told.seq < (state_after tx_new front).next → IsFrontFor set front k cut told
front-for set later front k cut told sound happened is at below =
    let t : Transfer = transfer_of set front in
    let past : HasSent set front = happened-front _ later front happened in
    let so : SoFar set.shape (world_of set front) = so-far set front sound past in
    let transfer : TransferLaw t = law set front sound past in
    let more : More (λ (d : DestRecord). Unit {0}) (records_by front) (records_by (later ++ front)) = sent-more later front in
    let records : filter has_sent (records_by (later ++ front)) ≡ filter has_sent (records_by front) ++ filter has_sent more.more = ap (filter has_sent) more.is ∙ filter-append has_sent (records_by front) more.more in
    elim (get-append transfer.ended transfer.going k cut (ap (λ l. slice_get l k) (sym transfer.cut) ∙ is)) [
      | inl there ↦
          let zipped = zip-at (SendsFor t) transfer.ended (filter has_sent (records_by front)) k cut transfer.sends there in
          let found : slice_get (filter has_sent (records_by (later ++ front))) k ≡ Some zipped.0 = ap (λ l. slice_get l k) records ∙ slice_get-more (filter has_sent (records_by front)) (filter has_sent more.more) k zipped.0 zipped.1 in
          let same : zipped.0 ≡ told = cc in
          ToldThere (zipped.1 ∙ ap (λ d. Some d) same) (subst (SendsFor t cut) same zipped.2)
      | inr last ↦
          let going = going-at t t.now t.live transfer.going last.0 cut transfer.goes_on last.2 in
          let on : GoesOn set.shape (world_of set front) going.0 so.going = lives-some set.shape (world_of set front) (state_after tx_new front).live going.0 so.going going.1 so.lives in
          let here : slice_get (filter has_sent more.more) 0 ≡ Some told =
          get-after (filter has_sent (records_by front)) (filter has_sent more.more) k 0 told (omega (arith, last.1, going.2, zip-long (SendsFor t) transfer.ended (filter has_sent (records_by front)) transfer.sends)) (ap (λ l. slice_get l k) (sym records) ∙ at) in
          let N : List DestRecord → Type 0 = λ l. NumberedFrom 0 l in
          let above : 0 + length (records_by front) ≤ told.seq =
          all-at (λ (d : DestRecord). 0 + length (records_by front) ≤ d.seq) (filter has_sent more.more) 0 told
          (all-sent (λ (d : DestRecord). 0 + length (records_by front) ≤ d.seq) more.more (seqs-above 0 (records_by front) more.more (subst N more.is (law set (later ++ front) sound happened).numbered))) here in
          GoesOnThere going.0 going.1 (omega (arith, above, below, on.before, on.next)) going.3 going.4
    ]

-- as far as the moments of a front: the transmission in that place, of the session that the record in that place tells
front-read : (set : TxSet) (front : List TxTurn) (k : ℕ) (cut : Cut Seen) (told : DestRecord) → IsFrontFor set front k cut told → length (reassembled (address_size set.shape) cut) ≤ length ((transfer_of set front).read told.seq)
front-read set front k cut told (ToldThere there sends) = sends-read (transfer_of set front) told.seq told.sent told.begin.0 told.end.0 cut sends
front-read set front k cut told (GoesOnThere s live same some sends) = rw same (sends-read (transfer_of set front) s.seq s.sent s.begin (transfer_of set front).now cut sends)

-- a transmission of which a frame left by a tick is of a session that was joined by then
pub joined-in : (set : TxSet) (later front : List TxTurn) (tick k : ℕ) (before cut : Cut Seen) (told : DestRecord) → IsShape set.shape → HasSent set (later ++ front) → AllByRecursion (InTicks (λ (t : ℕ). tick < t)) later → AllByRecursion (InTicks (λ (t : ℕ). t ≤ tick)) front →
    slice_get (filter has_sent (records_by (later ++ front))) k ≡ Some told → SendsFor (transfer_of set (later ++ front)) cut told → slice_get (attempts_in false (transfer_of set front).frames) k ≡ Some before → cut.start ≡ before.start → told.seq < (state_after tx_new front).next
joined-in set later front tick k before cut told sound happened late early at sends is start =
    let starts : CutIn (λ (s : Seen). s.at ≤ tick) before =
    all-at (CutIn (λ (s : Seen). s.at ≤ tick)) (attempts_in false (transfer_of set front).frames) k before (cuts-in (λ (s : Seen). s.at ≤ tick) (λ (s : Seen). is_start false s.meaning) (transfer_of set front).frames (frames-all (λ (t : ℕ). t ≤ tick) set.shape front early)) is in
    let begins : told.begin.0 ≤ cut.start.at = begin-by (transfer_of set (later ++ front)) told.seq told.sent told.begin.0 told.end.0 cut sends in
    let joined : (state_after tx_new front).next ≤ told.seq → tick < told.begin.0 =
    all-at (OfTold (IsJoinedAfter (state_after tx_new front).next tick)) (filter has_sent (records_by (later ++ front))) k told (all-sent (OfTold (IsJoinedAfter (state_after tx_new front).next tick)) (records_by (later ++ front)) (joined-by set later front tick sound happened late)) at in
    before-next (state_after tx_new front).next told.seq tick told.begin.0 joined (omega (arith, begins, ap (λ (s : Seen). s.at) start, starts.0))

sent-by : (set : TxSet) (later front : List TxTurn) (tick k : ℕ) (cut : Cut Seen) (told : DestRecord) → IsShape set.shape → HasSent set (later ++ front) → AllByRecursion (InTicks (λ (t : ℕ). tick < t)) later → AllByRecursion (InTicks (λ (t : ℕ). t ≤ tick)) front →
    slice_get (filter has_sent (records_by (later ++ front))) k ≡ Some told → SendsFor (transfer_of set (later ++ front)) cut told → CutFront (λ (s : Seen). tick < s.at) (attempts_in false (transfer_of set front).frames) k cut →
    bytes_to tick (walk_of (address_size set.shape) cut).pieces ≤ length ((transfer_of set front).read told.seq)
sent-by set later front tick k cut told sound happened late early at sends (After long after) = omega (arith, bytes-none tick (walk_of (address_size set.shape) cut).pieces (pieces-in (λ (t : ℕ). tick < t) (address_size set.shape) cut after))
sent-by set later front tick k cut told sound happened late early at sends (Within before is start more) =
    let below : told.seq < (state_after tx_new front).next = joined-in set later front tick k before cut told sound happened late early at sends is start in
    omega (arith, bytes-front tick (address_size set.shape) before cut start more, bytes-most tick (walk_of (address_size set.shape) before).pieces, front-read set front k before told (front-for set later front k before told sound happened is at below))

-- the k-th transmission's frames up to a tick, in the moments up to then
pub front-cut : (set : TxSet) (later front : List TxTurn) (tick k : ℕ) (cut : Cut Seen) → AllByRecursion (InTicks (λ (t : ℕ). tick < t)) later → slice_get (attempts_in false (transfer_of set (later ++ front)).frames) k ≡ Some cut →
    CutFront (λ (s : Seen). tick < s.at) (attempts_in false (transfer_of set front).frames) k cut
front-cut set later front tick k cut late is =
    let f : Written → Seen = seen_of (address_size set.shape) in
    let more : More (λ (w : Written). tick < w.tick) (left_by set.shape front) (left_by set.shape (later ++ front)) = left-more (λ (t : ℕ). tick < t) set.shape later front late in
    let frames : map f (left_by set.shape (later ++ front)) ≡ map f (left_by set.shape front) ++ map f more.more = ap (map f) more.is ∙ map-append f (left_by set.shape front) more.more in
    cut-front (λ (s : Seen). tick < s.at) (λ (s : Seen). is_start false s.meaning) (map f (left_by set.shape front)) (map f more.more) k cut (all-map (λ (s : Seen). tick < s.at) f more.more more.all) (ap (λ l. slice_get (attempts_in false l) k) (sym frames) ∙ is)

-- the k-th transmission has sent no more bytes up to a tick than those that were read of its record's session in the moments up to then
pub sent-up-to : (set : TxSet) (later front : List TxTurn) (tick k : ℕ) (cut : Cut Seen) (told : DestRecord) → IsShape set.shape → HasSent set (later ++ front) → AllByRecursion (InTicks (λ (t : ℕ). tick < t)) later → AllByRecursion (InTicks (λ (t : ℕ). t ≤ tick)) front →
    slice_get (attempts_in false (transfer_of set (later ++ front)).frames) k ≡ Some cut → slice_get (filter has_sent (records_by (later ++ front))) k ≡ Some told → SendsFor (transfer_of set (later ++ front)) cut told →
    bytes_to tick (walk_of (address_size set.shape) cut).pieces ≤ length ((transfer_of set front).read told.seq)
sent-up-to set later front tick k cut told sound happened late early is at sends = sent-by set later front tick k cut told sound happened late early at sends (front-cut set later front tick k cut late is)
