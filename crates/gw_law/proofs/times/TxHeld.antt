-- What a sender has read up to a tick after which a frame lies in its box: all bytes up to that frame's last one.
use Rattle.std.proofs.Common.{◌≡◌, ℕ, ◌+◌, ◌<◌, ◌≤◌, false, Option, Some, None, List, ◌++◌, length, refl, ap, sym, ◌∙◌, subst, arith}
use Rattle.std.specs.Prelude.{filter, slice_get}
use Rattle.std.specs.List.{AllByRecursion}
use Rattle.std.proofs.lemmas.List.{length-append, length-take-le}
use Rattle.gw_base.proofs.Lists.{all-at, same-some}
use Rattle.hub_core.proofs.Turns.{happened-front}
use Rattle.hub_core.specs.Turns.{now_of, records_by, state_after}
use Rattle.hub_core.specs.declared.record.DestRecord.{DestRecord}
use Rattle.sender_law.proofs.TxParts.{Agrees, box-agrees}
use Rattle.sender_law.proofs.records.DestRecords.{dests-apart}
use Rattle.sender_law.proofs.records.Origins.{InTicks}
use Rattle.sender_law.proofs.transfers.TxLaw.{so-far, world_of}
use Rattle.sender_law.proofs.transfers.TxLeft.{in-box}
use Rattle.sender_law.proofs.transfers.TxMoves.{lives-some}
use Rattle.sender_law.proofs.transfers.TxWorld.{GoesOn, IsBoxed, SoFar}
use Rattle.sender_law.specs.Transfer.{SendsFor, Transfer, has_sent, transfer_of}
use Rattle.tp_attempts.specs.Attempts.{attempts_in}
use Rattle.tp_attempts.specs.Cuts.{Cut}
use Rattle.tp_attempts.specs.Seen.{Seen, is_start, len_of}
use Rattle.tp_attempts.specs.Walk.{Piece, joined, walk_of}
use Rattle.tp_sender.specs.Frame.{part_after}
use Rattle.tp_sender.specs.Runs.{HasSent, box_after}
use Rattle.tp_sender.specs.State.{HasFrame, Transmission, TxTurn, in_box, tx_new}
use Rattle.tp_sender.specs.declared.set.TxSet.{TxSet}
use Rattle.tp_sender.specs.declared.transmission.Phase.{Phase}
use Rattle.tp_sender.specs.declared.transmission.Phase.TheVariants.{Start, Bytes, Box, Fc, Gap}
use Rattle.tp_unit.specs.Shape.{IsShape, address_size}
use Rattle.tp_unit.specs.Unit.{Meaning}
use Rattle.gw_law.specs.Timely.{bytes_to}
use Rattle.gw_law.proofs.deliveries.Deliveries.{all-sent}
use Rattle.gw_law.proofs.times.Pieces.{After, CutFront, CutIn, Within, bytes-front, bytes-whole, cuts-in, pieces-in}
use Rattle.gw_law.proofs.times.TxUpTo.{GoesOnThere, IsFrontFor, ToldThere, frames-all, front-cut, front-for, joined-in}

-- the session that is sent while a frame lies in the box: that frame's bytes are read
record IsHeld (set : TxSet) (front : List TxTurn) : Type 0 where
  s : Transmission
  live : (state_after tx_new front).live ≡ Some s
  read : s.sent + part_after set.shape s.len s.sent ≤ length ((transfer_of set front).read s.seq)
  len : slice_get (transfer_of set front).lens s.seq ≡ Some s.len

phase-box : (phase : Phase) → in_box phase → phase ≡ Box
phase-box Start has = absurd has
phase-box Bytes has = absurd has
phase-box Box has = refl
phase-box Fc has = absurd has
phase-box (Gap until) has = absurd has

held-by : (set : TxSet) (front : List TxTurn) (live : Option Transmission) → (state_after tx_new front).live ≡ live → SoFar set.shape (world_of set front) → HasFrame live → IsHeld set front
held-by set front None is so has = absurd has
held-by set front (Some s) is so has =
    let on : GoesOn set.shape (world_of set front) s so.going = lives-some set.shape (world_of set front) (state_after tx_new front).live s so.going is so.lives in
    let boxed : IsBoxed set.shape s.len s.sent s.number (box_after front) on.offered = in-box set.shape s.len s.sent s.number s.phase (box_after front) on.offered (phase-box s.phase has) on.box in
    record {
      s = s;
      live = is;
      read = omega (arith, on.sent, boxed.part, ap length on.read, length-append on.taken (on.offered ++ s.carried), length-append on.offered s.carried);
      len = on.joined_is;
    }

held-so : (set : TxSet) (front : List TxTurn) (meaning : Meaning) → IsShape set.shape → HasSent set front → box_after front ≡ Some meaning → IsHeld set front
held-so set front meaning sound happened lies =
    let P : Option Meaning → Type 0 = λ o. Agrees o (HasFrame (state_after tx_new front).live) in
    held-by set front (state_after tx_new front).live refl (so-far set front sound happened) (subst P lies (box-agrees set front happened))

-- all of a front's records ended by its last tick
ended-by : (set : TxSet) (front : List TxTurn) (tick k : ℕ) (told : DestRecord) → HasSent set front → now_of front ≤ tick → slice_get (filter has_sent (records_by front)) k ≡ Some told → told.end.0 ≤ tick
ended-by set front tick k told happened now is =
    omega (arith, now, all-at (λ (d : DestRecord). d.end.0 ≤ now_of front) (filter has_sent (records_by front)) k told (all-sent (λ (d : DestRecord). d.end.0 ≤ now_of front) (records_by front) (dests-apart set front happened).past) is)

held-front : (set : TxSet) (front : List TxTurn) (tick k : ℕ) (before : Cut Seen) (told : DestRecord) → HasSent set front → now_of front ≤ tick → AllByRecursion (CutIn (λ (s : Seen). s.at ≤ tick)) (attempts_in false (transfer_of set front).frames) →
    slice_get (attempts_in false (transfer_of set front).frames) k ≡ Some before → tick < told.end.0 → IsHeld set front → IsFrontFor set front k before told →
    bytes_to tick (walk_of (address_size set.shape) before).pieces + part_after set.shape (len_of before.start.meaning) (bytes_to tick (walk_of (address_size set.shape) before).pieces) ≤ length ((transfer_of set front).read told.seq)
held-front set front tick k before told happened now early is below held (ToldThere there sends) = absurd (omega (arith, below, ended-by set front tick k told happened now there))
held-front set front tick k before told happened now early is below held (GoesOnThere s live same some sends) =
    let t : Transfer = transfer_of set front in
    let one : s ≡ held.s = same-some live held.live in
    let pieces : List Piece = (walk_of (address_size set.shape) before).pieces in
    let whole : bytes_to tick pieces ≡ length (joined pieces) =
    ap (λ l. length (joined l)) (bytes-whole tick pieces (pieces-in (λ (x : ℕ). x ≤ tick) (address_size set.shape) before (all-at (CutIn (λ (x : Seen). x.at ≤ tick)) (attempts_in false t.frames) k before early is))) in
    let sent : bytes_to tick pieces ≡ held.s.sent = whole ∙ ap length sends.bytes ∙ length-take-le s.sent (t.read s.seq) sends.within ∙ ap (λ (x : Transmission). x.sent) one in
    let lens : Some (len_of before.start.meaning) ≡ Some held.s.len = sym sends.len ∙ ap (λ (x : Transmission). slice_get t.lens x.seq) one ∙ held.len in
    let len : len_of before.start.meaning ≡ held.s.len = cc in
    let seq : held.s.seq ≡ told.seq = sym (ap (λ (x : Transmission). x.seq) one) ∙ sym same in
    let P : ℕ → Type 0 = λ n. held.s.sent + part_after set.shape held.s.len held.s.sent ≤ length (t.read n) in
    let L : ℕ → Type 0 = λ n. held.s.sent + part_after set.shape n held.s.sent ≤ length (t.read told.seq) in
    let B : ℕ → Type 0 = λ n. n + part_after set.shape (len_of before.start.meaning) n ≤ length (t.read told.seq) in
    subst B (sym sent) (subst L (sym len) (subst P seq held.read))

held-in : (set : TxSet) (later front : List TxTurn) (tick k : ℕ) (cut : Cut Seen) (told : DestRecord) → IsShape set.shape → HasSent set (later ++ front) → AllByRecursion (InTicks (λ (t : ℕ). tick < t)) later → AllByRecursion (InTicks (λ (t : ℕ). t ≤ tick)) front → now_of front ≤ tick →
    slice_get (filter has_sent (records_by (later ++ front))) k ≡ Some told → SendsFor (transfer_of set (later ++ front)) cut told → tick < told.end.0 → (AllByRecursion (λ (p : Piece). tick < p.at) (walk_of (address_size set.shape) cut).pieces → ⊥) → IsHeld set front →
    CutFront (λ (s : Seen). tick < s.at) (attempts_in false (transfer_of set front).frames) k cut →
    bytes_to tick (walk_of (address_size set.shape) cut).pieces + part_after set.shape (len_of cut.start.meaning) (bytes_to tick (walk_of (address_size set.shape) cut).pieces) ≤ length ((transfer_of set front).read told.seq)
held-in set later front tick k cut told sound happened late early now at sends below begun held (After long after) = absurd (begun (pieces-in (λ (t : ℕ). tick < t) (address_size set.shape) cut after))
held-in set later front tick k cut told sound happened late early now at sends below begun held (Within before is start more) =
    let next : told.seq < (state_after tx_new front).next = joined-in set later front tick k before cut told sound happened late early at sends is start in
    let cuts = cuts-in (λ (s : Seen). s.at ≤ tick) (λ (s : Seen). is_start false s.meaning) (transfer_of set front).frames (frames-all (λ (t : ℕ). t ≤ tick) set.shape front early) in
    let so = held-front set front tick k before told (happened-front _ later front happened) now cuts is below held (front-for set later front k before told sound happened is at next) in
    let B : ℕ → Type 0 = λ n. n + part_after set.shape (len_of cut.start.meaning) n ≤ length ((transfer_of set front).read told.seq) in
    let S : Seen → Type 0 = λ s. bytes_to tick (walk_of (address_size set.shape) before).pieces + part_after set.shape (len_of s.meaning) (bytes_to tick (walk_of (address_size set.shape) before).pieces) ≤ length ((transfer_of set front).read told.seq) in
    subst B (sym (bytes-front tick (address_size set.shape) before cut start more)) (subst S (sym start) so)

-- where a frame lies in the box after a tick, the k-th transmission, of which some frames left by then and which ends later, has read
-- the bytes that were sent up to the tick and those of the next frame
pub held-up-to : (set : TxSet) (later front : List TxTurn) (tick k : ℕ) (cut : Cut Seen) (told : DestRecord) (meaning : Meaning) → IsShape set.shape → HasSent set (later ++ front) → AllByRecursion (InTicks (λ (t : ℕ). tick < t)) later → AllByRecursion (InTicks (λ (t : ℕ). t ≤ tick)) front → now_of front ≤ tick →
    slice_get (attempts_in false (transfer_of set (later ++ front)).frames) k ≡ Some cut → slice_get (filter has_sent (records_by (later ++ front))) k ≡ Some told → SendsFor (transfer_of set (later ++ front)) cut told → tick < told.end.0 →
    (AllByRecursion (λ (p : Piece). tick < p.at) (walk_of (address_size set.shape) cut).pieces → ⊥) → box_after front ≡ Some meaning →
    bytes_to tick (walk_of (address_size set.shape) cut).pieces + part_after set.shape (len_of cut.start.meaning) (bytes_to tick (walk_of (address_size set.shape) cut).pieces) ≤ length ((transfer_of set front).read told.seq)
held-up-to set later front tick k cut told meaning sound happened late early now is at sends below begun lies =
    held-in set later front tick k cut told sound happened late early now at sends below begun (held-so set front meaning sound (happened-front _ later front happened) lies) (front-cut set later front tick k cut late is)
