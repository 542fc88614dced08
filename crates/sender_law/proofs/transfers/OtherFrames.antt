-- Other frames of a sender's channel, such as a receiver's flow controls, leave what its transmissions are.
use Rattle.std.proofs.Common.{◌≡◌, ℕ, ◌≤◌, Bool, false, cond, Option, Some, None, List, [], ◌∷◌, ◌++◌, map, refl, ap, sym, ◌∙◌, subst}
use Rattle.std.specs.Prelude.{filter}
use Rattle.std.specs.List.{AllByRecursion, AllZip}
use Rattle.tp_attempts.specs.Attempts.{attempts_in}
use Rattle.tp_attempts.specs.Cuts.{Cut}
use Rattle.tp_attempts.specs.Seen.{Seen, carries, is_data, is_start}
use Rattle.tp_attempts.specs.Walk.{Piece, Walk, joined, walk_of}
use Rattle.tp_attempts.proofs.Kept.{cuts-kept, kept_of, no-start, walk-kept, zip-kept, zip-mapped}
use Rattle.tp_sender.specs.State.{Transmission}
use Rattle.tp_unit.specs.Unit.{Meaning, SingleFrame, FirstFrame, ConsecutiveFrame, FlowControl, NoUnit}
use Rattle.gw_base.proofs.Lists.{all-weaker}
use Rattle.tp_unit.specs.Box.{Written}
use Rattle.tp_unit.specs.Shape.{address_size}
use Rattle.sender_law.specs.Channel.{DestChannel}
use Rattle.sender_law.specs.Pacing.{Paced, controls_of}
use Rattle.sender_law.specs.TransmissionCauses.{IsCaused, IsCausedWith, TransmissionCauses, left_in}
use Rattle.sender_law.specs.Transfer.{seen_of, GoesOnWith, Sends, SendsFor, Tells, Transfer, TransferLaw, has_sent, is_consecutive}

-- consecutive frames are data
filter-one : (x : Seen) (xs : List Seen) (meaning : Meaning) → x.meaning ≡ meaning → filter (λ (s : Seen). is_consecutive s.meaning) (filter carries xs) ≡ filter (λ (s : Seen). is_consecutive s.meaning) xs →
    filter (λ (s : Seen). is_consecutive s.meaning) (cond (is_data meaning) (x ∷ filter carries xs) (filter carries xs)) ≡ cond (is_consecutive meaning) (x ∷ filter (λ (s : Seen). is_consecutive s.meaning) xs) (filter (λ (s : Seen). is_consecutive s.meaning) xs)
filter-one x xs (SingleFrame bytes) is later = ap (λ m. cond (is_consecutive m) (x ∷ filter (λ (s : Seen). is_consecutive s.meaning) (filter carries xs)) (filter (λ (s : Seen). is_consecutive s.meaning) (filter carries xs))) is ∙ later
filter-one x xs (FirstFrame len bytes) is later = ap (λ m. cond (is_consecutive m) (x ∷ filter (λ (s : Seen). is_consecutive s.meaning) (filter carries xs)) (filter (λ (s : Seen). is_consecutive s.meaning) (filter carries xs))) is ∙ later
filter-one x xs (ConsecutiveFrame number bytes) is later = ap (λ m. cond (is_consecutive m) (x ∷ filter (λ (s : Seen). is_consecutive s.meaning) (filter carries xs)) (filter (λ (s : Seen). is_consecutive s.meaning) (filter carries xs))) is ∙ ap (λ l. x ∷ l) later
filter-one x xs (FlowControl status block_size separation) is later = later
filter-one x xs (NoUnit why) is later = later

consecutive-kept : (frames : List Seen) → filter (λ (s : Seen). is_consecutive s.meaning) (filter carries frames) ≡ filter (λ (s : Seen). is_consecutive s.meaning) frames
consecutive-kept [] = refl
consecutive-kept (x ∷ xs) = filter-one x xs x.meaning refl (consecutive-kept xs)

-- a transmission with the other frames
abbrev with_frames : Transfer → List Seen → Transfer
with_frames t frames = record t { frames = frames }

sends-kept : (t : Transfer) (out : List Seen) (seq sent begin end : ℕ) (cut : Cut Seen) → Sends t seq sent begin end (kept_of carries cut) → Sends (with_frames t out) seq sent begin end cut
sends-kept t out seq sent begin end cut sends =
    let is : walk_of t.address (kept_of carries cut) ≡ walk_of t.address cut = walk-kept t.address cut in
    let T : Walk → Type 0 = λ w. AllByRecursion (λ (piece : Piece). (begin ≤ piece.at) × (piece.at ≤ end)) w.pieces in
    let P : Walk → Type 0 = λ w. Paced t.answers w.pieces in
    record {
      len = sends.len;
      within = sends.within;
      bytes = ap (λ (w : Walk). joined w.pieces) (sym is) ∙ sends.bytes;
      right = ap (λ (w : Walk). w.wrong) (sym is) ∙ sends.right;
      counts = ap (λ (w : Walk). map (λ (piece : Piece). piece.at) w.pieces) (sym is) ∙ sends.counts ∙ ap (λ l. cut.start.at ∷ map (λ (s : Seen). s.at) l) (consecutive-kept cut.after);
      ticks = subst T is sends.ticks;
      paced = subst P is sends.paced;
    }

-- lists that are mapped
record Split {A B : Type 0} (f : A → B) (xs : List A) (front back : List B) : Type 0 where
  pub first : List A
  pub rest : List A
  pub is : xs ≡ first ++ rest
  pub front_is : map f first ≡ front
  pub back_is : map f rest ≡ back

map-split : {A B : Type 0} (f : A → B) (xs : List A) (front back : List B) → map f xs ≡ front ++ back → Split f xs front back
map-split f xs [] back is = record { first = []; rest = xs; is = refl; front_is = refl; back_is = is }
map-split f [] (y ∷ front) back is = cc
map-split f (x ∷ xs) (y ∷ front) back is =
    let tails : map f xs ≡ front ++ back = cc in
    let so : Split f xs front back = map-split f xs front back tails in
    let one : f x ≡ y = cc in
    record { first = x ∷ so.first; rest = so.rest; is = ap (λ l. x ∷ l) so.is; front_is = ap (λ l. f x ∷ l) so.front_is ∙ ap (λ z. z ∷ front) one; back_is = so.back_is }

goes-kept : (t : Transfer) (out : List Seen) (now : ℕ) (live : Option Transmission) (going : List (Cut Seen)) → GoesOnWith t now live (map (kept_of carries) going) → GoesOnWith (with_frames t out) now live going
goes-kept t out now None [] goes = refl
goes-kept t out now None (cut ∷ more) goes = cc
goes-kept t out now (Some s) [] goes = goes
goes-kept t out now (Some s) (cut ∷ []) goes = (refl, goes.1, sends-kept t out s.seq s.sent s.begin now cut goes.2)
goes-kept t out now (Some s) (cut ∷ next ∷ more) goes = let clash = goes.0 in cc

-- the law, with other frames between
pub others-pass : (t : Transfer) (out : List Seen) → TransferLaw t → filter (λ (s : Seen). is_data s.meaning) out ≡ t.frames → TransferLaw (with_frames t out)
others-pass t out law is =
    let starts : Seen → Bool = λ s. is_start false s.meaning in
    let cut : map (kept_of carries) (attempts_in false out) ≡ law.ended ++ law.going = sym (cuts-kept carries starts (λ s none. no-start s.meaning none) out) ∙ ap (attempts_in false) is ∙ law.cut in
    let split : Split (kept_of carries) (attempts_in false out) law.ended law.going = map-split (kept_of carries) (attempts_in false out) law.ended law.going cut in
    let E : List (Cut Seen) → Type 0 = λ l. AllZip (SendsFor t) l (filter has_sent t.records) in
    let G : List (Cut Seen) → Type 0 = λ l. GoesOnWith t t.now t.live l in
    record {
      numbered = law.numbered;
      told = all-weaker (Tells t) (Tells (with_frames t out)) t.records (λ told tells. record { len = tells.len; joined = tells.joined; most = tells.most; whole = tells.whole; ticks = tells.ticks }) law.told;
      ended = split.first;
      going = split.rest;
      cut = split.is;
      sends = zip-mapped (kept_of carries) (SendsFor t) (SendsFor (with_frames t out)) split.first (filter has_sent t.records) (λ one told sends. sends-kept t out told.seq told.sent told.begin.0 told.end.0 one sends) (subst E (sym split.front_is) law.sends);
      goes_on = goes-kept t out t.now t.live split.rest (subst G (sym split.back_is) law.goes_on);
    }

-- the causes, with other frames between
consecutive-left : (address : ℕ) (cut : Cut Seen) → left_in address (kept_of carries cut) ≡ left_in address cut
consecutive-left address cut = ap (λ (w : Walk). map (λ (piece : Piece). piece.at) w.pieces) (walk-kept address cut)

pub others-caused : (full : ℕ → Bool) (c : DestChannel) (out : List Written) → TransmissionCauses full c → filter carries (map (seen_of (address_size c.tx.shape)) out) ≡ map (seen_of (address_size c.tx.shape)) c.frames → TransmissionCauses full (record c { frames = out })
others-caused full c out causes is = record {
  sent = zip-kept (IsCausedWith full c) (IsCausedWith full (record c { frames = out })) (map (seen_of (address_size c.tx.shape)) out) (map (seen_of (address_size c.tx.shape)) c.frames) (filter has_sent c.dests)
      (λ cut told caused. subst (λ (ticks : List ℕ). IsCaused full c.tx (controls_of c.tx.period c.answers) c.last ticks told) (consecutive-left (address_size c.tx.shape) cut) caused) is causes.sent;
  unsent = causes.unsent;
}
