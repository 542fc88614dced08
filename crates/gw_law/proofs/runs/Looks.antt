-- What a sender saw at any time it knows ever after: its looks at a session show no less than the looks before them.
use Rattle.std.proofs.Common.{◌≡◌, ℕ, ◌≤◌, ◌⊎◌, zero, suc, inl, inr, Bool, Some, List, [], ◌∷◌, ◌++◌, refl, ap, sym, ◌∙◌, subst, arith, append_assoc}
use Rattle.std.specs.Prelude.{slice_get}
use Rattle.std.specs.List.{AllByRecursion}
use Rattle.gw_base.proofs.Lists.{same-some, slice_get-more}
use Rattle.hub_core.proofs.Growing.{at_two-same, grows-append, slice_get-change_at}
use Rattle.hub_core.proofs.Turns.{calls-append, happened-front}
use Rattle.hub_core.specs.Floors.{AreFresh, Floors, IsFresh}
use Rattle.hub_core.specs.Turns.{Part, calls_by, turns_of}
use Rattle.hub_core.specs.View.{Event, Reading, View, change_at, empty_view, grow, grows, Took, Refused, Entered, Asked, Put, Published, Joining, Missed, Saw, Read, Closed, Parted}
use Rattle.sender_law.specs.Starts.{IsAmong}
use Rattle.tp_sender.specs.Own.{OfDest}
use Rattle.tp_sender.specs.Runs.{HasSent}
use Rattle.tp_sender.specs.State.{TxTurn}
use Rattle.gw_law.specs.Deeds.{own_view}
use Rattle.gw_law.proofs.runs.Barriers.{Pair}
use Rattle.gw_law.proofs.runs.Openings.{part-fresh}
use Rattle.gw_law.proofs.runs.OwnCalls.{sent-reads}

-- a destination's readings have one of that number, which shows so many cells and bytes, or more
pub record IsShown (readings : List Reading) (seq cells bytes : ℕ) : Type 0 where
  pub reading : Reading
  pub there : slice_get readings seq ≡ Some reading
  pub cells_most : cells ≤ reading.seen
  pub bytes_most : bytes ≤ reading.bytes

-- one more reading changes none, and a reading that shows no less keeps it
shown-pushed : (readings : List Reading) (one : Reading) (seq cells bytes : ℕ) → IsShown readings seq cells bytes → IsShown (readings ++ one ∷ []) seq cells bytes
shown-pushed readings one seq cells bytes so = record { reading = so.reading; there = slice_get-more readings (one ∷ []) seq so.reading so.there; cells_most = so.cells_most; bytes_most = so.bytes_most }

-- a reading that shows no less
record KeepsSight (was now : Reading) : Type 0 where
  cells : was.seen ≤ now.seen
  bytes : was.bytes ≤ now.bytes

shown-changed : (readings : List Reading) (place seq cells bytes : ℕ) (change : Reading → Reading) → ((r : Reading) → slice_get readings place ≡ Some r → KeepsSight r (change r)) → IsShown readings seq cells bytes → IsShown (change_at place change readings) seq cells bytes
shown-changed [] place seq cells bytes change keeps so = so
shown-changed (r ∷ readings) zero zero cells bytes change keeps so =
    let same : r ≡ so.reading = same-some refl so.there in
    let kept : KeepsSight r (change r) = keeps r refl in
    record { reading = change r; there = refl; cells_most = omega (arith, so.cells_most, ap (λ (x : Reading). x.seen) same, kept.cells); bytes_most = omega (arith, so.bytes_most, ap (λ (x : Reading). x.bytes) same, kept.bytes) }
shown-changed (r ∷ readings) zero (suc seq) cells bytes change keeps so = record { reading = so.reading; there = so.there; cells_most = so.cells_most; bytes_most = so.bytes_most }
shown-changed (r ∷ readings) (suc place) zero cells bytes change keeps so = record { reading = so.reading; there = so.there; cells_most = so.cells_most; bytes_most = so.bytes_most }
shown-changed (r ∷ readings) (suc place) (suc seq) cells bytes change keeps so =
    let more : IsShown (change_at place change readings) seq cells bytes = shown-changed readings place seq cells bytes change keeps (record { reading = so.reading; there = so.there; cells_most = so.cells_most; bytes_most = so.bytes_most }) in
    record { reading = more.reading; there = more.there; cells_most = more.cells_most; bytes_most = more.bytes_most }

-- each call of the destination, as it is fresh
shown-call : (path dest : ℕ) (f : Floors) (call : Event) (v : View) (seq cells bytes : ℕ) → OfDest path dest call → IsFresh v f call → IsShown (v.readings path dest) seq cells bytes → IsShown ((grow call v).readings path dest) seq cells bytes
unfolding grow
shown-call path dest f (Took group number buf size need) v seq cells bytes of fresh so = absurd of
shown-call path dest f (Refused group number free need) v seq cells bytes of fresh so = absurd of
shown-call path dest f (Entered p k buf number size len readers) v seq cells bytes of fresh so = absurd of
shown-call path dest f (Asked p k n readers) v seq cells bytes of fresh so = absurd of
shown-call path dest f (Put p k cell) v seq cells bytes of fresh so = absurd of
shown-call path dest f (Published p k n) v seq cells bytes of fresh so = absurd of
shown-call path dest f (Joining p d k buf len) v seq cells bytes of fresh so =
    rw (of.0, of.1, at_two-same path dest _ v.readings) (shown-pushed (v.readings path dest) _ seq cells bytes so)
shown-call path dest f (Missed group p d k) v seq cells bytes of fresh so = so
shown-call path dest f (Saw p d k n m writer) v seq cells bytes of fresh so =
    let at : slice_get (v.readings path dest) k ≡ Some fresh.2.reading = ap (λ x. slice_get (v.readings x dest) k) (sym of.0) ∙ ap (λ x. slice_get (v.readings p x) k) (sym of.1) ∙ fresh.2.there in
    rw (of.0, of.1, at_two-same path dest _ v.readings) (shown-changed (v.readings path dest) k seq cells bytes _
    (λ r there. let same : fresh.2.reading ≡ r = same-some at there in record { cells = omega (arith, ap (λ (x : Reading). x.seen) same, fresh.2.cells_most); bytes = omega (arith, ap (λ (x : Reading). x.bytes) same, fresh.2.bytes_most) }) so)
shown-call path dest f (Read p d k cell) v seq cells bytes of fresh so =
    rw (of.0, of.1, at_two-same path dest _ v.readings) (shown-changed (v.readings path dest) k seq cells bytes _ (λ r there. record { cells = omega arith; bytes = omega arith }) so)
shown-call path dest f (Closed p k freed) v seq cells bytes of fresh so = absurd of
shown-call path dest f (Parted p d k freed) v seq cells bytes of fresh so =
    rw (of.0, of.1, at_two-same path dest _ v.readings) (shown-changed (v.readings path dest) k seq cells bytes _ (λ r there. record { cells = omega arith; bytes = omega arith }) so)

shown-stays : (path dest : ℕ) (f : Floors) (calls : List Event) (v : View) (seq cells bytes : ℕ) → AllByRecursion (OfDest path dest) calls → AreFresh f v calls → IsShown (v.readings path dest) seq cells bytes → IsShown ((grows calls v).readings path dest) seq cells bytes
shown-stays path dest f [] v seq cells bytes of fresh so = so
shown-stays path dest f (call ∷ calls) v seq cells bytes of fresh so = shown-stays path dest f calls (grow call v) seq cells bytes of.1 fresh.1 (shown-call path dest f call v seq cells bytes of.0 fresh.0 so)

-- from a look on
shown-first : (path dest seq : ℕ) (f : Floors) (cells bytes : ℕ) (writer : Bool) (v : View) → IsFresh v f (Saw path dest seq cells bytes writer) → IsShown ((grow (Saw path dest seq cells bytes writer) v).readings path dest) seq cells bytes
unfolding grow
shown-first path dest seq f cells bytes writer v fresh =
    rw (at_two-same path dest _ v.readings) (record { reading = record fresh.2.reading { seen = cells; bytes = bytes; writer = writer }; there = slice_get-change_at seq _ (v.readings path dest) fresh.2.reading fresh.2.there; cells_most = omega arith; bytes_most = omega arith })

shown-since : (path dest seq : ℕ) (f : Floors) (cells bytes : ℕ) (writer : Bool) (before after : List Event) (v : View) → AllByRecursion (OfDest path dest) (before ++ Saw path dest seq cells bytes writer ∷ after) → AreFresh f v (before ++ Saw path dest seq cells bytes writer ∷ after) →
    IsShown ((grows (before ++ Saw path dest seq cells bytes writer ∷ after) v).readings path dest) seq cells bytes
shown-since path dest seq f cells bytes writer [] after v of fresh =
    shown-stays path dest f after (grow (Saw path dest seq cells bytes writer) v) seq cells bytes of.1 fresh.1 (shown-first path dest seq f cells bytes writer v fresh.0)
shown-since path dest seq f cells bytes writer (call ∷ before) after v of fresh = shown-since path dest seq f cells bytes writer before after (grow call v) of.1 fresh.1

-- a call among two lists is among one of them
among-either : (call : Event) (first calls before after : List Event) → first ++ calls ≡ before ++ call ∷ after → IsAmong call first ⊎ IsAmong call calls
among-either call [] calls before after is = inr (record { before = before; after = after; are = is })
among-either call (one ∷ first) calls [] after is = inl (record { before = []; after = first; are = let same : one ≡ call = cc in ap (λ x. x ∷ first) same })
among-either call (one ∷ first) calls (other ∷ before) after is =
    let same : one ≡ other = cc in
    let rest : first ++ calls ≡ before ++ call ∷ after = cc in
    elim (among-either call first calls before after rest) [
      | inl so ↦ inl (record { before = other ∷ so.before; after = so.after; are = ap (λ x. x ∷ first) same ∙ ap (λ l. other ∷ l) so.are })
      | inr so ↦ inr so
    ]

-- each look of the sender, part by part
pub shown-parts : (p : Pair) (later parts : List (Part TxTurn)) (seq cells bytes : ℕ) (writer : Bool) → p.tx.parts ≡ later ++ parts → HasSent p.tx.set (turns_of parts) → IsAmong (Saw p.tx.set.path.0 p.tx.set.dest.0 seq cells bytes writer) (calls_by (turns_of parts)) →
    IsShown ((own_view (calls_by (turns_of parts))).readings p.tx.set.path.0 p.tx.set.dest.0) seq cells bytes
shown-parts p later [] seq cells bytes writer are happened among = absurd (nothing _ among.before among.after among.are)
  where
    nothing : (call : Event) (before after : List Event) → [] ≡ before ++ call ∷ after → ⊥
    nothing call [] after is = cc
    nothing call (first ∷ before) after is = cc
shown-parts p later (part ∷ earlier) seq cells bytes writer are happened among =
    let path : ℕ = p.tx.set.path.0 in
    let dest : ℕ = p.tx.set.dest.0 in
    let look : Event = Saw path dest seq cells bytes writer in
    let front : List Event = calls_by (turns_of earlier) in
    let now : List Event = calls_by part.turns in
    let both : calls_by (turns_of (part ∷ earlier)) ≡ front ++ now = calls-append part.turns (turns_of earlier) in
    let fresh = part-fresh p later part earlier are in
    let own : AllByRecursion (OfDest path dest) now = sent-reads p.tx.set part.turns (turns_of earlier) happened in
    let view : own_view (calls_by (turns_of (part ∷ earlier))) ≡ grows now (own_view front) = ap own_view both ∙ grows-append front now empty_view in
    let P : View → Type 0 = λ v. IsShown (v.readings path dest) seq cells bytes in
    subst P (sym view) (elim (among-either look front now among.before among.after (sym both ∙ among.are)) [
      | inl old ↦ shown-stays path dest fresh.0 now (own_view front) seq cells bytes own fresh.1
          (shown-parts p (later ++ part ∷ []) earlier seq cells bytes writer (are ∙ sym (append_assoc later (part ∷ []) earlier)) (happened-front _ part.turns (turns_of earlier) happened) old)
      | inr new ↦
          let A : List Event → Type 0 = λ c. AllByRecursion (OfDest path dest) c in
          let F : List Event → Type 0 = λ c. AreFresh fresh.0 (own_view front) c in
          let S : List Event → Type 0 = λ c. IsShown ((grows c (own_view front)).readings path dest) seq cells bytes in
          subst S (sym new.are) (shown-since path dest seq fresh.0 cells bytes writer new.before new.after (own_view front) (subst A new.are own) (subst F new.are fresh.1))
    ])
