-- Each call of one thread keeps the law of a queue.
use Rattle.std.proofs.Common.{◌≡◌, ℕ, ◌+◌, ◌<◌, ◌≤◌, ⊎_elim, Bool, true, List, [], ◌∷◌, ◌++◌, length, take, Some, zero, suc, sym, refl, ap, ◌∙◌, subst, arith, length-append, append-nil, append_assoc, lt-ltb, le-ltb}
use Rattle.std.specs.Prelude.{slice_get, nat_lt, if◌then◌else◌}
use Rattle.std.proofs.lemmas.List.{take-append-le, take_all}
use Rattle.std.proofs.lemmas.Option.{slice_get_within}
use mathlib.Core.Logic.{dite}
use native.Mathlib.Decide.{dec_lt, ℕ_discrete}
use Rattle.if_core.proofs.Lists.{none_some, at_push, at_front}
use Rattle.if_core.specs.Lane.{Lane, queued, queued_by, within, flushed, flushed_by, taken, IsCaused, IsQueue, offered, took, empty_lane}
use Rattle.if_core.specs.Unit.{UnitOf}
use Rattle.if_core.specs.declared.lanes.Offer.{Offer}
use Rattle.if_core.specs.declared.lanes.Offer.TheVariants.{Queued, Flushed, Refused}
use Rattle.if_core.specs.declared.history.Offering.{Offering}
use Rattle.if_core.specs.declared.history.Taking.{Taking}

-- numbers in a range

pub within-before : (from end j : ℕ) → j < from → within from end j ≡ 0
within-before from end j h = ap (λ (b : Bool). if b then 0 else (if nat_lt j end then 1 else 0)) (lt-ltb j from h)

pub within-in : (from end j : ℕ) → from ≤ j → j < end → within from end j ≡ 1
within-in from end j h l = ap (λ (b : Bool). if b then 0 else (if nat_lt j end then 1 else 0)) (le-ltb j from h) ∙ ap (λ (b : Bool). if b then 1 else 0) (lt-ltb j end l)

pub within-after : (from end j : ℕ) → from ≤ j → end ≤ j → within from end j ≡ 0
within-after from end j h l = ap (λ (b : Bool). if b then 0 else (if nat_lt j end then 1 else 0)) (le-ltb j from h) ∙ ap (λ (b : Bool). if b then 1 else 0) (le-ltb j end l)

-- lists that grow at their end

pub queued-push : (offers : List Offering) (o : Offering) → queued (offers ++ o ∷ []) ≡ queued offers ++ queued_by o.unit o.answer
queued-push [] o = append-nil (queued_by o.unit o.answer)
queued-push (x ∷ offers) o = ap (λ (us : List UnitOf). queued_by x.unit x.answer ++ us) (queued-push offers o) ∙ sym (append_assoc (queued_by x.unit x.answer) (queued offers) (queued_by o.unit o.answer))

flushed-push : (offers : List Offering) (o : Offering) (j : ℕ) → flushed (offers ++ o ∷ []) j ≡ flushed offers j + flushed_by o.answer j
flushed-push [] o j = omega arith
flushed-push (x ∷ offers) o j = let h = flushed-push offers o j in omega (arith, h)

taken-push : (takes : List Taking) (t : Taking) (j : ℕ) → taken (takes ++ t ∷ []) j ≡ taken takes j + within t.position (t.position + 1) j
taken-push [] t j = omega arith
taken-push (x ∷ takes) t j = let h = taken-push takes t j in omega (arith, h)

-- what was taken is counted
pub taken-at : (takes : List Taking) (i : ℕ) (t : Taking) → slice_get takes i ≡ Some t → 0 < taken takes t.position
taken-at [] i t e = absurd (none_some e)
taken-at (x ∷ takes) zero t e =
    let same : x ≡ t = cc in
    let one = within-in t.position (t.position + 1) t.position (omega arith) (omega arith) in
    let is = ap (λ (y : Taking). within y.position (y.position + 1) t.position) same in
    omega (arith, one, is)
taken-at (x ∷ takes) (suc i) t e = let h = taken-at takes i t e in omega (arith, h)

-- one offer more

numbers-more : (d : ℕ) (keep : Bool) (p : ℕ) (l : Lane) (x : Offering) → IsQueue d keep p l → x.unit.number ≡ length l.offers → (k : ℕ) (o : Offering) → slice_get (l.offers ++ x ∷ []) k ≡ Some o → o.unit.number ≡ k
numbers-more d keep p l x q number k o is = ⊎_elim (λ old. q.numbers k o old) (λ new. sym (ap (λ (o : Offering). o.unit.number) new.1) ∙ number ∙ sym new.0) (at_push l.offers x k o is)

caused-more : (d : ℕ) (keep : Bool) (p : ℕ) (l : Lane) (x : Offering) → IsQueue d keep p l → IsCaused d keep (length (queued l.offers)) x.answer →
    (k : ℕ) (o : Offering) → slice_get (l.offers ++ x ∷ []) k ≡ Some o → IsCaused d keep (length (queued (take k (l.offers ++ x ∷ [])))) o.answer
caused-more d keep p l x q cause k o is = ⊎_elim
    (λ old. let inside = slice_get_within l.offers k o old in
    subst (λ (os : List Offering). IsCaused d keep (length (queued os)) o.answer) (sym (take-append-le k l.offers (x ∷ []) (omega (arith, inside)))) (q.caused k o old))
    (λ new. let all : take k (l.offers ++ x ∷ []) ≡ l.offers = take-append-le k l.offers (x ∷ []) (omega (arith, new.0)) ∙ take_all k l.offers (omega (arith, new.0)) in
    subst (λ (os : List Offering). IsCaused d keep (length (queued os)) o.answer) (sym all) (subst (λ (o : Offering). IsCaused d keep (length (queued l.offers)) o.answer) new.1 cause))
    (at_push l.offers x k o is)

pub starts : (d : ℕ) (keep : Bool) → IsQueue d keep 0 empty_lane
starts d keep = record {
  below = omega arith;
  few = omega arith;
  gone = λ j h. absurd (omega (arith, h));
  left = λ j h. refl;
  numbers = λ k o e. absurd (none_some e);
  caused = λ k o e. absurd (none_some e);
  units = λ k t e. absurd (none_some e);
  rising = λ i j s t less e f. absurd (none_some e);
}

-- an answer that queues its unit, where the queue's position moves on to `to` by its flush
pub queues : (d : ℕ) (keep : Bool) (p to : ℕ) (unit : UnitOf) (a : Offer) (l : Lane) → IsQueue d keep p l → unit.number ≡ length l.offers → queued_by unit a ≡ unit ∷ [] → ((j : ℕ) → flushed_by a j ≡ within p to j) → p ≤ to →
    to ≤ length (queued l.offers) → length (queued l.offers) < to + d → IsCaused d keep (length (queued l.offers)) a → IsQueue d keep to (offered unit a l)
queues d keep p to unit a l q number is flush on end space cause =
    let x : Offering = record { unit = unit; answer = a } in
    let more : queued (l.offers ++ x ∷ []) ≡ queued l.offers ++ unit ∷ [] = queued-push l.offers x ∙ ap (λ (z : List UnitOf). queued l.offers ++ z) is in
    let longer : length (queued (l.offers ++ x ∷ [])) ≡ length (queued l.offers) + 1 = ap length more ∙ length-append (queued l.offers) (unit ∷ []) in
    record {
      below = omega (arith, longer, end);
      few = omega (arith, longer, space);
      gone = λ j h. let e = flushed-push l.offers x j in let f = flush j in dite (dec_lt j p)
          (λ b. let z = within-before p to j b in let y = q.gone j b in omega (arith, e, f, z, y))
          (λ b. let z = within-in p to j (omega (arith, b)) h in let y = q.left j (omega (arith, b)) in omega (arith, e, f, z, y));
      left = λ j h. let e = flushed-push l.offers x j in let f = flush j in let z = within-after p to j (omega (arith, h, on)) h in let y = q.left j (omega (arith, h, on)) in omega (arith, e, f, z, y);
      numbers = numbers-more d keep p l x q number;
      caused = caused-more d keep p l x q cause;
      units = λ at t there. subst (λ (us : List UnitOf). slice_get us t.position ≡ Some t.unit) (sym more) (at_front (queued l.offers) (unit ∷ []) t.position t.unit (q.units at t there));
      rising = q.rising;
    }

pub refuses : (d : ℕ) (keep : Bool) (p : ℕ) (unit : UnitOf) (l : Lane) → IsQueue d keep p l → unit.number ≡ length l.offers → keep ≡ true → p + d ≡ length (queued l.offers) →
    IsQueue d keep p (offered unit (Refused (length (queued l.offers)) p) l)
refuses d keep p unit l q number keeps full =
    let x : Offering = record { unit = unit; answer = Refused (length (queued l.offers)) p } in
    let same : queued (l.offers ++ x ∷ []) ≡ queued l.offers = queued-push l.offers x ∙ append-nil (queued l.offers) in
    record {
      below = omega (arith, q.below, ap length same);
      few = omega (arith, q.few, ap length same);
      gone = λ j h. let e = flushed-push l.offers x j in let y = q.gone j h in omega (arith, e, y);
      left = λ j h. let e = flushed-push l.offers x j in let y = q.left j h in omega (arith, e, y);
      numbers = numbers-more d keep p l x q number;
      caused = caused-more d keep p l x q (keeps, refl, full);
      units = λ at t there. subst (λ (us : List UnitOf). slice_get us t.position ≡ Some t.unit) (sym same) (q.units at t there);
      rising = q.rising;
    }

pub takes : (d : ℕ) (keep : Bool) (p : ℕ) (unit : UnitOf) (l : Lane) → IsQueue d keep p l → p < length (queued l.offers) → slice_get (queued l.offers) p ≡ Some unit → IsQueue d keep (p + 1) (took p unit l)
takes d keep p unit l q more is =
    let x : Taking = record { position = p; unit = unit } in
    record {
      below = omega (arith, more);
      few = omega (arith, q.few);
      gone = λ j h. let e = taken-push l.takes x j in dite (ℕ_discrete j p)
          (λ b. let z = within-in p (p + 1) j (omega (arith, b)) h in let y = q.left j (omega (arith, b)) in omega (arith, e, z, y))
          (λ b. let z = within-before p (p + 1) j (omega (arith, b, h)) in let y = q.gone j (omega (arith, b, h)) in omega (arith, e, z, y));
      left = λ j h. let e = taken-push l.takes x j in let z = within-after p (p + 1) j (omega (arith, h)) h in let y = q.left j (omega (arith, h)) in omega (arith, e, z, y);
      numbers = q.numbers;
      caused = q.caused;
      units = λ at t there. ⊎_elim (λ old. q.units at t old) (λ new. subst (λ (t : Taking). slice_get (queued l.offers) t.position ≡ Some t.unit) new.1 is) (at_push l.takes x at t there);
      rising = λ i j s t less first second. ⊎_elim
          (λ old. let inside = slice_get_within l.takes j t old in ⊎_elim (λ was. q.rising i j s t less was old) (λ last. absurd (omega (arith, last.0, inside, less))) (at_push l.takes x i s first))
          (λ new. let at : p ≡ t.position = ap (λ (y : Taking). y.position) new.1 in
          ⊎_elim (λ was. before s i was at) (λ last. absurd (omega (arith, last.0, new.0, less))) (at_push l.takes x i s first))
          (at_push l.takes x j t second);
    }
  where
    before : (s : Taking) (i : ℕ) → slice_get l.takes i ≡ Some s → {t : ℕ} → p ≡ t → s.position < t
    before s i was {t} at = dite (dec_lt s.position p) (λ yes. omega (arith, yes, at)) (λ no. let none = q.left s.position (omega (arith, no)) in let some = taken-at l.takes i s was in absurd (omega (arith, none, some)))

-- there are no more queued units than offers
pub queued-few : (offers : List Offering) → length (queued offers) ≤ length offers
queued-few [] = omega arith
queued-few (o ∷ offers) = let h = queued-few offers in let a = length-append (queued_by o.unit o.answer) (queued offers) in let one = few o.unit o.answer in omega (arith, h, a, one)
  where
    few : (unit : UnitOf) (a : Offer) → length (queued_by unit a) ≤ 1
    few unit Queued = omega arith
    few unit (Flushed from to) = omega arith
    few unit (Refused count position) = omega arith

pub within-empty : (p j : ℕ) → within p p j ≡ 0
within-empty p j = dite (dec_lt j p) (λ b. within-before p p j b) (λ b. within-after p p j (omega (arith, b)) (omega (arith, b)))
