-- A tick is over: what is so of the receptions that are over, and of a receiver that is idle.
use Rattle.std.proofs.Common.{◌≡◌, inl, inr, ◌⊎◌, ℕ, ◌+◌, ◌<◌, ◌≤◌, zero, suc, Bool, true, Option, Some, None, List, [], ◌∷◌, ◌++◌, length, map, refl, ap, sym, ◌∙◌, subst, arith, append-nil}
use Rattle.std.specs.Prelude.{option_map, slice_get}
use Rattle.std.specs.List.{AllByRecursion}
use Rattle.std.proofs.lemmas.Bool.{cases_lt}
use Rattle.std.proofs.lemmas.List.{length-map}
use Rattle.std.proofs.lemmas.Option.{slice_get_within, slice_get-map}
use Rattle.gw_base.proofs.Lists.{all-at, all-last, all-weaker, there-at, zip-index, zip-long, zip-weaker}
use Rattle.hub_core.specs.declared.record.SessionRecord.{SessionRecord}
use Rattle.tp_attempts.specs.Attempts.{attempts_in}
use Rattle.tp_attempts.specs.Cuts.{Cut}
use Rattle.tp_attempts.specs.Seen.{Seen}
use Rattle.tp_receiver.specs.Grant.{overflow}
use Rattle.tp_receiver.specs.declared.set.RxSet.{RxSet}
use Rattle.tp_unit.specs.Box.{Written}
use Rattle.tp_unit.specs.Unit.{Meaning}
use Rattle.tp_unit.specs.declared.shape.Shape.{Shape}
use Rattle.receiver_law.specs.FlowControls.{IsFirst}
use Rattle.receiver_law.specs.Receptions.{ControlLeft, Received, last_by}
use Rattle.receiver_law.specs.Source.{CountsFrom, is_overflow}
use Rattle.receiver_law.proofs.receptions.Counting.{last-newest}
use Rattle.receiver_law.proofs.receptions.Settled.{IsSettled, settled-later, settled-on, starts_of}
use Rattle.receiver_law.proofs.receptions.SoFar.{AreTold, BoxSo, IdleSo, IsRefusing, IsUnanswered, LastSo}

-- the number at a place
pub counts-to : (first : ℕ) (numbers : List ℕ) (k number : ℕ) → CountsFrom first numbers → slice_get numbers k ≡ Some number → number ≡ first + k
counts-to first [] k number counts is = cc
counts-to first (x ∷ numbers) zero number counts is = let same : x ≡ number = cc in omega (arith, same, counts.0)
counts-to first (x ∷ numbers) (suc k) number counts is = omega (arith, counts-to (first + 1) numbers k number counts.1 is)

-- the last of a list
pub last-split : {A : Type 0} (xs : List A) (k : ℕ) (x : A) → slice_get xs k ≡ Some x → k + 1 ≡ length xs → (front : List A) × (xs ≡ front ++ x ∷ [])
last-split [] k x is at = cc
last-split (y ∷ []) zero x is at = let same : y ≡ x = cc in ([], ap (λ z. z ∷ []) same)
last-split (y ∷ z ∷ xs) zero x is at = absurd (omega (arith, at))
last-split (y ∷ xs) (suc k) x is at = let rest = last-split xs k x is (omega (arith, at)) in (y ∷ rest.0, ap (λ l. y ∷ l) rest.1)

-- what holds of an item and of all after it holds of the last one
pub last-of : {A : Type 0} (P : A → Type 0) (front : List A) (x : A) (after others : List A) (last : A) → front ++ x ∷ after ≡ others ++ last ∷ [] → P x → AllByRecursion P after → P last
last-of P [] x after others last are of all = all-last P others last (subst (AllByRecursion P) are (of, all))
last-of P (y ∷ front) x after [] last are of all = let none : front ++ x ∷ after ≡ [] = cc in absurd (never front none)
  where
    never : (front : List _) → front ++ x ∷ after ≡ [] → ⊥
    never [] is = cc
    never (z ∷ front) is = cc
last-of P (y ∷ front) x after (z ∷ others) last are of all = last-of P front x after others last (let rest : front ++ x ∷ after ≡ others ++ last ∷ [] = cc in rest) of all

module _ (full : ℕ → Bool) (set : RxSet) (shape : Shape) where
  -- frames of a later tick are all that may come
  pub told-over : (tick over later : ℕ) (starts : List ℕ) (attempts : List (Cut Seen)) (records : List SessionRecord) (written : List Written) (own : List ControlLeft) (parts : List Received) → over ≤ later → AreTold full set shape tick over starts attempts records written own parts →
      AreTold full set shape tick later starts attempts records written own parts
  told-over tick over later starts attempts records written own parts le so = record {
    settled = zip-weaker (IsSettled full set tick over starts) (IsSettled full set tick later starts) attempts parts (λ attempt one is. simp append-nil at (settled-later full set tick over later starts [] attempt one le is)) so.settled;
    records_are = so.records_are;
    written_are = so.written_are;
    by = so.by;
  }

  -- the flow control of the newest start is owed in that tick
  abbrev pub IsOwing : (tick : ℕ) → Received → Type 0
  IsOwing tick one = IsFirst one.start.meaning × (is_overflow one.told.result ≡ true) × (one.told.begin.0 ≤ tick) × (tick < one.told.begin.0 + set.n_ar) × (one.controls ≡ [])

  -- a tick is over
  pub told-on : (tick over : ℕ) (starts : List ℕ) (attempts : List (Cut Seen)) (records : List SessionRecord) (written : List Written) (own : List ControlLeft) (parts : List Received) → CountsFrom 0 (map (λ (told : SessionRecord). told.n) records) → length attempts ≤ length starts →
      ((k : ℕ) (one : Received) → slice_get parts k ≡ Some one → k + 1 ≡ length starts → IsOwing tick one → full tick ≡ true) → AreTold full set shape tick over starts attempts records written own parts →
      AreTold full set shape (tick + 1) over starts attempts records written own parts
  told-on tick over starts attempts records written own parts counts many newest so = record {
    settled = zip-index (IsSettled full set tick over starts) (IsSettled full set (tick + 1) over starts) attempts parts (λ k attempt one there is_one is. settled-on full set tick over starts attempt one
        (λ first refused from to none gone. elim (cases_lt (k + 1) (length starts)) [
          | inl before ↦
              let later = there-at starts (k + 1) before in
              let n : one.told.n ≡ k = number k one is_one in
              absurd (omega (arith, none (k + 1) later.0 (omega (arith, n)) later.1, all-at (λ (at : ℕ). at ≤ tick) starts (k + 1) later.0 so.by later.1))
          | inr after ↦ newest k one is_one (omega (arith, after, many, slice_get_within attempts k attempt there)) (first, refused, from, to, none-left one.controls (is.refusal first refused).by gone)
        ]) is) so.settled;
    records_are = so.records_are;
    written_are = so.written_are;
    by = all-weaker (λ (at : ℕ). at ≤ tick) (λ (at : ℕ). at ≤ tick + 1) starts (λ at by. omega (arith, by)) so.by;
  }
    where
      none-left : (controls : List ControlLeft) → AllByRecursion (λ (control : ControlLeft). control.tick ≤ tick) controls → last_by tick controls ≡ None → controls ≡ []
      none-left [] all gone = refl
      none-left (control ∷ earlier) all gone = let clash : Some control ≡ None = sym (last-newest tick control earlier all.0) ∙ gone in cc

      number : (k : ℕ) (one : Received) → slice_get parts k ≡ Some one → one.told.n ≡ k
      number k one is =
          let told : slice_get records k ≡ Some one.told = ap (λ (r : List SessionRecord). slice_get r k) so.records_are ∙ slice_get-map (λ (p : Received). p.told) parts k ∙ ap (option_map (λ (p : Received). p.told)) is in
          let n : slice_get (map (λ (told : SessionRecord). told.n) records) k ≡ Some one.told.n = slice_get-map (λ (told : SessionRecord). told.n) records k ∙ ap (option_map (λ (told : SessionRecord). told.n)) told in
          omega (arith, counts-to 0 (map (λ (told : SessionRecord). told.n) records) k one.told.n counts n)

  last-on : (tick : ℕ) (refusing : Option ℕ) (parts : List Received) → LastSo set tick refusing parts → LastSo set (tick + 1) refusing parts
  last-on tick refusing parts so front one are is = elim (so front one are is) [ inl lies ↦ inl lies | inr late ↦ inr (omega (arith, late)) ]

  box-on : (tick over : ℕ) (refusing : Option ℕ) (lies : Option Meaning) (parts : List Received) → BoxSo set tick over refusing lies parts → BoxSo set (tick + 1) over refusing lies parts
  box-on tick over None lies parts so = so
  box-on tick over (Some since) lies parts so = record { lies_is = so.lies_is; by = omega (arith, so.by); in_time = so.in_time; front = so.front; one = so.one; after = so.after; are = so.are; unanswered = so.unanswered; begins = so.begins; quiet = so.quiet }

  pub length-starts : (seen : List Seen) → length (attempts_in set.functional seen) ≤ length (starts_of (attempts_in set.functional seen))
  length-starts seen = omega (arith, length-map (attempts_in set.functional seen) (λ (attempt : Cut Seen). attempt.start.at))

  -- the newest reception that is over, where no flow control left by that tick
  newest-is : (tick : ℕ) (parts : List Received) (attempts : List (Cut Seen)) (starts : List ℕ) (k : ℕ) (one : Received) → length parts ≡ length starts → slice_get parts k ≡ Some one → k + 1 ≡ length starts → (front : List Received) × (parts ≡ front ++ one ∷ [])
  newest-is tick parts attempts starts k one same is at = last-split parts k one is (omega (arith, same, at))

  -- an idle receiver whose flow control doesn't leave in that tick
  pub idle-on : (tick : ℕ) (refusing : Option ℕ) (lies : Option Meaning) (seen : List Seen) (records : List SessionRecord) (written : List Written) → CountsFrom 0 (map (λ (told : SessionRecord). told.n) records) → (lies ≡ None) ⊎ (full tick ≡ true) →
      IdleSo full set shape tick (tick + 1) refusing lies seen records written → IdleSo full set shape (tick + 1) (tick + 1) refusing lies seen records written
  idle-on tick refusing lies seen records written counts stays so =
      let starts : List ℕ = starts_of (attempts_in set.functional seen) in
      let attempts : List (Cut Seen) = attempts_in set.functional seen in
      let same : length so.parts ≡ length starts = sym (zip-long (IsSettled full set tick (tick + 1) starts) attempts so.parts so.told.settled) ∙ sym (length-map attempts (λ (attempt : Cut Seen). attempt.start.at)) in
      record {
        parts = so.parts;
        told = told-on tick (tick + 1) starts attempts records written [] so.parts counts (length-starts seen) (λ k one is at owing. elim stays [
          | inr busy ↦ busy
          | inl none ↦
              let split = newest-is tick so.parts attempts starts k one same is at in
              absurd (not-owing refusing one none so.box owing (so.last split.0 one split.1))
        ]) so.told;
        last = last-on tick refusing so.parts so.last;
        box = box-on tick (tick + 1) refusing lies so.parts so.box;
      }
    where
      not-owing : (now : Option ℕ) (one : Received) → lies ≡ None → BoxSo set tick (tick + 1) now lies so.parts → IsOwing tick one → (IsUnanswered one → (now ≡ Some one.told.begin.0) ⊎ (one.told.begin.0 + set.n_ar ≤ tick)) → ⊥
      not-owing now one none box owing last = elim (last (record { first = owing.0; refused = owing.1; none = owing.4 })) [
        | inr late ↦ omega (arith, late, owing.3)
        | inl is ↦ let it : IsRefusing set tick (tick + 1) one.told.begin.0 lies so.parts = subst (λ (r : Option ℕ). BoxSo set tick (tick + 1) r lies so.parts) is box in let clash : None ≡ Some overflow = sym none ∙ it.lies_is in cc
      ]
