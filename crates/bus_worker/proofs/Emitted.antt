-- What lies in boxes of which some frames left, as long as these count as lying there still.
use Rattle.std.proofs.Common.{◌≡◌, ◌≢◌, ◌⊎◌, inl, inr, ℕ, zero, suc, ◌<◌, cond, None, Some, List, [], ◌∷◌, ◌++◌, refl, ap, sym, ◌∙◌, arith}
use Rattle.std.specs.Prelude.{slice_get}
use Rattle.std.proofs.lemmas.Bool.{cases_eq}
use Rattle.can_frame.specs.Frame.{CanFrame}
use Rattle.can_frame.specs.Priority.{priority_of}
use Rattle.gw_base.proofs.Lists.{none-some, same-some}
use Rattle.tx_mailbox.specs.Boxes.{IsEmitted, Pending, content}
use Rattle.bus_worker.proofs.ActLists.{differs, is-same}
use Rattle.bus_worker.specs.Emission.{AreOut}

pub content-own : (number : ℕ) (frame : CanFrame) (pending : List Pending) → content number ((number, frame) ∷ pending) ≡ Some frame
content-own number frame pending = ap (λ b. cond b (Some frame) (content number pending)) (is-same number)

pub content-other : (number : ℕ) (entry : Pending) (pending : List Pending) → number ≢ entry.0 → content number (entry ∷ pending) ≡ content number pending
content-other number entry pending ne = ap (λ b. cond b (Some entry.1) (content number pending)) (differs entry.0 number (λ is. ne (sym is)))

-- a list in which the box is empty
pub content-rest : (number : ℕ) (entry : Pending) (pending : List Pending) → content number (entry ∷ pending) ≡ None → (number ≢ entry.0) × (content number pending ≡ None)
content-rest number entry pending none = elim (cases_eq number entry.0) [
  | inl here ↦ absurd (none-some (ap (λ n. content n (entry ∷ pending)) (sym here) ∙ none) (content-own entry.0 entry.1 pending))
  | inr ne ↦ (ne, sym (content-other number entry pending ne) ∙ none)
]

pub content-front : (number : ℕ) (left boxes : List Pending) → content number (left ++ boxes) ≡ None → content number left ≡ None
content-front number [] boxes none = refl
content-front number (entry ∷ left) boxes none = let so = content-rest number entry (left ++ boxes) none in content-other number entry left so.0 ∙ content-front number left boxes so.1

pub content-back : (number : ℕ) (left boxes : List Pending) → content number (left ++ boxes) ≡ None → content number boxes ≡ None
content-back number [] boxes none = none
content-back number (entry ∷ left) boxes none = content-back number left boxes (content-rest number entry (left ++ boxes) none).1

pub content-behind : (number : ℕ) (left boxes : List Pending) → content number left ≡ None → content number (left ++ boxes) ≡ content number boxes
content-behind number [] boxes none = refl
content-behind number (entry ∷ left) boxes none = let so = content-rest number entry left none in content-other number entry (left ++ boxes) so.0 ∙ content-behind number left boxes so.1

pub content-same : (number : ℕ) (left boxes other : List Pending) → content number boxes ≡ content number other → content number (left ++ boxes) ≡ content number (left ++ other)
content-same number [] boxes other same = same
content-same number (entry ∷ left) boxes other same = elim (cases_eq number entry.0) [
  | inl here ↦
      ap (λ n. content n (entry ∷ (left ++ boxes))) here ∙ content-own entry.0 entry.1 (left ++ boxes) ∙ sym (content-own entry.0 entry.1 (left ++ other)) ∙ ap (λ n. content n (entry ∷ (left ++ other))) (sym here)
  | inr ne ↦ content-other number entry (left ++ boxes) ne ∙ content-same number left boxes other same ∙ sym (content-other number entry (left ++ other) ne)
]

-- frames that left are out of boxes that change elsewhere
pub out-stays : (number : ℕ) (left boxes other : List Pending) → content number left ≡ None → ((n : ℕ) → n ≢ number → content n other ≡ content n boxes) → AreOut left boxes → AreOut left other
out-stays number [] boxes other none same out = tt
out-stays number (entry ∷ left) boxes other none same out =
    let so = content-rest number entry left none in
    (content-same entry.0 left other boxes (same entry.0 (λ is. so.0 (sym is))) ∙ out.0, out-stays number left boxes other so.1 same out.1)

-- a frame of that box stands among these, or none does
FoundIn : (number : ℕ) → List Pending → Type 0
FoundIn number pending = (i : ℕ) × (entry : Pending) × (slice_get pending i ≡ Some entry) × (entry.0 ≡ number) × (content number pending ≡ Some entry.1)

IsNowhere : (number : ℕ) → List Pending → Type 0
IsNowhere number pending = ((i : ℕ) (entry : Pending) → slice_get pending i ≡ Some entry → entry.0 ≡ number → ⊥) × (content number pending ≡ None)

found-or-not : (number : ℕ) (pending : List Pending) → FoundIn number pending ⊎ IsNowhere number pending
unfolding FoundIn IsNowhere
found-or-not number [] = inr ((λ i entry at is. none-some refl at), refl)
found-or-not number (entry ∷ pending) = elim (cases_eq number entry.0) [
  | inl here ↦ inl (zero, entry, refl, sym here, ap (λ n. content n (entry ∷ pending)) here ∙ content-own entry.0 entry.1 pending)
  | inr ne ↦ elim (found-or-not number pending) [
    | inl found ↦ inl (suc found.0, found.1, found.2, found.3, content-other number entry pending ne ∙ found.4)
    | inr nowhere ↦ inr (outside number entry pending ne nowhere.0, content-other number entry pending ne ∙ nowhere.1)
  ]
] where
  outside : (number : ℕ) (entry : Pending) (pending : List Pending) → number ≢ entry.0 → ((i : ℕ) (other : Pending) → slice_get pending i ≡ Some other → other.0 ≡ number → ⊥) → (i : ℕ) (other : Pending) → slice_get (entry ∷ pending) i ≡ Some other → other.0 ≡ number → ⊥
  outside number entry pending ne not zero other at is = ne (sym (ap (λ (e : Pending). e.0) (same-some refl at) ∙ is))
  outside number entry pending ne not (suc i) other at is = not i other at is

in-front : (number : ℕ) (frame : CanFrame) (left boxes : List Pending) → content number left ≡ Some frame → content number (left ++ boxes) ≡ Some frame
in-front number frame [] boxes some = absurd (none-some refl some)
in-front number frame (entry ∷ left) boxes some = elim (cases_eq number entry.0) [
  | inl here ↦
      ap (λ n. content n (entry ∷ (left ++ boxes))) here ∙ content-own entry.0 entry.1 (left ++ boxes) ∙ sym (content-own entry.0 entry.1 left) ∙ ap (λ n. content n (entry ∷ left)) (sym here) ∙ some
  | inr ne ↦ content-other number entry (left ++ boxes) ne ∙ in-front number frame left boxes (sym (content-other number entry left ne) ∙ some)
]

-- frames of different boxes, each of which is empty, are out of them
all-out : (left boxes : List Pending) → ((i j : ℕ) (first second : Pending) → i < j → slice_get left i ≡ Some first → slice_get left j ≡ Some second → first.0 ≢ second.0) → ((i : ℕ) (entry : Pending) → slice_get left i ≡ Some entry → content entry.0 boxes ≡ None) → AreOut left boxes
unfolding FoundIn IsNowhere
all-out [] boxes apart gone = tt
all-out (entry ∷ later) boxes apart gone = (
  elim (found-or-not entry.0 later) [
    | inl found ↦ absurd (apart zero (suc found.0) entry found.1 (omega arith) refl found.2 (sym found.3))
    | inr nowhere ↦ content-behind entry.0 later boxes nowhere.1 ∙ gone zero entry refl
  ],
  all-out later boxes (λ i j first second less at at'. apart (suc i) (suc j) first second (omega (arith, less)) at at') (λ i other at. gone (suc i) other at),
)

-- what was emitted
module _ (budget : ℕ) (before out after : List Pending) (emitted : IsEmitted budget before out after) where
  apart : (i j : ℕ) (first second : Pending) → i < j → slice_get out i ≡ Some first → slice_get out j ≡ Some second → first.0 ≢ second.0
  apart i j first second less at at' same =
      let frames : first.1 ≡ second.1 = same-some (emitted.pending i first at) (ap (λ n. content n before) same ∙ emitted.pending j second at') in
      let priority : priority_of first.1.id ≡ priority_of second.1.id = ap (λ (f : CanFrame). priority_of f.id) frames in
      elim (emitted.in_order i j first second less at at') [
        | inl lower ↦ omega (arith, lower, priority)
        | inr equal ↦ (let number = equal.1 in omega (arith, number, same))
      ]

  pub emitted-out : AreOut out after
  emitted-out = all-out out after apart emitted.gone

  -- with the frames that left all lies there that lay there
  pub emitted-lie : (number : ℕ) → content number (out ++ after) ≡ content number before
  unfolding FoundIn IsNowhere
  emitted-lie number = elim (found-or-not number out) [
    | inl found ↦ in-front number found.1.1 out after found.4 ∙ sym (emitted.pending found.0 found.1 found.2) ∙ ap (λ n. content n before) found.3
    | inr nowhere ↦ content-behind number out after nowhere.1 ∙ emitted.kept number nowhere.0
  ]
