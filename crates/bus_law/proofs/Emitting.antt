-- Which of the frames that lay in a bus's boxes left in a tick, and what that says of a frame that stayed.
use Rattle.std.proofs.Common.{◌≡◌, ◌≢◌, ◌⊎◌, inl, inr, ℕ, zero, suc, ◌<◌, ◌≤◌, true, Option, None, Some, List, [], ◌∷◌, length, refl, ap, sym, ◌∙◌, arith, eq-eqb, le-leb}
use Rattle.std.specs.Prelude.{slice_get}
use Rattle.std.specs.List.{AllByRecursion}
use Rattle.std.proofs.lemmas.Bool.{cases_eq}
use Rattle.std.proofs.lemmas.List.{length-map}
use Rattle.can_frame.specs.Frame.{CanFrame}
use Rattle.can_frame.specs.Priority.{priority_of}
use Rattle.can_frame.specs.declared.id.CanId.{CanId}
use Rattle.gw_base.proofs.Lists.{all-at, none-some, same-some}
use Rattle.tp_unit.specs.Box.{Written, left_in}
use Rattle.tx_mailbox.specs.Boxes.{IsEmitted, LeavesBefore, Pending, content}
use Rattle.gw_law.specs.Account.{is_full_for, none_after}
use Rattle.bus_worker.specs.Emission.{all_sent_in, sent_in}

-- no frame left that box, and one frame did
abbrev pub NoneOf : (number : ℕ) → List Pending → Type 0
NoneOf number out = AllByRecursion (λ (entry : Pending). entry.0 ≢ number) out

abbrev pub OneOf : (number : ℕ) → List Pending → Type 0
OneOf number [] = ⊥
OneOf number (entry ∷ later) = ((entry.0 ≡ number) × NoneOf number later) ⊎ ((entry.0 ≢ number) × OneOf number later)

-- at different places stand frames of different boxes
abbrev AreDifferent : List Pending → Type 0
AreDifferent out = (i j : ℕ) (first second : Pending) → i < j → slice_get out i ≡ Some first → slice_get out j ≡ Some second → first.0 ≢ second.0

later-differ : (entry : Pending) (out : List Pending) → AreDifferent (entry ∷ out) → AreDifferent out
later-differ entry out differ i j first second before one two = differ (suc i) (suc j) first second (omega (arith, before)) one two

none-of : (number : ℕ) (out : List Pending) → ((i : ℕ) (entry : Pending) → slice_get out i ≡ Some entry → entry.0 ≢ number) → NoneOf number out
none-of number [] each = tt
none-of number (entry ∷ out) each = (each zero entry refl, none-of number out (λ i other is. each (suc i) other is))

one-or-none : (number : ℕ) (out : List Pending) → AreDifferent out → OneOf number out ⊎ NoneOf number out
one-or-none number [] differ = inr tt
one-or-none number (entry ∷ out) differ = elim (cases_eq entry.0 number) [
  | inl is ↦ inl (inl (is, none-of number out (λ i other there same. differ zero (suc i) entry other (omega arith) refl there (is ∙ sym same))))
  | inr ne ↦ elim (one-or-none number out (later-differ entry out differ)) [
    | inl one ↦ inl (inr (ne, one))
    | inr none ↦ inr (ne, none)
  ]
]

-- frames that leave lay in different boxes
different-by : (first second : Pending) → LeavesBefore first second → first.0 ≡ second.0 → first.1 ≡ second.1 → ⊥
different-by first second (inl lower) same frames = (let p = ap (λ (f : CanFrame). priority_of f.id) frames in omega (arith, lower, p))
different-by first second (inr equal) same frames = (let low = equal.1 in omega (arith, low, same))

different : (budget : ℕ) (before out after : List Pending) → IsEmitted budget before out after → AreDifferent out
different budget before out after emitted i j first second less one two same =
    different-by first second (emitted.in_order i j first second less one two) same
    (same-some (emitted.pending i first one) (ap (λ n. content n before) same ∙ emitted.pending j second two))

-- what lay in a box left, or stayed since the bus was full for it
pub data Emits (budget : ℕ) (number : ℕ) (lies : Option CanFrame) (out : List Pending) : Type 0 where
  Nothing : lies ≡ None → NoneOf number out → Emits budget number lies out
  Went : (frame : CanFrame) → lies ≡ Some frame → OneOf number out → Emits budget number lies out
  Stayed : (frame : CanFrame) → lies ≡ Some frame → NoneOf number out → length out ≡ budget → AllByRecursion (λ (entry : Pending). priority_of entry.1.id ≤ priority_of frame.id) out → Emits budget number lies out

emits-by : (budget number : ℕ) (before out after : List Pending) (lies : Option CanFrame) → IsEmitted budget before out after → content number before ≡ lies → OneOf number out ⊎ NoneOf number out → Emits budget number lies out
emits-by budget number before out after None emitted is found = Nothing refl (none-of number out (λ i entry there same. none-some (ap (λ n. content n before) same ∙ is) (emitted.pending i entry there)))
emits-by budget number before out after (Some frame) emitted is (inl one) = Went frame refl one
emits-by budget number before out after (Some frame) emitted is (inr none) =
    let stays = emitted.kept number (λ i entry there same. all-at (λ (e : Pending). e.0 ≢ number) out i entry none there same) ∙ is in
    let full = emitted.full number frame stays in
    Stayed frame refl none full.0 full.1

pub emits : (budget number : ℕ) (before out after : List Pending) → IsEmitted budget before out after → Emits budget number (content number before) out
emits budget number before out after emitted = emits-by budget number before out after (content number before) emitted refl (one-or-none number out (different budget before out after emitted))

-- where it stayed, the bus was full for its identifier by what left in the tick
none-later : (tick : ℕ) (id : CanId) (out : List Pending) → AllByRecursion (λ (entry : Pending). priority_of entry.1.id ≤ priority_of id) out → none_after id (all_sent_in tick out) ≡ true
none-later tick id [] all = refl
none-later tick id (entry ∷ out) all = rw (le-leb (priority_of entry.1.id) (priority_of id) all.0) (none-later tick id out all.1)

pub full-for : (budget tick : ℕ) (id : CanId) (left : List Written) (out : List Pending) → left_in tick left ≡ all_sent_in tick out → length out ≡ budget → AllByRecursion (λ (entry : Pending). priority_of entry.1.id ≤ priority_of id) out → is_full_for budget left id tick ≡ true
full-for budget tick id left out is many all =
    rw (is, eq-eqb (length (all_sent_in tick out)) budget (length-map out (sent_in tick) ∙ many)) (none-later tick id out all)
