-- In each view of looks that count the room, a session's room is at most its buffer, and at least all of it but the cells that were put.
use Rattle.std.proofs.Common.{◌≡◌, ℕ, ◌+◌, ◌-◌, ◌≤◌, false, Some, List, [], ◌∷◌, ◌++◌, length, inl, inr, refl, sym, ◌∙◌, subst, arith, length-append}
use Rattle.hub_core.proofs.Kept.{mapped, session-now, session-pushed}
use Rattle.hub_core.specs.View.{Event, Session, View, at_one, change_at, grow, grows, session_at, session_new}
use Rattle.hub_core.specs.View.{Took, Refused, Entered, Asked, Put, Published, Joining, Missed, Saw, Read, Closed, Parted}
use Rattle.gw_law.proofs.runs.RoomKept.{IsRoomSeen, KeepRoom, KeepsAt}

pub record IsRoomy (s : Session) : Type 0 where
  pub most : s.room ≤ s.size
  pub least : s.size ≤ s.room + length s.cells

abbrev pub AreRoomy : View → Type 0
AreRoomy v = (path seq : ℕ) (s : Session) → session_at v path seq ≡ Some s → IsRoomy s

changed-roomy : (path seq : ℕ) (f : Session → Session) (v w : View) → w.sessions ≡ at_one path (change_at seq f (v.sessions path)) v.sessions → ((s : Session) → session_at v path seq ≡ Some s → IsRoomy s → IsRoomy (f s)) → AreRoomy v → AreRoomy w
changed-roomy path seq f v w is keeps so q j s at = elim (session-now path seq f v w is q j) [
  | inr same ↦ so q j s (sym same ∙ at)
  | inl here ↦
      let one = mapped f (session_at v q j) s (sym here.2 ∙ at) in
      let P : Session → Type 0 = λ t. IsRoomy t in
      let A : ℕ → Type 0 = λ p. session_at v p seq ≡ Some one.0 in
      let B : ℕ → Type 0 = λ k. session_at v q k ≡ Some one.0 in
      subst P (sym one.2) (keeps one.0 (subst A here.0 (subst B here.1 one.1)) (so q j one.0 one.1))
]

pushed-roomy : (path : ℕ) (new : Session) (v w : View) → w.sessions ≡ at_one path (v.sessions path ++ new ∷ []) v.sessions → IsRoomy new → AreRoomy v → AreRoomy w
pushed-roomy path new v w is roomy so q j s at = elim (session-pushed path new v w is q j) [
  | inr same ↦ so q j s (sym same ∙ at)
  | inl here ↦ let one : Some new ≡ Some s = sym here.2 ∙ at in let same : new ≡ s = cc in let P : Session → Type 0 = λ t. IsRoomy t in subst P same roomy
]

grow-roomy : (call : Event) (v : View) → KeepsAt v call → AreRoomy v → AreRoomy (grow call v)
unfolding grow
grow-roomy (Took group number buf size need) v keep so = so
grow-roomy (Refused group number free need) v keep so = so
grow-roomy (Entered path seq buf number size len readers) v keep so = pushed-roomy path (session_new buf number size len readers) v (grow (Entered path seq buf number size len readers) v) refl (record { most = omega arith; least = omega arith }) so
grow-roomy (Asked path seq cells readers) v keep so =
    changed-roomy path seq (λ s. record s { room = cells; readers = readers }) v (grow (Asked path seq cells readers) v) refl (λ s at roomy. let seen : IsRoomSeen s cells = keep path seq cells readers s refl at in record { most = seen.most; least = seen.least }) so
grow-roomy (Put path seq cell) v keep so =
    changed-roomy path seq (λ s. record s { cells = s.cells ++ cell ∷ []; room = s.room - 1 }) v (grow (Put path seq cell) v) refl (λ s at roomy. record { most = omega (arith, roomy.most); least = omega (arith, roomy.least, length-append s.cells (cell ∷ [])) }) so
grow-roomy (Published path seq bytes) v keep so =
    changed-roomy path seq (λ s. record s { shown = length s.cells; told = s.told + bytes }) v (grow (Published path seq bytes) v) refl (λ s at roomy. record { most = roomy.most; least = roomy.least }) so
grow-roomy (Joining path dest seq buf len) v keep so = so
grow-roomy (Missed group path dest seq) v keep so = so
grow-roomy (Saw path dest seq cells bytes writer) v keep so = so
grow-roomy (Read path dest seq cell) v keep so = so
grow-roomy (Closed path seq freed) v keep so = changed-roomy path seq (λ s. record s { stands = false }) v (grow (Closed path seq freed) v) refl (λ s at roomy. record { most = roomy.most; least = roomy.least }) so
grow-roomy (Parted path dest seq freed) v keep so = so

pub grows-roomy : (calls : List Event) (v : View) → KeepRoom v calls → AreRoomy v → AreRoomy (grows calls v)
grows-roomy [] v keep so = so
grows-roomy (call ∷ calls) v keep so = grows-roomy calls (grow call v) keep.1 (grow-roomy call v keep.0 so)
