-- What turns saw, each at the floors of the view in which it began, is no older than the floors of the view before all of them.
use Rattle.std.proofs.Common.{◌≡◌, ℕ, ◌+◌, ◌-◌, ◌≤◌, false, Some, List, [], ◌∷◌, ◌++◌, length, inl, inr, refl, sym, ◌∙◌, subst, arith, length-append}
use Rattle.hub_core.proofs.Fresh.{ShowsPut, are-fresh-append, rise-same, rise-twice, rises}
use Rattle.hub_core.proofs.Kept.{mapped, session-now, session-pushed}
use Rattle.hub_core.specs.Floors.{AreFresh, Rise, floors_of}
use Rattle.hub_core.specs.Turns.{AreFreshTurns, Turn, calls_by}
use Rattle.hub_core.specs.View.{Event, Session, View, at_one, change_at, grow, grows, session_at, session_new}
use Rattle.hub_core.specs.View.{Took, Refused, Entered, Asked, Put, Published, Joining, Missed, Saw, Read, Closed, Parted}

-- a session is changed so that what it shows stays below what was put
changed-shows : (path seq : ℕ) (f : Session → Session) (v w : View) → w.sessions ≡ at_one path (change_at seq f (v.sessions path)) v.sessions → ((s : Session) → s.shown ≤ length s.cells → (f s).shown ≤ length (f s).cells) → ShowsPut v → ShowsPut w
changed-shows path seq f v w is keeps put q j s at = elim (session-now path seq f v w is q j) [
  | inr same ↦ put q j s (sym same ∙ at)
  | inl here ↦
      let one = mapped f (session_at v q j) s (sym here.2 ∙ at) in
      let P : Session → Type 0 = λ t. t.shown ≤ length t.cells in
      subst P (sym one.2) (keeps one.0 (put q j one.0 one.1))
]

pushed-shows : (path : ℕ) (new : Session) (v w : View) → w.sessions ≡ at_one path (v.sessions path ++ new ∷ []) v.sessions → new.shown ≤ length new.cells → ShowsPut v → ShowsPut w
pushed-shows path new v w is some put q j s at = elim (session-pushed path new v w is q j) [
  | inr same ↦ put q j s (sym same ∙ at)
  | inl here ↦ let one : Some new ≡ Some s = sym here.2 ∙ at in let same : new ≡ s = cc in let P : Session → Type 0 = λ t. t.shown ≤ length t.cells in subst P same some
]

shows-grow : (e : Event) (v : View) → ShowsPut v → ShowsPut (grow e v)
unfolding grow
shows-grow (Took group number buf size need) v put = put
shows-grow (Refused group number free need) v put = put
shows-grow (Entered path seq buf number size len readers) v put = pushed-shows path (session_new buf number size len readers) v (grow (Entered path seq buf number size len readers) v) refl (omega arith) put
shows-grow (Asked path seq cells readers) v put = changed-shows path seq (λ s. record s { room = cells; readers = readers }) v (grow (Asked path seq cells readers) v) refl (λ s le. le) put
shows-grow (Put path seq cell) v put =
    changed-shows path seq (λ s. record s { cells = s.cells ++ cell ∷ []; room = s.room - 1 }) v (grow (Put path seq cell) v) refl (λ s le. omega (arith, le, length-append s.cells (cell ∷ []))) put
shows-grow (Published path seq bytes) v put = changed-shows path seq (λ s. record s { shown = length s.cells; told = s.told + bytes }) v (grow (Published path seq bytes) v) refl (λ s le. omega arith) put
shows-grow (Joining path dest seq buf len) v put = put
shows-grow (Missed group path dest seq) v put = put
shows-grow (Saw path dest seq cells bytes writer) v put = put
shows-grow (Read path dest seq cell) v put = put
shows-grow (Closed path seq freed) v put = changed-shows path seq (λ s. record s { stands = false }) v (grow (Closed path seq freed) v) refl (λ s le. le) put
shows-grow (Parted path dest seq freed) v put = put

pub shows-grows : (calls : List Event) (v : View) → ShowsPut v → ShowsPut (grows calls v)
shows-grows [] v put = put
shows-grows (call ∷ calls) v put = shows-grows calls (grow call v) (shows-grow call v put)

-- no events lower the present floors
pub rise-grows : (groups : List (List ℕ)) (calls : List Event) (v : View) → ShowsPut v → Rise (floors_of groups v) (floors_of groups (grows calls v))
rise-grows groups [] v put = rise-same (floors_of groups v)
rise-grows groups (call ∷ calls) v put =
    rise-twice (floors_of groups v) (floors_of groups (grow call v)) (floors_of groups (grows calls (grow call v))) (rises groups call v put) (rise-grows groups calls (grow call v) (shows-grow call v put))

-- so what turns saw is as fresh as the view before them
pub turns-fresh : {E A R S : Type 0} (groups : List (List ℕ)) (start : View) (turns : List (Turn E Event A R S)) → ShowsPut start → AreFreshTurns groups start turns → AreFresh (floors_of groups start) start (calls_by turns)
turns-fresh groups start [] put fresh = tt
turns-fresh groups start (turn ∷ earlier) put fresh =
    are-fresh-append (floors_of groups start) (floors_of groups (grows (calls_by earlier) start)) start (grows (calls_by earlier) start) (calls_by earlier) turn.did.calls refl
    (rise-grows groups (calls_by earlier) start put) (turns-fresh groups start earlier put fresh.1) fresh.0
