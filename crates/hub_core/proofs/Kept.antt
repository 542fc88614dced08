-- What the sessions and readings of a view were before one of them was changed, or one more came.
use Rattle.std.proofs.Common.{◌≡◌, ℕ, ◌⊎◌, inl, inr, List, [], ◌∷◌, ◌++◌, length, Option, Some, None, refl, ap, sym, ◌∙◌, subst}
use Rattle.std.specs.Prelude.{slice_get, option_map}
use Rattle.hub_core.proofs.Places.{each-session, each-entered, each-reading, each-joined}
use Rattle.hub_core.specs.View.{View, Session, Reading, at_one, at_two, change_at, session_at, reading_at}

-- an item that comes of a changed one
pub mapped : {A : Type 0} (f : A → A) (found : Option A) (y : A) → option_map f found ≡ Some y →
    (x : A) × (found ≡ Some x) × (y ≡ f x)
mapped f None y is = absurd cc
mapped f (Some x) y is = (x, refl, cc)

-- the session that was changed, or entered, and the others
pub session-now : (path seq : ℕ) (f : Session → Session) (v w : View) →
    w.sessions ≡ at_one path (change_at seq f (v.sessions path)) v.sessions → (q j : ℕ) →
    ((q ≡ path) × (j ≡ seq) × (session_at w q j ≡ option_map f (session_at v q j)))
    ⊎ (session_at w q j ≡ session_at v q j)
session-now path seq f v w is = subst (λ (g : ℕ → List Session). (q j : ℕ) → Is q j (slice_get (g q) j)) (sym is)
    (each-session Is path v (λ q j. inr refl) seq f (inl (refl, refl, refl)))
  where
    Is : ℕ → ℕ → Option Session → Type 0
    Is q j o = ((q ≡ path) × (j ≡ seq) × (o ≡ option_map f (session_at v q j))) ⊎ (o ≡ session_at v q j)

pub session-pushed : (path : ℕ) (s : Session) (v w : View) →
    w.sessions ≡ at_one path (v.sessions path ++ s ∷ []) v.sessions → (q j : ℕ) →
    ((q ≡ path) × (j ≡ length (v.sessions path)) × (session_at w q j ≡ Some s)) ⊎ (session_at w q j ≡ session_at v q j)
session-pushed path s v w is = subst (λ (g : ℕ → List Session). (q j : ℕ) → Is q j (slice_get (g q) j)) (sym is)
    (each-entered Is path v (λ q j. inr refl) s (inl (refl, refl, refl)))
  where
    Is : ℕ → ℕ → Option Session → Type 0
    Is q j o = ((q ≡ path) × (j ≡ length (v.sessions path)) × (o ≡ Some s)) ⊎ (o ≡ session_at v q j)

-- the reading that was changed, or came, and the others
pub reading-now : (path dest seq : ℕ) (f : Reading → Reading) (v w : View) →
    w.readings ≡ at_two path dest (change_at seq f (v.readings path dest)) v.readings → (q d j : ℕ) →
    ((q ≡ path) × (d ≡ dest) × (j ≡ seq) × (reading_at w q d j ≡ option_map f (reading_at v q d j)))
    ⊎ (reading_at w q d j ≡ reading_at v q d j)
reading-now path dest seq f v w is =
    subst (λ (g : ℕ → ℕ → List Reading). (q d j : ℕ) → Is q d j (slice_get (g q d) j)) (sym is)
    (each-reading Is path dest v (λ q d j. inr refl) seq f (inl (refl, refl, refl, refl)))
  where
    Is : ℕ → ℕ → ℕ → Option Reading → Type 0
    Is q d j o =
        ((q ≡ path) × (d ≡ dest) × (j ≡ seq) × (o ≡ option_map f (reading_at v q d j))) ⊎ (o ≡ reading_at v q d j)

pub reading-pushed : (path dest : ℕ) (r : Reading) (v w : View) →
    w.readings ≡ at_two path dest (v.readings path dest ++ r ∷ []) v.readings → (q d j : ℕ) →
    ((q ≡ path) × (d ≡ dest) × (j ≡ length (v.readings path dest)) × (reading_at w q d j ≡ Some r))
    ⊎ (reading_at w q d j ≡ reading_at v q d j)
reading-pushed path dest r v w is =
    subst (λ (g : ℕ → ℕ → List Reading). (q d j : ℕ) → Is q d j (slice_get (g q d) j)) (sym is)
    (each-joined Is path dest v (λ q d j. inr refl) r (inl (refl, refl, refl, refl)))
  where
    Is : ℕ → ℕ → ℕ → Option Reading → Type 0
    Is q d j o =
        ((q ≡ path) × (d ≡ dest) × (j ≡ length (v.readings path dest)) × (o ≡ Some r)) ⊎ (o ≡ reading_at v q d j)

-- a session goes on with the same buffer, for the same destinations, and so do all of a view
pub record SameTake (s t : Session) : Type 0 where
  pub buf : t.buf ≡ s.buf
  pub number : t.number ≡ s.number
  pub size : t.size ≡ s.size
  pub dests : t.dests ≡ s.dests

abbrev pub GoOn : View → View → Type 0
GoOn v w = (path seq : ℕ) (t : Session) → session_at w path seq ≡ Some t →
    (s : Session) × (session_at v path seq ≡ Some s) × SameTake s t

pub same-take : (s : Session) → SameTake s s
same-take s = record { buf = refl; number = refl; size = refl; dests = refl }

pub on-session : (path seq : ℕ) (f : Session → Session) (v w : View) →
    w.sessions ≡ at_one path (change_at seq f (v.sessions path)) v.sessions → ((s : Session) → SameTake s (f s)) →
    GoOn v w
on-session path seq f v w sessions same p k t at = elim (session-now path seq f v w sessions p k) [
  | inl hit ↦
      let was = mapped f (session_at v p k) t (sym hit.2 ∙ at) in
      (was.0, was.1, subst (SameTake was.0) (sym was.2) (same was.0))
  | inr is ↦ (t, sym is ∙ at, same-take t)
]

pub on-same : (v w : View) → w.sessions ≡ v.sessions → GoOn v w
on-same v w sessions p k t at = (t, ap (λ (g : ℕ → List Session). slice_get (g p) k) (sym sessions) ∙ at, same-take t)
