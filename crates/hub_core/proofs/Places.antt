-- What is so at each place of the lists of sessions and readings, after one item was changed or one more came.
use Rattle.std.proofs.Common.{◌≢◌, ℕ, zero, suc, inl, inr, Bool, List, [], ◌∷◌, ◌++◌, length, Option, Some, sym, subst}
use Rattle.std.proofs.lemmas.Bool.Decides.{eqb_tells}
use Rattle.std.specs.Prelude.{slice_get, option_map, if◌then◌else◌}
use Rattle.hub_core.specs.View.{View, Session, Reading, at_one, at_two, change_at, session_at, reading_at}

-- what is so of a function's new value at one number, and of its old values at all others, is so at each
pub each-at_one : {A : Type 0} (P : ℕ → A → Type 0) (p : ℕ) (x : A) (f : ℕ → A) → P p x →
    ((q : ℕ) → q ≢ p → P q (f q)) → (q : ℕ) → P q (at_one p x f q)
each-at_one P p x f new others q = elim (eqb_tells q p) [
  | inl same ↦ subst (λ (b : Bool). P q (if b then x else f q)) (sym same.0) (subst (λ r. P r x) (sym same.1) new)
  | inr other ↦ subst (λ (b : Bool). P q (if b then x else f q)) (sym other.0) (others q other.1)
]

-- so it is with a list of which one item was changed, and with one that has one more item
each-changed : {A : Type 0} (P : ℕ → Option A → Type 0) (k : ℕ) (f : A → A) (xs : List A) →
    P k (option_map f (slice_get xs k)) → ((j : ℕ) → P j (slice_get xs j)) →
    (j : ℕ) → P j (slice_get (change_at k f xs) j)
each-changed P k f [] new old j = old j
each-changed P zero f (x ∷ xs) new old zero = new
each-changed P zero f (x ∷ xs) new old (suc j) = old (suc j)
each-changed P (suc k) f (x ∷ xs) new old zero = old zero
each-changed P (suc k) f (x ∷ xs) new old (suc j) = each-changed (λ i. P (suc i)) k f xs new (λ i. old (suc i)) j

each-pushed : {A : Type 0} (P : ℕ → Option A → Type 0) (xs : List A) (x : A) →
    P (length xs) (Some x) → ((j : ℕ) → P j (slice_get xs j)) → (j : ℕ) → P j (slice_get (xs ++ x ∷ []) j)
each-pushed P [] x new old zero = new
each-pushed P [] x new old (suc j) = old (suc j)
each-pushed P (y ∷ xs) x new old zero = old zero
each-pushed P (y ∷ xs) x new old (suc j) = each-pushed (λ i. P (suc i)) xs x new (λ i. old (suc i)) j

-- the sessions, of which one was changed, or one more was entered
module _ (Q : ℕ → ℕ → Option Session → Type 0) (path : ℕ) (v : View) (old : (q j : ℕ) → Q q j (session_at v q j)) where
  pub each-session : (seq : ℕ) (f : Session → Session) → Q path seq (option_map f (session_at v path seq)) →
      (q j : ℕ) → Q q j (slice_get (at_one path (change_at seq f (v.sessions path)) v.sessions q) j)
  each-session seq f new = each-at_one (λ q l. (j : ℕ) → Q q j (slice_get l j)) path _ v.sessions
      (each-changed (Q path) seq f (v.sessions path) new (old path)) (λ q other. old q)

  pub each-entered : (s : Session) → Q path (length (v.sessions path)) (Some s) →
      (q j : ℕ) → Q q j (slice_get (at_one path (v.sessions path ++ s ∷ []) v.sessions q) j)
  each-entered s new = each-at_one (λ q l. (j : ℕ) → Q q j (slice_get l j)) path _ v.sessions
      (each-pushed (Q path) (v.sessions path) s new (old path)) (λ q other. old q)

-- the readings, of which one was changed, or one more came
module _ (Q : ℕ → ℕ → ℕ → Option Reading → Type 0) (path dest : ℕ) (v : View)
    (old : (q d j : ℕ) → Q q d j (reading_at v q d j)) where
  each-list : (new : List Reading) → ((j : ℕ) → Q path dest j (slice_get new j)) →
      (q d j : ℕ) → Q q d j (slice_get (at_two path dest new v.readings q d) j)
  each-list new is =
      let here = each-at_one (λ d l. (j : ℕ) → Q path d j (slice_get l j)) dest new (v.readings path) is in
      let all = each-at_one (λ q g. (d j : ℕ) → Q q d j (slice_get (g d) j)) path _ v.readings in
      all (here (λ d ne. old path d)) (λ q ne. old q)

  pub each-reading : (seq : ℕ) (f : Reading → Reading) → Q path dest seq (option_map f (reading_at v path dest seq)) →
      (q d j : ℕ) → Q q d j (slice_get (at_two path dest (change_at seq f (v.readings path dest)) v.readings q d) j)
  each-reading seq f new = each-list _ (each-changed (Q path dest) seq f (v.readings path dest) new (old path dest))

  pub each-joined : (r : Reading) → Q path dest (length (v.readings path dest)) (Some r) →
      (q d j : ℕ) → Q q d j (slice_get (at_two path dest (v.readings path dest ++ r ∷ []) v.readings q d) j)
  each-joined r new = each-list _ (each-pushed (Q path dest) (v.readings path dest) r new (old path dest))
