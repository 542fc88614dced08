-- What a path's writer and its destination have left in a view: each session but the one that stands, and a session for each take.
use Rattle.std.proofs.Common.{◌≡◌, ◌≢◌, ℕ, ◌+◌, zero, suc, Bool, true, false, Option, Some, None, List, [], ◌∷◌, ◌++◌, length, map, ◌⊎◌, inl, inr, refl, ap, sym, ◌∙◌, subst, arith}
use Rattle.std.specs.Prelude.{slice_get}
use Rattle.std.specs.List.{AllByRecursion}
use Rattle.std.proofs.lemmas.List.{length-append, map-append}
use Rattle.hub_core.proofs.Growing.{at_one-other, at_one-same, length-change_at, slice_get-pushed}
use Rattle.hub_core.specs.View.{View, Change, Taken, Freed, Session, Reading, at_one, change_at}
use Rattle.gw_base.proofs.Lists.{all-join, at-next, slice_get-more}

-- each item but the one that stands was left, and is as it should be
abbrev pub AreLeft : {A : Type 0} → (A → Bool) → (A → Type 0) → Option ℕ → List A → Type 0
AreLeft {A = A} stands Is going items = (k : ℕ) (x : A) → slice_get items k ≡ Some x → Is x × (stands x ≡ true → going ≡ Some k)

changed-at : {A : Type 0} (k seq : ℕ) (f : A → A) (xs : List A) (y : A) → slice_get (change_at seq f xs) k ≡ Some y → (x : A) × (slice_get xs k ≡ Some x) × (((k ≡ seq) × (y ≡ f x)) ⊎ ((k ≢ seq) × (y ≡ x)))
changed-at k seq f [] y is = absurd cc
changed-at zero zero f (x ∷ xs) y is = (x, refl, inl (refl, cc))
changed-at (suc k) zero f (x ∷ xs) y is = (y, is, inr (λ e. absurd (omega (arith, e)), refl))
changed-at zero (suc seq) f (x ∷ xs) y is = (x, refl, inr (λ e. absurd (omega (arith, e)), cc))
changed-at (suc k) (suc seq) f (x ∷ xs) y is =
    let one = changed-at k seq f xs y is in
    (one.0, one.1, elim one.2 [ inl same ↦ inl (ap suc same.0, same.1) | inr other ↦ inr (λ e. other.0 (omega (arith, e)), other.1) ])

-- an item is changed, is left, is added
left-changed : {A : Type 0} (stands : A → Bool) (Is : A → Type 0) (going : Option ℕ) (seq : ℕ) (f : A → A) (items : List A) → ((x : A) → Is x → Is (f x)) → ((x : A) → stands (f x) ≡ stands x) → AreLeft stands Is going items → AreLeft stands Is going (change_at seq f items)
left-changed {A = A} stands Is going seq f items keeps same left k y is =
    let one = changed-at k seq f items y is in
    let so = left k one.0 one.1 in
    let P : A → Type 0 = λ z. Is z × (stands z ≡ true → going ≡ Some k) in
    elim one.2 [ inl here ↦ subst P (sym here.1) (keeps one.0 so.0, λ on. so.1 (sym (same one.0) ∙ on)) | inr other ↦ subst P (sym other.1) so ]

left-gone : {A : Type 0} (stands : A → Bool) (Is : A → Type 0) (seq : ℕ) (f : A → A) (items : List A) → ((x : A) → Is x → Is (f x)) → ((x : A) → stands (f x) ≡ false) → AreLeft stands Is (Some seq) items → AreLeft stands Is None (change_at seq f items)
left-gone {A = A} stands Is seq f items keeps gone left k y is =
    let one = changed-at k seq f items y is in
    let so = left k one.0 one.1 in
    let P : A → Type 0 = λ z. Is z × (stands z ≡ true → None ≡ Some k) in
    elim one.2 [
      | inl here ↦ subst P (sym here.1) (keeps one.0 so.0, λ on. let no : false ≡ true = sym (gone one.0) ∙ on in absurd cc)
      | inr other ↦ subst P (sym other.1) (so.0, λ on. let same : Some seq ≡ Some k = so.1 on in absurd (other.0 cc))
    ]

left-added : {A : Type 0} (stands : A → Bool) (Is : A → Type 0) (x : A) (items : List A) → Is x → AreLeft stands Is None items → AreLeft stands Is (Some (length items)) (items ++ x ∷ [])
left-added {A = A} stands Is x items one left k y is =
    let P : A → Type 0 = λ z. Is z × (stands z ≡ true → Some (length items) ≡ Some k) in
    elim (at-next items x y k is) [
      | inl here ↦ let so = left k y here in (so.0, λ on. let no : None ≡ Some k = so.1 on in absurd cc)
      | inr last ↦ subst P last.1 (one, λ on. ap Some (sym last.0))
    ]

-- a change that frees
abbrev pub Frees : Change → Type 0
Frees (Taken number buf need) = ⊥
Frees (Freed number buf) = Unit {0}

-- the number and the buffer of a take
abbrev pub NumberedBuf : Type 0
NumberedBuf = ℕ × ℕ

-- a take is one of these
abbrev pub IsUsed : List NumberedBuf → Change → Type 0
IsUsed takes (Taken number buf need) = (seq : ℕ) × (slice_get takes seq ≡ Some (number, buf))
IsUsed takes (Freed number buf) = Unit {0}

frees-used : (takes : List NumberedBuf) (changes : List Change) → AllByRecursion Frees changes → AllByRecursion (IsUsed takes) changes
frees-used takes [] all = tt
frees-used takes (Taken number buf need ∷ changes) all = absurd all.0
frees-used takes (Freed number buf ∷ changes) all = (tt, frees-used takes changes all.1)

used-more : (takes : List NumberedBuf) (take : NumberedBuf) (changes : List Change) → AllByRecursion (IsUsed takes) changes → AllByRecursion (IsUsed (takes ++ take ∷ [])) changes
used-more takes take [] all = tt
used-more takes take (Taken number buf need ∷ changes) all = ((all.0.0, slice_get-more takes (take ∷ []) all.0.0 (number, buf) all.0.1), used-more takes take changes all.1)
used-more takes take (Freed number buf ∷ changes) all = (tt, used-more takes take changes all.1)

-- the takes of sessions
abbrev pub take_of : Session → NumberedBuf
take_of s = (s.number, s.buf)

abbrev pub takes_of : List Session → List NumberedBuf
takes_of sessions = map take_of sessions

takes-kept : (seq : ℕ) (f : Session → Session) (sessions : List Session) → ((s : Session) → take_of (f s) ≡ take_of s) → takes_of (change_at seq f sessions) ≡ takes_of sessions
takes-kept seq f [] keeps = refl
takes-kept zero f (s ∷ sessions) keeps = ap (λ n. n ∷ takes_of sessions) (keeps s)
takes-kept (suc seq) f (s ∷ sessions) keeps = ap (λ l. take_of s ∷ l) (takes-kept seq f sessions keeps)

-- so many sessions, each for so many destinations, all left by their writer but the one that it writes, and each take is one of theirs
pub record Written (dests n : ℕ) (going : Option ℕ) (sessions : List Session) (changes : List Change) : Type 0 where
  pub count : length sessions ≡ n
  pub left : AreLeft (λ (s : Session). s.stands) (λ (s : Session). s.dests ≡ dests) going sessions
  pub used : AllByRecursion (IsUsed (takes_of sessions)) changes

-- so many readings, all left by their destination but the one that it reads
pub record WasRead (n : ℕ) (going : Option ℕ) (readings : List Reading) : Type 0 where
  pub count : length readings ≡ n
  pub left : AreLeft (λ (r : Reading). r.stands) (λ (r : Reading). Unit {0}) going readings

pub written-freed : (dests n : ℕ) (going : Option ℕ) (sessions : List Session) (changes freed : List Change) → AllByRecursion Frees freed → Written dests n going sessions changes → Written dests n going sessions (changes ++ freed)
written-freed dests n going sessions changes freed frees so = record { count = so.count; left = so.left; used = all-join (IsUsed (takes_of sessions)) changes freed so.used (frees-used (takes_of sessions) freed frees) }

used-kept : (seq : ℕ) (f : Session → Session) (sessions : List Session) (changes : List Change) → ((s : Session) → take_of (f s) ≡ take_of s) → AllByRecursion (IsUsed (takes_of sessions)) changes → AllByRecursion (IsUsed (takes_of (change_at seq f sessions))) changes
used-kept seq f sessions changes keeps all = let P : List NumberedBuf → Type 0 = λ l. AllByRecursion (IsUsed l) changes in subst P (sym (takes-kept seq f sessions keeps)) all

pub written-changed : (dests n seq : ℕ) (going : Option ℕ) (f : Session → Session) (sessions : List Session) (changes : List Change) → ((s : Session) → take_of (f s) ≡ take_of s) → ((s : Session) → (f s).dests ≡ s.dests) → ((s : Session) → (f s).stands ≡ s.stands) →
    Written dests n going sessions changes → Written dests n going (change_at seq f sessions) changes
written-changed dests n seq going f sessions changes take same stands so = record {
  count = length-change_at seq f sessions ∙ so.count;
  left = left-changed (λ (s : Session). s.stands) (λ (s : Session). s.dests ≡ dests) going seq f sessions (λ s is. same s ∙ is) stands so.left;
  used = used-kept seq f sessions changes take so.used;
}

pub written-left : (dests n seq : ℕ) (sessions : List Session) (changes freed : List Change) → AllByRecursion Frees freed → Written dests n (Some seq) sessions changes → Written dests n None (change_at seq (λ s. record s { stands = false }) sessions) (changes ++ freed)
written-left dests n seq sessions changes freed frees so =
    let f : Session → Session = λ s. record s { stands = false } in
    written-freed dests n None (change_at seq f sessions) changes freed frees (record {
      count = length-change_at seq f sessions ∙ so.count;
      left = left-gone (λ (s : Session). s.stands) (λ (s : Session). s.dests ≡ dests) seq f sessions (λ s is. is) (λ s. refl) so.left;
      used = used-kept seq f sessions changes (λ s. refl) so.used;
    })

pub written-opened : (dests n need : ℕ) (s : Session) (sessions : List Session) (changes : List Change) → s.dests ≡ dests → Written dests n None sessions changes → Written dests (n + 1) (Some n) (sessions ++ s ∷ []) (changes ++ Taken s.number s.buf need ∷ [])
written-opened dests n need s sessions changes same so =
    let takes : takes_of (sessions ++ s ∷ []) ≡ takes_of sessions ++ take_of s ∷ [] = map-append take_of sessions (s ∷ []) in
    let P : ℕ → Type 0 = λ k. AreLeft (λ (x : Session). x.stands) (λ (x : Session). x.dests ≡ dests) (Some k) (sessions ++ s ∷ []) in
    let last : slice_get (takes_of (sessions ++ s ∷ [])) (length (takes_of sessions)) ≡ Some (take_of s) = ap (λ l. slice_get l (length (takes_of sessions))) takes ∙ slice_get-pushed (takes_of sessions) (take_of s) (length (takes_of sessions)) refl in
    record {
      count = length-append sessions (s ∷ []) ∙ ap (λ k. k + 1) so.count;
      left = subst P so.count (left-added (λ (x : Session). x.stands) (λ (x : Session). x.dests ≡ dests) s sessions same so.left);
      used = all-join (IsUsed (takes_of (sessions ++ s ∷ []))) changes (Taken s.number s.buf need ∷ []) (let R : List NumberedBuf → Type 0 = λ l. AllByRecursion (IsUsed l) changes in subst R (sym takes) (used-more (takes_of sessions) (take_of s) changes so.used)) ((length (takes_of sessions), last), tt);
    }

pub read-changed : (n seq : ℕ) (going : Option ℕ) (f : Reading → Reading) (readings : List Reading) → ((r : Reading) → (f r).stands ≡ r.stands) → WasRead n going readings → WasRead n going (change_at seq f readings)
read-changed n seq going f readings stands so = record { count = length-change_at seq f readings ∙ so.count; left = left-changed (λ (r : Reading). r.stands) (λ (r : Reading). Unit {0}) going seq f readings (λ r is. tt) stands so.left }

pub read-left : (n seq : ℕ) (readings : List Reading) → WasRead n (Some seq) readings → WasRead n None (change_at seq (λ r. record r { stands = false }) readings)
read-left n seq readings so =
    let f : Reading → Reading = λ r. record r { stands = false } in
    record { count = length-change_at seq f readings ∙ so.count; left = left-gone (λ (r : Reading). r.stands) (λ (r : Reading). Unit {0}) seq f readings (λ r is. tt) (λ r. refl) so.left }

pub read-joined : (n : ℕ) (r : Reading) (readings : List Reading) → WasRead n None readings → WasRead (n + 1) (Some n) (readings ++ r ∷ [])
read-joined n r readings so =
    let P : ℕ → Type 0 = λ k. AreLeft (λ (x : Reading). x.stands) (λ (x : Reading). Unit {0}) (Some k) (readings ++ r ∷ []) in
    record { count = length-append readings (r ∷ []) ∙ ap (λ k. k + 1) so.count; left = subst P so.count (left-added (λ (x : Reading). x.stands) (λ (x : Reading). Unit {0}) r readings tt so.left) }

-- what a path's writer and one destination of it have left in a view: no other path has sessions
pub record Stands (path dest dests n : ℕ) (writes : Option ℕ) (m : ℕ) (reads : Option ℕ) (v : View) : Type 0 where
  pub written : Written dests n writes (v.sessions path) v.changes
  pub only : (other : ℕ) → other ≢ path → v.sessions other ≡ []
  pub read : WasRead m reads (v.readings path dest)

-- after a call that makes the path's sessions anew
pub stands-written : (path dest dests n k m : ℕ) (before after reads : Option ℕ) (v w : View) (sessions : List Session) → w.sessions ≡ at_one path sessions v.sessions → w.readings ≡ v.readings → Written dests k after sessions w.changes →
    Stands path dest dests n before m reads v → Stands path dest dests k after m reads w
stands-written path dest dests n k m before after reads v w sessions grown same written so =
    let P : List Session → Type 0 = λ l. Written dests k after l w.changes in
    let Q : (ℕ → ℕ → List Reading) → Type 0 = λ r. WasRead m reads (r path dest) in
    record {
      written = subst P (sym (ap (λ (s : ℕ → List Session). s path) grown ∙ at_one-same path sessions v.sessions)) written;
      only = λ other ne. ap (λ (s : ℕ → List Session). s other) grown ∙ at_one-other path other sessions v.sessions ne ∙ so.only other ne;
      read = subst Q (sym same) so.read;
    }

-- after a call that makes the destination's readings anew
pub stands-read : (path dest dests n m k : ℕ) (writes before after : Option ℕ) (v w : View) (freed : List Change) (readings : List Reading) → w.sessions ≡ v.sessions → w.changes ≡ v.changes ++ freed → AllByRecursion Frees freed → w.readings path dest ≡ readings → WasRead k after readings →
    Stands path dest dests n writes m before v → Stands path dest dests n writes k after w
stands-read path dest dests n m k writes before after v w freed readings same grown frees is read so =
    let Q : List Reading → Type 0 = λ r. WasRead k after r in
    let R : List Change → Type 0 = λ c. Written dests n writes (w.sessions path) c in
    let S : (ℕ → List Session) → Type 0 = λ s. Written dests n writes (s path) (v.changes ++ freed) in
    record {
      written = subst R (sym grown) (subst S (sym same) (written-freed dests n writes (v.sessions path) v.changes freed frees so.written));
      only = λ other ne. ap (λ (s : ℕ → List Session). s other) same ∙ so.only other ne;
      read = subst Q (sym is) read;
    }
