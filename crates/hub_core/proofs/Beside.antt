-- One party's list in a view grows by that party's events alone, as it would in any other view.
use Rattle.std.proofs.Common.{◌≡◌, ℕ, List, [], ◌∷◌, ◌++◌, ap, sym, refl, ◌∙◌, inl, inr, eq-eqb, append-nil, Some, None}
use Rattle.std.proofs.lemmas.Bool.{cases_eq, ne_eqb}
use Rattle.std.specs.Prelude.{Bool, true, false, Option}
use Rattle.hub_core.proofs.Growing.{grows-append, at_one-other}
use Rattle.hub_core.specs.Parts.{Part, IsOf}
use Rattle.hub_core.specs.View.{View, Event, Change, Taken, Refusal, Taking, Session, Reading, at_one, at_two, change_at, empty_view, grow, grows, session_new, reading_new, Took, Refused, Entered, Asked, Put, Published, Joining, Missed, Saw, Read, Closed, Parted}

-- a function that is changed at one place, beside another one that is the same there
one-beside : {A : Type 0} (p q : ℕ) (g : A → A) (f h : ℕ → A) → f q ≡ h q → at_one p (g (f p)) f q ≡ at_one p (g (h p)) h q
one-beside p q g f h is = elim (cases_eq q p) [
  | inl same ↦ rw (same, eq-eqb p p refl, ← same) (ap g is)
  | inr ne ↦ rw (ne_eqb q p ne) is
]

two-beside : {A : Type 0} (p d q e : ℕ) (g : A → A) (f h : ℕ → ℕ → A) → f q e ≡ h q e → at_two p d (g (f p d)) f q e ≡ at_two p d (g (h p d)) h q e
two-beside p d q e g f h is = elim (cases_eq q p) [
  | inl same ↦ rw (same, eq-eqb p p refl, ← same) (one-beside d e g (f q) (h q) is)
  | inr ne ↦ rw (ne_eqb q p ne) is
]

-- a path's sessions, a destination's readings and a buffer's taking grow as they would in another view
pub sessions-beside : (path : ℕ) (call : Event) (v w : View) → v.sessions path ≡ w.sessions path → (grow call v).sessions path ≡ (grow call w).sessions path
unfolding grow
sessions-beside path (Took group number buf size need) v w is = is
sessions-beside path (Refused group number free need) v w is = is
sessions-beside path (Entered p seq buf number size len readers) v w is = one-beside p path (λ (l : List Session). l ++ session_new buf number size len readers ∷ []) v.sessions w.sessions is
sessions-beside path (Asked p seq cells readers) v w is = one-beside p path (change_at seq _) v.sessions w.sessions is
sessions-beside path (Put p seq cell) v w is = one-beside p path (change_at seq _) v.sessions w.sessions is
sessions-beside path (Published p seq bytes) v w is = one-beside p path (change_at seq _) v.sessions w.sessions is
sessions-beside path (Joining p dest seq buf len) v w is = is
sessions-beside path (Missed group p dest seq) v w is = is
sessions-beside path (Saw p dest seq cells bytes writer) v w is = is
sessions-beside path (Read p dest seq cell) v w is = is
sessions-beside path (Closed p seq freed) v w is = one-beside p path (change_at seq _) v.sessions w.sessions is
sessions-beside path (Parted p dest seq freed) v w is = is

pub readings-beside : (path dest : ℕ) (call : Event) (v w : View) → v.readings path dest ≡ w.readings path dest → (grow call v).readings path dest ≡ (grow call w).readings path dest
unfolding grow
readings-beside path dest (Took group number buf size need) v w is = is
readings-beside path dest (Refused group number free need) v w is = is
readings-beside path dest (Entered p seq buf number size len readers) v w is = is
readings-beside path dest (Asked p seq cells readers) v w is = is
readings-beside path dest (Put p seq cell) v w is = is
readings-beside path dest (Published p seq bytes) v w is = is
readings-beside path dest (Joining p d seq buf len) v w is = two-beside p d path dest (λ (l : List Reading). l ++ reading_new buf len ∷ []) v.readings w.readings is
readings-beside path dest (Missed group p d seq) v w is = is
readings-beside path dest (Saw p d seq cells bytes writer) v w is = two-beside p d path dest (change_at seq _) v.readings w.readings is
readings-beside path dest (Read p d seq cell) v w is = two-beside p d path dest (change_at seq _) v.readings w.readings is
readings-beside path dest (Closed p seq freed) v w is = is
readings-beside path dest (Parted p d seq freed) v w is = two-beside p d path dest (change_at seq _) v.readings w.readings is

pub held-beside : (buf : ℕ) (call : Event) (v w : View) → v.held buf ≡ w.held buf → (grow call v).held buf ≡ (grow call w).held buf
unfolding grow
held-beside buf (Took group number b size need) v w is = one-beside b buf (λ (x : Option Taking). Some (record { number = number; size = size })) v.held w.held is
held-beside buf (Refused group number free need) v w is = is
held-beside buf (Entered p seq b number size len readers) v w is = one-beside b buf (λ (x : Option Taking). None) v.held w.held is
held-beside buf (Asked p seq cells readers) v w is = is
held-beside buf (Put p seq cell) v w is = is
held-beside buf (Published p seq bytes) v w is = is
held-beside buf (Joining p dest seq b len) v w is = is
held-beside buf (Missed group p dest seq) v w is = is
held-beside buf (Saw p dest seq cells bytes writer) v w is = is
held-beside buf (Read p dest seq cell) v w is = is
held-beside buf (Closed p seq freed) v w is = is
held-beside buf (Parted p dest seq freed) v w is = is

-- and so they do by a list of events
pub alike : {A : Type 0} (get : View → A) → ((e : Event) (v w : View) → get v ≡ get w → get (grow e v) ≡ get (grow e w)) → (es : List Event) (v w : View) → get v ≡ get w → get (grows es v) ≡ get (grows es w)
alike get one [] v w is = is
alike get one (e ∷ es) v w is = alike get one es (grow e v) (grow e w) (one e v w is)

-- what is changed for one party stays for another
apart-one : {A : Type 0} (mine : ℕ → Bool) (p q : ℕ) (x : A) (f : ℕ → A) → mine p ≡ true → mine q ≡ false → at_one p x f q ≡ f q
apart-one mine p q x f mine-is not = at_one-other p q x f (λ same. let both : true ≡ false = sym mine-is ∙ ap mine (sym same) ∙ not in cc)

apart-two : {A : Type 0} (mine : ℕ → ℕ → Bool) (p d q e : ℕ) (x : A) (f : ℕ → ℕ → A) → mine p d ≡ true → mine q e ≡ false → at_two p d x f q e ≡ f q e
apart-two mine p d q e x f mine-is not = elim (cases_eq q p) [
  | inl same ↦ rw (same, eq-eqb p p refl) (at_one-other d e x (f p) (λ too. let both : true ≡ false = sym mine-is ∙ ap (mine p) (sym too) ∙ (let n : mine p e ≡ false = ap (λ (k : ℕ). mine k e) (sym same) ∙ not in n) in cc))
  | inr ne ↦ rw (ne_eqb q p ne) refl
]

-- the events of other parties leave a path's sessions and a destination's readings
pub sessions-others : (part : Part) (path : ℕ) → part.writes path ≡ false → (e : Event) → IsOf part e → (v : View) → (grow e v).sessions path ≡ v.sessions path
unfolding grow
sessions-others part path not (Took group number buf size need) of v = refl
sessions-others part path not (Refused group number free need) of v = refl
sessions-others part path not (Entered p seq buf number size len readers) of v = apart-one part.writes p path _ v.sessions of not
sessions-others part path not (Asked p seq cells readers) of v = apart-one part.writes p path _ v.sessions of not
sessions-others part path not (Put p seq cell) of v = apart-one part.writes p path _ v.sessions of not
sessions-others part path not (Published p seq bytes) of v = apart-one part.writes p path _ v.sessions of not
sessions-others part path not (Joining p dest seq buf len) of v = refl
sessions-others part path not (Missed group p dest seq) of v = refl
sessions-others part path not (Saw p dest seq cells bytes writer) of v = refl
sessions-others part path not (Read p dest seq cell) of v = refl
sessions-others part path not (Closed p seq freed) of v = apart-one part.writes p path _ v.sessions of not
sessions-others part path not (Parted p dest seq freed) of v = refl

pub readings-others : (part : Part) (path dest : ℕ) → part.reads path dest ≡ false → (e : Event) → IsOf part e → (v : View) → (grow e v).readings path dest ≡ v.readings path dest
unfolding grow
readings-others part path dest not (Took group number buf size need) of v = refl
readings-others part path dest not (Refused group number free need) of v = refl
readings-others part path dest not (Entered p seq buf number size len readers) of v = refl
readings-others part path dest not (Asked p seq cells readers) of v = refl
readings-others part path dest not (Put p seq cell) of v = refl
readings-others part path dest not (Published p seq bytes) of v = refl
readings-others part path dest not (Joining p d seq buf len) of v = apart-two part.reads p d path dest _ v.readings of not
readings-others part path dest not (Missed group p d seq) of v = refl
readings-others part path dest not (Saw p d seq cells bytes writer) of v = apart-two part.reads p d path dest _ v.readings of not
readings-others part path dest not (Read p d seq cell) of v = apart-two part.reads p d path dest _ v.readings of not
readings-others part path dest not (Closed p seq freed) of v = refl
readings-others part path dest not (Parted p d seq freed) of v = apart-two part.reads p d path dest _ v.readings of not

-- what an event adds to the changes, and to the overflows
abbrev pub change_by : Event → List Change
change_by (Took group number buf size need) = Taken number buf need ∷ []
change_by (Closed path seq freed) = freed
change_by (Parted path dest seq freed) = freed
change_by (Refused group number free need) = []
change_by (Entered p seq buf number size len readers) = []
change_by (Asked p seq cells readers) = []
change_by (Put p seq cell) = []
change_by (Published p seq bytes) = []
change_by (Joining p d seq buf len) = []
change_by (Missed group p d seq) = []
change_by (Saw p d seq cells bytes writer) = []
change_by (Read p d seq cell) = []

pub changes-added : (e : Event) (v : View) → (grow e v).changes ≡ v.changes ++ change_by e
unfolding grow
changes-added (Took group number buf size need) v = refl
changes-added (Refused group number free need) v = sym (append-nil v.changes)
changes-added (Entered p seq buf number size len readers) v = sym (append-nil v.changes)
changes-added (Asked p seq cells readers) v = sym (append-nil v.changes)
changes-added (Put p seq cell) v = sym (append-nil v.changes)
changes-added (Published p seq bytes) v = sym (append-nil v.changes)
changes-added (Joining p d seq buf len) v = sym (append-nil v.changes)
changes-added (Missed group p d seq) v = sym (append-nil v.changes)
changes-added (Saw p d seq cells bytes writer) v = sym (append-nil v.changes)
changes-added (Read p d seq cell) v = sym (append-nil v.changes)
changes-added (Closed p seq freed) v = refl
changes-added (Parted p d seq freed) v = refl

abbrev pub refusal_by : Event → List Refusal
refusal_by (Refused group number free need) = record { group = group; number = number; free = free; need = need } ∷ []
refusal_by (Took group number buf size need) = []
refusal_by (Entered p seq buf number size len readers) = []
refusal_by (Asked p seq cells readers) = []
refusal_by (Put p seq cell) = []
refusal_by (Published p seq bytes) = []
refusal_by (Joining p d seq buf len) = []
refusal_by (Missed group p d seq) = []
refusal_by (Saw p d seq cells bytes writer) = []
refusal_by (Read p d seq cell) = []
refusal_by (Closed p seq freed) = []
refusal_by (Parted p d seq freed) = []

pub refused-added : (e : Event) (v : View) → (grow e v).refused ≡ v.refused ++ refusal_by e
unfolding grow
refused-added (Took group number buf size need) v = sym (append-nil v.refused)
refused-added (Refused group number free need) v = refl
refused-added (Entered p seq buf number size len readers) v = sym (append-nil v.refused)
refused-added (Asked p seq cells readers) v = sym (append-nil v.refused)
refused-added (Put p seq cell) v = sym (append-nil v.refused)
refused-added (Published p seq bytes) v = sym (append-nil v.refused)
refused-added (Joining p d seq buf len) v = sym (append-nil v.refused)
refused-added (Missed group p d seq) v = sym (append-nil v.refused)
refused-added (Saw p d seq cells bytes writer) v = sym (append-nil v.refused)
refused-added (Read p d seq cell) v = sym (append-nil v.refused)
refused-added (Closed p seq freed) v = sym (append-nil v.refused)
refused-added (Parted p d seq freed) v = sym (append-nil v.refused)

-- a path's sessions, which its writer's events alone made, after more of them
pub sessions-grown : (path : ℕ) (events more : List Event) (v w : View) → w ≡ grows more v → v.sessions path ≡ (grows events empty_view).sessions path → w.sessions path ≡ (grows (events ++ more) empty_view).sessions path
sessions-grown path events more v w grown is = rw (grown, grows-append events more empty_view) (alike (λ x. x.sessions path) (sessions-beside path) more v (grows events empty_view) is)

-- and so a destination's readings
pub readings-grown : (path dest : ℕ) (events more : List Event) (v w : View) → w ≡ grows more v → v.readings path dest ≡ (grows events empty_view).readings path dest →
    w.readings path dest ≡ (grows (events ++ more) empty_view).readings path dest
readings-grown path dest events more v w grown is = rw (grown, grows-append events more empty_view) (alike (λ x. x.readings path dest) (readings-beside path dest) more v (grows events empty_view) is)
