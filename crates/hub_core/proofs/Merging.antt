-- Views that are divided by parties and joined again are like one view that had all events.
use Rattle.std.proofs.Common.{◌≡◌, ℕ, List, [], ◌∷◌, ◌++◌, ap, sym, refl, subst, ◌∙◌, inl, inr, ◌⊎◌, append-nil, append_assoc, Some, None}
use Rattle.std.proofs.Math.Path.{fun_ext}
use Rattle.std.specs.Prelude.{Bool, true, false, if◌then◌else◌, Option}
use Rattle.hub_core.proofs.Beside.{alike, sessions-beside, readings-beside, held-beside, sessions-others, readings-others, change_by, changes-added, refusal_by, refused-added}
use Rattle.hub_core.proofs.Growing.{grows-append}
use Rattle.hub_core.specs.Parts.{Part, IsOf, AreOf, first_of, both, merged, given, kept, kept_all, views_after, in_turn, IsApart, AreApart, AreOfEach, HoldsNothing, HoldNothing, MergingLaw, JoinLaw, AreAgain, AgainLaw}
use Rattle.hub_core.specs.View.{View, Event, Change, Refusal, Taking, Session, Reading, empty_view, grow, grows}

-- two lists that are nothing together are nothing each
nothing-left : {A : Type 0} (xs ys : List A) → xs ++ ys ≡ [] → (xs ≡ []) × (ys ≡ [])
nothing-left [] ys e = (refl, e)
nothing-left (x ∷ xs) ys e = absurd cc

abbrev NotMine : (Part → Bool) → List Part → Type 0
NotMine mine [] = Unit {0}
NotMine mine (part ∷ parts) = (mine part ≡ false) × NotMine mine parts

abbrev Once : (Part → Bool) → List Part → Type 0
Once mine [] = Unit {0}
Once mine (part ∷ parts) = (mine part ≡ true → NotMine mine parts) × Once mine parts

-- one party's list, of any kind
module _ {X : Type 0} (get : View → List X) (mine : Part → Bool)
    (own : (e : Event) (v w : View) → get v ≡ get w → get (grow e v) ≡ get (grow e w))
    (others : (part : Part) → mine part ≡ false → (e : Event) → IsOf part e → (v : View) → get (grow e v) ≡ get v)
    (given-mine : (part : Part) (v : View) → mine part ≡ true → get (given part v) ≡ get v)
    (given-not : (part : Part) (v : View) → mine part ≡ false → get (given part v) ≡ [])
    (kept-mine : (part : Part) (v : View) → mine part ≡ true → get (kept part v) ≡ [])
    (kept-not : (part : Part) (v : View) → mine part ≡ false → get (kept part v) ≡ get v)
    (get-both : (v w : View) → get (both v w) ≡ get v ++ get w) where
  others-all : (part : Part) → mine part ≡ false → (events : List Event) → AreOf part events → (v : View) → get (grows events v) ≡ get v
  others-all part not [] of v = refl
  others-all part not (e ∷ events) of v = others-all part not events of.1 (grow e v) ∙ others part not e of.0 v

  abbrev items_of : List View → List X
  items_of [] = []
  items_of (w ∷ ws) = get w ++ items_of ws

  merged-lists : (v : View) (ws : List View) → get (merged v ws) ≡ get v ++ items_of ws
  merged-lists v [] = sym (append-nil (get v))
  merged-lists v (w ∷ ws) = merged-lists (both v w) ws ∙ ap (λ (l : List X). l ++ items_of ws) (get-both v w) ∙ append_assoc (get v) (get w) (items_of ws)

  others-join : (parts : List Part) (lists : List (List Event)) → NotMine mine parts → AreOfEach parts lists → (v : View) → get (grows (in_turn lists) v) ≡ get v
  others-join [] [] not of v = refl
  others-join [] (events ∷ lists) not of v = absurd of
  others-join (part ∷ parts) [] not of v = absurd of
  others-join (part ∷ parts) (events ∷ lists) not of v = ap get (grows-append events (in_turn lists) v) ∙ others-join parts lists not.1 of.1 (grows events v) ∙ others-all part not.0 events of.0 v

  one-list : (v : View) (parts : List Part) (lists : List (List Event)) → Once mine parts → AreOfEach parts lists → get (kept_all parts v) ++ items_of (views_after v parts lists) ≡ get (grows (in_turn lists) v)
  one-list v [] [] once of = append-nil (get v)
  one-list v [] (events ∷ lists) once of = absurd of
  one-list v (part ∷ parts) [] once of = absurd of
  one-list v (part ∷ parts) (events ∷ lists) once of =
      let k : View = kept part v in
      let h : List X = get (grows events (given part v)) in
      let xs : List X = get (kept_all parts k) in
      let ys : List X = items_of (views_after k parts lists) in
      let rest : xs ++ ys ≡ get (grows (in_turn lists) k) = one-list k parts lists once.1 of.1 in
      let after : get (grows (events ++ in_turn lists) v) ≡ get (grows (in_turn lists) (grows events v)) = ap get (grows-append events (in_turn lists) v) in
      (elim (either (mine part)) [
        | inl mine-is ↦
            let none : get (grows (in_turn lists) k) ≡ [] = others-join parts lists (once.0 mine-is) of.1 k ∙ kept-mine part v mine-is in
            let nones = nothing-left xs ys (rest ∙ none) in
            let head : h ≡ get (grows events v) = alike get own events (given part v) v (given-mine part v mine-is) in
            ap (λ (l : List X). l ++ (h ++ ys)) nones.0 ∙ ap (λ (l : List X). h ++ l) nones.1 ∙ append-nil h ∙ head ∙ sym (after ∙ others-join parts lists (once.0 mine-is) of.1 (grows events v))
        | inr not ↦
            let head : h ≡ [] = others-all part not events of.0 (given part v) ∙ given-not part v not in
            let same : get k ≡ get (grows events v) = kept-not part v not ∙ sym (others-all part not events of.0 v) in
            ap (λ (l : List X). xs ++ (l ++ ys)) head ∙ rest ∙ alike get own (in_turn lists) k (grows events v) same ∙ sym after
      ])
    where
      either : (b : Bool) → (b ≡ true) ⊎ (b ≡ false)
      either true = inl refl
      either false = inr refl

  pub party-law : (v : View) (parts : List Part) (lists : List (List Event)) → Once mine parts → AreOfEach parts lists → get (merged (kept_all parts v) (views_after v parts lists)) ≡ get (grows (in_turn lists) v)
  party-law v parts lists once of = merged-lists (kept_all parts v) (views_after v parts lists) ∙ one-list v parts lists once of

-- what each event adds to a list that all parties share
module _ {X : Type 0} (get : View → List X) (add : Event → List X)
    (adds : (e : Event) (v : View) → get (grow e v) ≡ get v ++ add e)
    (given-none : (part : Part) (v : View) → get (given part v) ≡ [])
    (kept-same : (part : Part) (v : View) → get (kept part v) ≡ get v)
    (get-both : (v w : View) → get (both v w) ≡ get v ++ get w) where
  abbrev added : List Event → List X
  added [] = []
  added (e ∷ events) = add e ++ added events

  grown : (events : List Event) (v : View) → get (grows events v) ≡ get v ++ added events
  grown [] v = sym (append-nil (get v))
  grown (e ∷ events) v = grown events (grow e v) ∙ ap (λ (l : List X). l ++ added events) (adds e v) ∙ append_assoc (get v) (add e) (added events)

  added-append : (events more : List Event) → added (events ++ more) ≡ added events ++ added more
  added-append [] more = refl
  added-append (e ∷ events) more = ap (λ (l : List X). add e ++ l) (added-append events more) ∙ sym (append_assoc (add e) (added events) (added more))

  shared-lists : (v : View) (parts : List Part) (lists : List (List Event)) → AreOfEach parts lists → (k : View) → get (merged k (views_after v parts lists)) ≡ get k ++ added (in_turn lists)
  shared-lists v [] [] of k = sym (append-nil (get k))
  shared-lists v [] (events ∷ lists) of k = absurd of
  shared-lists v (part ∷ parts) [] of k = absurd of
  shared-lists v (part ∷ parts) (events ∷ lists) of k =
      let w : View = grows events (given part v) in
      let head : get w ≡ added events = grown events (given part v) ∙ ap (λ (l : List X). l ++ added events) (given-none part v) in
      shared-lists (kept part v) parts lists of.1 (both k w)
      ∙ ap (λ (l : List X). l ++ added (in_turn lists)) (get-both k w ∙ ap (λ (l : List X). get k ++ l) head)
      ∙ append_assoc (get k) (added events) (added (in_turn lists))
      ∙ ap (λ (l : List X). get k ++ l) (sym (added-append events (in_turn lists)))

  kept-still : (parts : List Part) (v : View) → get (kept_all parts v) ≡ get v
  kept-still [] v = refl
  kept-still (part ∷ parts) v = kept-still parts (kept part v) ∙ kept-same part v

  pub shared-law : (v : View) (parts : List Part) (lists : List (List Event)) → AreOfEach parts lists → get (merged (kept_all parts v) (views_after v parts lists)) ≡ get (grows (in_turn lists) v)
  shared-law v parts lists of = shared-lists v parts lists of (kept_all parts v) ∙ ap (λ (l : List X). l ++ added (in_turn lists)) (kept-still parts v) ∙ sym (grown (in_turn lists) v)

-- no buffer is held between windows
held-merged : (ws : List View) (v : View) → HoldsNothing v → HoldNothing ws → HoldsNothing (merged v ws)
held-merged [] v none nones = none
held-merged (w ∷ ws) v none nones = held-merged ws (both v w) (λ buf. ap (λ (x : Option Taking). first_of x (v.held buf)) (nones.0 buf) ∙ none buf) nones.1

held-kept : (parts : List Part) (v : View) → HoldsNothing v → HoldsNothing (kept_all parts v)
held-kept [] v none = none
held-kept (part ∷ parts) v none = held-kept parts (kept part v) none

held-after : (u v : View) (parts : List Part) (lists : List (List Event)) → AreOfEach parts lists → HoldNothing (views_after u parts lists) → HoldsNothing v → HoldsNothing (grows (in_turn lists) v)
held-after u v [] [] of nones none = none
held-after u v [] (events ∷ lists) of nones none = absurd of
held-after u v (part ∷ parts) [] of nones none = absurd of
held-after u v (part ∷ parts) (events ∷ lists) of nones none =
    let next : HoldsNothing (grows events v) = λ buf. alike (λ (x : View). x.held buf) (held-beside buf) events v (given part u) (none buf) ∙ nones.0 buf in
    λ buf. ap (λ (x : View). x.held buf) (grows-append events (in_turn lists) v) ∙ held-after (kept part u) (grows events v) parts lists of.1 nones.1 next buf

-- views are the same where their items_of are
view-same : (v w : View) → v.changes ≡ w.changes → v.refused ≡ w.refused → ((buf : ℕ) → v.held buf ≡ w.held buf) → ((path : ℕ) → v.sessions path ≡ w.sessions path) → ((path dest : ℕ) → v.readings path dest ≡ w.readings path dest) → v ≡ w
view-same v w changes refused held sessions readings =
    ap (λ (x : List Change). record v { changes = x }) changes
    ∙ ap (λ (x : List Refusal). record v { changes = w.changes; refused = x }) refused
    ∙ ap (λ (x : ℕ → Option Taking). record v { changes = w.changes; refused = w.refused; held = x }) (fun_ext held)
    ∙ ap (λ (x : ℕ → List Session). record w { sessions = x; readings = v.readings }) (fun_ext sessions)
    ∙ ap (λ (x : ℕ → ℕ → List Reading). record w { readings = x }) (fun_ext (λ path. fun_ext (readings path)))

once-writes : (path : ℕ) (parts : List Part) → AreApart parts → Once (λ (part : Part). part.writes path) parts
once-writes path [] apart = tt
once-writes path (part ∷ parts) apart = (λ mine. these parts apart.0 mine, once-writes path parts apart.1)
  where
    these : (others : List Part) → IsApart part others → part.writes path ≡ true → NotMine (λ (other : Part). other.writes path) others
    these [] is mine = tt
    these (other ∷ others) is mine = (is.0 path mine, these others is.2 mine)

once-reads : (path dest : ℕ) (parts : List Part) → AreApart parts → Once (λ (part : Part). part.reads path dest) parts
once-reads path dest [] apart = tt
once-reads path dest (part ∷ parts) apart = (λ mine. these parts apart.0 mine, once-reads path dest parts apart.1)
  where
    these : (others : List Part) → IsApart part others → part.reads path dest ≡ true → NotMine (λ (other : Part). other.reads path dest) others
    these [] is mine = tt
    these (other ∷ others) is mine = (is.1 path dest mine, these others is.2 mine)

-- the law of joined views
pub merging : MergingLaw
merging v parts lists apart of none nones =
    view-same (merged (kept_all parts v) (views_after v parts lists)) (grows (in_turn lists) v)
    (shared-law (λ x. x.changes) change_by changes-added (λ p x. refl) (λ p x. refl) (λ x y. refl) v parts lists of)
    (shared-law (λ x. x.refused) refusal_by refused-added (λ p x. refl) (λ p x. refl) (λ x y. refl) v parts lists of)
    (λ buf. held-merged (views_after v parts lists) (kept_all parts v) (held-kept parts v none) nones buf ∙ sym (held-after v v parts lists of nones none buf))
    (λ path. party-law (λ x. x.sessions path) (λ p. p.writes path) (sessions-beside path) (λ p. sessions-others p path)
    (λ p x mine. ap (λ (b : Bool). if b then x.sessions path else []) mine) (λ p x mine. ap (λ (b : Bool). if b then x.sessions path else []) mine)
    (λ p x mine. ap (λ (b : Bool). if b then [] else x.sessions path) mine) (λ p x mine. ap (λ (b : Bool). if b then [] else x.sessions path) mine) (λ x y. refl)
    v parts lists (once-writes path parts apart) of)
    (λ path dest. party-law (λ x. x.readings path dest) (λ p. p.reads path dest) (readings-beside path dest) (λ p. readings-others p path dest)
    (λ p x mine. ap (λ (b : Bool). if b then x.readings path dest else []) mine) (λ p x mine. ap (λ (b : Bool). if b then x.readings path dest else []) mine)
    (λ p x mine. ap (λ (b : Bool). if b then [] else x.readings path dest) mine) (λ p x mine. ap (λ (b : Bool). if b then [] else x.readings path dest) mine) (λ x y. refl)
    v parts lists (once-reads path dest parts apart) of)

either-way : (b : Bool) → (b ≡ true) ⊎ (b ≡ false)
either-way true = inl refl
either-way false = inr refl

-- a party's list of a seat that is put behind another
one-behind : {X : Type 0} (get : View → List X) (b : Bool) (events : List Event) (v : View) → ((e : Event) (x y : View) → get x ≡ get y → get (grow e x) ≡ get (grow e y)) →
    (b ≡ false → (x : View) → get (grows events x) ≡ get x) → (b ≡ true → get v ≡ []) → get empty_view ≡ [] → get (grows events v) ≡ get v ++ get (grows events empty_view)
one-behind get b events v own others none nil = elim (either-way b) [
  | inl mine-is ↦ alike get own events v empty_view (none mine-is ∙ sym nil) ∙ ap (λ (l : List _). l ++ get (grows events empty_view)) (sym (none mine-is))
  | inr not ↦ others not v ∙ sym (append-nil (get v)) ∙ ap (λ (l : List _). get v ++ l) (sym (others not empty_view ∙ nil))
]

all-others : {X : Type 0} (get : View → List X) (part : Part) → ((e : Event) → IsOf part e → (v : View) → get (grow e v) ≡ get v) → (events : List Event) → AreOf part events → (v : View) → get (grows events v) ≡ get v
all-others get part others [] of v = refl
all-others get part others (e ∷ events) of v = all-others get part others events of.1 (grow e v) ∙ others e of.0 v

all-added : {X : Type 0} (get : View → List X) (add : Event → List X) → ((e : Event) (v : View) → get (grow e v) ≡ get v ++ add e) → get empty_view ≡ [] → (events : List Event) (v : View) → get (grows events v) ≡ get v ++ get (grows events empty_view)
all-added get add adds nil events v =
    let f = all-grown get add adds events in
    f v ∙ ap (λ (l : List _). get v ++ l) (sym (f empty_view ∙ ap (λ (l : List _). l ++ sums add events) nil))
  where
    sums : {Y : Type 0} → (Event → List Y) → List Event → List Y
    sums f [] = []
    sums f (e ∷ events) = f e ++ sums f events

    all-grown : {Y : Type 0} (get : View → List Y) (add : Event → List Y) → ((e : Event) (v : View) → get (grow e v) ≡ get v ++ add e) → (events : List Event) (v : View) → get (grows events v) ≡ get v ++ sums add events
    all-grown get add adds [] v = sym (append-nil (get v))
    all-grown get add adds (e ∷ events) v = all-grown get add adds events (grow e v) ∙ ap (λ (l : List _). l ++ sums add events) (adds e v) ∙ append_assoc (get v) (add e) (sums add events)

if-true : {A : Type 0} (b : Bool) (x y : A) → b ≡ true → (if b then x else y) ≡ x
if-true b x y is = ap (λ (c : Bool). if c then x else y) is

-- the law of a view that is joined to another
pub joining : JoinLaw
joining part events v of none nothing =
    view-same (grows events v) (both v (grows events empty_view))
    (all-added (λ x. x.changes) change_by changes-added refl events v)
    (all-added (λ x. x.refused) refusal_by refused-added refl events v)
    (λ buf. alike (λ x. x.held buf) (held-beside buf) events v empty_view (none buf) ∙ (let h : Option Taking = (grows events empty_view).held buf in sym (ap (λ (x : Option Taking). first_of h x) (none buf) ∙ last h)))
    (λ path. one-behind (λ x. x.sessions path) (part.writes path) events v (sessions-beside path) (λ not. all-others (λ x. x.sessions path) part (sessions-others part path not) events of)
    (λ mine. sym (if-true (part.writes path) (v.sessions path) [] mine) ∙ ap (λ (x : View). x.sessions path) nothing) refl)
    (λ path dest. one-behind (λ x. x.readings path dest) (part.reads path dest) events v (readings-beside path dest) (λ not. all-others (λ x. x.readings path dest) part (readings-others part path dest not) events of)
    (λ mine. sym (if-true (part.reads path dest) (v.readings path dest) [] mine) ∙ ap (λ (x : View). x.readings path dest) nothing) refl)
  where
    last : (h : Option Taking) → first_of h None ≡ h
    last None = refl
    last (Some x) = refl

-- a party's list is as its own crew left it
one-again : {X : Type 0} (get : View → List X) (mine : Part → Bool) → ((e : Event) (v w : View) → get v ≡ get w → get (grow e v) ≡ get (grow e w)) →
    ((part : Part) → mine part ≡ false → (e : Event) → IsOf part e → (v : View) → get (grow e v) ≡ get v) → (parts : List Part) (lists : List (List Event)) → NotMine mine parts → AreOfEach parts lists → (v : View) → get (grows (in_turn lists) v) ≡ get v
one-again get mine own others [] [] not of v = refl
one-again get mine own others [] (events ∷ lists) not of v = absurd of
one-again get mine own others (part ∷ parts) [] not of v = absurd of
one-again get mine own others (part ∷ parts) (events ∷ lists) not of v =
    ap get (grows-append events (in_turn lists) v) ∙ one-again get mine own others parts lists not.1 of.1 (grows events v) ∙ all-others get part (others part not.0) events of.0 v

given-same : (part : Part) (v w : View) → ((path : ℕ) → part.writes path ≡ true → v.sessions path ≡ w.sessions path) → ((path dest : ℕ) → part.reads path dest ≡ true → v.readings path dest ≡ w.readings path dest) → given part v ≡ given part w
given-same part v w sessions readings =
    view-same (given part v) (given part w) refl refl (λ buf. refl)
    (λ path. choice (part.writes path) (v.sessions path) (w.sessions path) [] (sessions path)) (λ path dest. choice (part.reads path dest) (v.readings path dest) (w.readings path dest) [] (readings path dest))
  where
    choice : {A : Type 0} (b : Bool) (x y z : A) → (b ≡ true → x ≡ y) → (if b then x else z) ≡ (if b then y else z)
    choice true x y z f = f refl
    choice false x y z f = refl

not-writes : (part : Part) (others : List Part) (path : ℕ) → IsApart part others → part.writes path ≡ true → NotMine (λ (other : Part). other.writes path) others
not-writes part [] path is mine = tt
not-writes part (other ∷ others) path is mine = (is.0 path mine, not-writes part others path is.2 mine)

not-reads : (part : Part) (others : List Part) (path dest : ℕ) → IsApart part others → part.reads path dest ≡ true → NotMine (λ (other : Part). other.reads path dest) others
not-reads part [] path dest is mine = tt
not-reads part (other ∷ others) path dest is mine = (is.1 path dest mine, not-reads part others path dest is.2 mine)

abbrev Same : View → View → List Part → Type 0
Same v u [] = Unit {0}
Same v u (part ∷ parts) = (((path : ℕ) → part.writes path ≡ true → u.sessions path ≡ v.sessions path) × ((path dest : ℕ) → part.reads path dest ≡ true → u.readings path dest ≡ v.readings path dest)) × Same v u parts

turned : (a b : Bool) → (a ≡ true → b ≡ false) → b ≡ true → a ≡ false
turned true b f is = let both : true ≡ false = sym is ∙ f refl in cc
turned false b f is = refl

-- v: as the window began; u: as a seat of these parties only began; w: after all
again-from : (v u : View) (parts : List Part) (lists : List (List Event)) → AreApart parts → AreOfEach parts lists → Same v u parts → AreAgain v (grows (in_turn lists) u) parts lists
again-from v u [] lists apart of same = tt
again-from v u (part ∷ parts) [] apart of same = tt
again-from v u (part ∷ parts) (events ∷ lists) apart of same = (
  given-same part (grows (events ++ in_turn lists) u) (grows events (given part v))
      (λ path mine. ap (λ (x : View). x.sessions path) (grows-append events (in_turn lists) u)
      ∙ one-again (λ x. x.sessions path) (λ p. p.writes path) (sessions-beside path) (λ p. sessions-others p path) parts lists (not-writes part parts path apart.0 mine) of.1 (grows events u)
      ∙ alike (λ x. x.sessions path) (sessions-beside path) events u (given part v) (same.0.0 path mine ∙ sym (if-true (part.writes path) (v.sessions path) [] mine)))
      (λ path dest mine. ap (λ (x : View). x.readings path dest) (grows-append events (in_turn lists) u)
      ∙ one-again (λ x. x.readings path dest) (λ p. p.reads path dest) (readings-beside path dest) (λ p. readings-others p path dest) parts lists (not-reads part parts path dest apart.0 mine) of.1 (grows events u)
      ∙ alike (λ x. x.readings path dest) (readings-beside path dest) events u (given part v) (same.0.1 path dest mine ∙ sym (if-true (part.reads path dest) (v.readings path dest) [] mine))),
  subst (λ (x : View). AreAgain v x parts lists) (sym (grows-append events (in_turn lists) u)) (again-from v (grows events u) parts lists apart.1 of.1 (same-after parts apart.0 same.1)),
)
  where
    same-after : (others : List Part) → IsApart part others → Same v u others → Same v (grows events u) others
    same-after [] is was = tt
    same-after (other ∷ others) is was = (
      (
        (λ path theirs. all-others (λ x. x.sessions path) part (sessions-others part path (turned (part.writes path) (other.writes path) (is.0 path) theirs)) events of.0 u ∙ was.0.0 path theirs),
        (λ path dest theirs. all-others (λ x. x.readings path dest) part (readings-others part path dest (turned (part.reads path dest) (other.reads path dest) (is.1 path dest) theirs)) events of.0 u ∙ was.0.1 path dest theirs),
      ),
      same-after others is.2 was.1,
    )

same-first : (v : View) (parts : List Part) → Same v v parts
same-first v [] = tt
same-first v (part ∷ parts) = (((λ path mine. refl), (λ path dest mine. refl)), same-first v parts)

-- the law of what each part has again
pub again : AgainLaw
again v parts lists apart of = again-from v v parts lists apart of (same-first v parts)
