-- How the places of a plain hub, its words and its numbers follow a call of one session's party.
use Rattle.std.proofs.Common.{◌≡◌, ◌≢◌, ℕ, ◌+◌, ◌<◌, ◌%◌, ◌⊎◌, inl, inr, zero, suc, Bool, List, [], ◌∷◌, ◌++◌, length, Option, Some, None, All, refl, ap, sym, ◌∙◌, subst, arith}
use Rattle.std.proofs.lemmas.Bool.Decides.{eqb_tells}
use Rattle.std.proofs.lemmas.List.Sums.{sum_by-set}
use Rattle.std.proofs.lemmas.Option.{same_Some, some_pair_parts, slice_get_within, get_or_from_slice_get}
use Rattle.std.specs.Prelude.{nat_lt, if◌then◌else◌, slice_get, slice_set, option_map, sum_by}
use Rattle.gw_base.specs.Cell.{IsCell}
use Rattle.hub_core.proofs.Grouped.{found-old}
use Rattle.hub_core.proofs.Growing.{session-changed}
use Rattle.hub_core.proofs.Kept.{GoOn, SameTake, same-take, mapped, session-now, reading-now, reading-pushed}
use Rattle.hub_core.specs.Calls.{ByWriter}
use Rattle.hub_core.specs.Joint.{IsFreed}
use Rattle.hub_core.specs.Groups.{group_of, place_of, all_sizes, journal_of}
use Rattle.hub_core.specs.Journal.{numbered}
use Rattle.hub_core.specs.Joint.{IsOver}
use Rattle.hub_core.specs.Plain.{session_in, reserved, taken, sight_of, sight_in, standing, position_of, IsRowOf, ShowPlaces, ShowWords, AreCounts, pool_after, start_of}
use Rattle.hub_core.specs.View.{View, Change, Freed, Taking, Session, Reading, at_one, at_two, change_at, session_at, reading_at}
use Rattle.hub_core.specs.declared.place.Place.{Place}
use Rattle.hub_core.specs.declared.place.Place.TheVariants.{Free, Reserved, Occupied}
use Rattle.hub_core.specs.declared.place.Row.{Row}
use Rattle.pool_words.specs.declared.pool.Pool.{Pool}

-- an item that is set, and the others
pub set-here : {A : Type 0} (xs : List A) (i : ℕ) (x : A) → i < length xs → slice_get (slice_set xs i x) i ≡ Some x
set-here [] i x below = absurd (omega (arith, below))
set-here (y ∷ xs) zero x below = refl
set-here (y ∷ xs) (suc i) x below = set-here xs i x (omega (arith, below))

pub set-else : {A : Type 0} (xs : List A) (i j : ℕ) (x : A) → j ≢ i → slice_get (slice_set xs i x) j ≡ slice_get xs j
set-else [] i j x other = refl
set-else (y ∷ xs) zero zero x other = absurd (other refl)
set-else (y ∷ xs) zero (suc j) x other = refl
set-else (y ∷ xs) (suc i) zero x other = refl
set-else (y ∷ xs) (suc i) (suc j) x other = set-else xs i j x (λ e. other (ap suc e))

-- a sum of weights, where one is set
pub sum-set : {A : Type 0} (f : A → ℕ) (xs : List A) (i : ℕ) (x y : A) → slice_get xs i ≡ Some x → sum_by f (slice_set xs i y) + f x ≡ sum_by f xs + f y
sum-set f xs i x y is =
    subst (λ z. sum_by f (slice_set xs i y) + f z ≡ sum_by f xs + f y) (get_or_from_slice_get xs i x x is) (sum_by-set f xs i y x (slice_get_within xs i x is))

-- the place of a session is one that has it
pub occupied : (found : Option Place) (path seq : ℕ) → session_in found ≡ Some (path, seq) → (row : Row) × (found ≡ Some (Occupied row)) × (row.path ≡ path) × (row.seq ≡ seq)
occupied None path seq is = absurd cc
occupied (Some Free) path seq is = absurd cc
occupied (Some Reserved) path seq is = absurd cc
occupied (Some (Occupied row)) path seq is = let parts = some_pair_parts row.path path row.seq seq is in (row, refl, parts.0, parts.1)

-- a row's session is in the view
pub sighted : (found : Option Session) (buf : ℕ) (row : Row) → option_map sight_of found ≡ Some (sight_in buf row) → (s : Session) × (found ≡ Some s) × (sight_of s ≡ sight_in buf row)
sighted None buf row is = absurd cc
sighted (Some s) buf row is = (s, refl, same_Some (sight_of s) (sight_in buf row) is)

-- what was freed stays freed
pub freed-on : (groups : List (List ℕ)) (v w : View) (s t : Session) → w.changes ≡ v.changes → SameTake s t → IsFreed groups v s → IsFreed groups w t
freed-on groups v w s t changes take freed =
    subst (λ (x : List Change × ℕ × ℕ). (later : ℕ) × (x.2 < later) × (numbered (journal_of groups (group_of groups x.1) x.0) later ≡ Some (Freed later (place_of groups x.1))))
    (λ i. (sym changes i, sym take.buf i, sym take.number i)) freed

pub freed-still : (groups : List (List ℕ)) (v w : View) (c : Change) (s : Session) → w.changes ≡ v.changes ++ c ∷ [] → IsFreed groups v s → IsFreed groups w s
freed-still groups v w c s changes freed =
    (freed.0, freed.1, ap (λ (l : List Change). numbered (journal_of groups (group_of groups s.buf) l) freed.0) changes ∙ found-old groups v.changes c (group_of groups s.buf) freed.0 _ freed.2)

-- one session alone may have changed, or its readings
abbrev pub IsOnlyAt : (path seq : ℕ) → View → View → Type 0
IsOnlyAt path seq v w = (q j : ℕ) → ((q ≡ path) × (j ≡ seq)) ⊎ ((session_at w q j ≡ session_at v q j) × ((d : ℕ) → reading_at w q d j ≡ reading_at v q d j))

pub only-session : (path seq : ℕ) (f : Session → Session) (v w : View) → w.sessions ≡ at_one path (change_at seq f (v.sessions path)) v.sessions → w.readings ≡ v.readings → IsOnlyAt path seq v w
only-session path seq f v w sessions readings q j = elim (session-now path seq f v w sessions q j) [
  | inl hit ↦ inl (hit.0, hit.1)
  | inr same ↦ inr (same, λ d. ap (λ (g : ℕ → ℕ → List Reading). slice_get (g q d) j) readings)
]

pub only-reading : (path dest seq : ℕ) (f : Reading → Reading) (v w : View) → w.readings ≡ at_two path dest (change_at seq f (v.readings path dest)) v.readings → w.sessions ≡ v.sessions → IsOnlyAt path seq v w
only-reading path dest seq f v w readings sessions q j = elim (eqb_tells q path) [
  | inl first ↦ elim (eqb_tells j seq) [
    | inl both ↦ inl (first.1, both.1)
    | inr other ↦ inr (ap (λ (g : ℕ → List Session). slice_get (g q) j) sessions, λ d. elim (reading-now path dest seq f v w readings q d j) [ inl hit ↦ absurd (other.1 hit.2) | inr same ↦ same ])
  ]
  | inr other ↦ inr (ap (λ (g : ℕ → List Session). slice_get (g q) j) sessions, λ d. elim (reading-now path dest seq f v w readings q d j) [ inl hit ↦ absurd (other.1 hit.0) | inr same ↦ same ])
]

pub only-joining : (path dest seq : ℕ) (r : Reading) (v w : View) → seq ≡ length (v.readings path dest) → w.readings ≡ at_two path dest (v.readings path dest ++ r ∷ []) v.readings → w.sessions ≡ v.sessions → IsOnlyAt path seq v w
only-joining path dest seq r v w next readings sessions q j = elim (eqb_tells q path) [
  | inl first ↦ elim (eqb_tells j seq) [
    | inl both ↦ inl (first.1, both.1)
    | inr other ↦ inr (ap (λ (g : ℕ → List Session). slice_get (g q) j) sessions, λ d. elim (reading-pushed path dest r v w readings q d j) [ inl hit ↦ absurd (other.1 (hit.2 ∙ sym next)) | inr same ↦ same ])
  ]
  | inr other ↦ inr (ap (λ (g : ℕ → List Session). slice_get (g q) j) sessions, λ d. elim (reading-pushed path dest r v w readings q d j) [ inl hit ↦ absurd (other.1 hit.0) | inr same ↦ same ])
]

-- a row of one place is put in the place of another, of the same session
pub record IsSwapped (places new : List Place) (buf : ℕ) (row next : Row) : Type 0 where
  pub was : slice_get places buf ≡ Some (Occupied row)
  pub now : slice_get new buf ≡ Some (Occupied next)
  pub others : (b : ℕ) → b ≢ buf → slice_get new b ≡ slice_get places b
  pub taken_same : sum_by taken new ≡ sum_by taken places
  pub reserved_same : sum_by reserved new ≡ sum_by reserved places
  pub path : next.path ≡ row.path
  pub seq : next.seq ≡ row.seq

pub not-swapped : (places : List Place) (buf : ℕ) (row : Row) → slice_get places buf ≡ Some (Occupied row) → IsSwapped places places buf row row
not-swapped places buf row is = record { was = is; now = is; others = λ b other. refl; taken_same = refl; reserved_same = refl; path = refl; seq = refl }

pub swapped : (places new : List Place) (buf : ℕ) (row next : Row) → slice_get places buf ≡ Some (Occupied row) → new ≡ slice_set places buf (Occupied next) → next.path ≡ row.path → next.seq ≡ row.seq → IsSwapped places new buf row next
swapped places new buf row next is set path seq = subst (λ (x : List Place). IsSwapped places x buf row next) (sym set) (record {
  was = is;
  now = set-here places buf (Occupied next) (slice_get_within places buf (Occupied row) is);
  others = λ b other. set-else places buf b (Occupied next) other;
  taken_same = let sum = sum-set taken places buf (Occupied row) (Occupied next) is in omega (arith, sum);
  reserved_same = let sum = sum-set reserved places buf (Occupied row) (Occupied next) is in omega (arith, sum);
  path = path;
  seq = seq;
})

-- a session has one place
pub one-place : (groups : List (List ℕ)) (places : List Place) (v : View) (buf b path seq : ℕ) (row r : Row) → ShowPlaces groups places v → slice_get places buf ≡ Some (Occupied row) → row.path ≡ path → row.seq ≡ seq →
    slice_get places b ≡ Some (Occupied r) → r.path ≡ path → r.seq ≡ seq → b ≡ buf
one-place groups places v buf b path seq row r show here path-is seq-is there path-too seq-too =
    let both : option_map sight_of (session_at v r.path r.seq) ≡ option_map sight_of (session_at v row.path row.seq) = ap (λ (x : ℕ × ℕ). option_map sight_of (session_at v x.0 x.1)) (λ i. ((path-too ∙ sym path-is) i, (seq-too ∙ sym seq-is) i)) in
    let sight : sight_in b r ≡ sight_in buf row = same_Some (sight_in b r) (sight_in buf row) (sym (show.rows b r there).session ∙ both ∙ (show.rows buf row here).session) in
    ap (λ (x : ℕ × ℕ × ℕ × ℕ × Bool). x.0) sight

-- the places show a call of a party of the row's session
pub show-row : (groups : List (List ℕ)) (places new : List Place) (v w : View) (buf path seq : ℕ) (row next : Row) → ShowPlaces groups places v → IsSwapped places new buf row next → row.path ≡ path → row.seq ≡ seq →
    IsOnlyAt path seq v w → GoOn v w → w.held ≡ v.held → w.changes ≡ v.changes → IsRowOf w buf next → ((s : Session) → session_at w path seq ≡ Some s → IsOver w path seq s → ⊥) → ShowPlaces groups new w
show-row groups places new v w buf path seq row next show swap path-is seq-is only on held changes shown party = record {
  rows = λ b r at. elim (eqb_tells b buf) [
    | inl same ↦
        let both : Some (Occupied next) ≡ Some (Occupied r) = sym swap.now ∙ ap (slice_get new) (sym same.1) ∙ at in
        let it : next ≡ r = cc in
        let P : ℕ → Row → Type 0 = λ x y. IsRowOf w x y in
        subst (λ (y : Row). P b y) it (subst (λ (x : ℕ). P x next) (sym same.1) shown)
    | inr other ↦
        let was : slice_get places b ≡ Some (Occupied r) = sym (swap.others b other.1) ∙ at in
        let old = show.rows b r was in
        elim (only r.path r.seq) [
          | inl hit ↦ absurd (other.1 (one-place groups places v buf b path seq row r show swap.was path-is seq-is was hit.0 hit.1))
          | inr same ↦ record {
            session = ap (option_map sight_of) same.0 ∙ old.session;
            positions = λ dest below. old.positions dest below ∙ ap (λ (x : Option Session × Option Reading). Some (position_of x.0 dest x.1)) (λ i. (sym same.0 i, sym (same.1 dest) i));
          }
        ]
  ];
  party = λ b r s at there over. elim (eqb_tells b buf) [
    | inl same ↦
        let both : Some (Occupied next) ≡ Some (Occupied r) = sym swap.now ∙ ap (slice_get new) (sym same.1) ∙ at in
        let it : next ≡ r = cc in
        let key-path : r.path ≡ path = ap (λ (y : Row). y.path) (sym it) ∙ swap.path ∙ path-is in
        let key-seq : r.seq ≡ seq = ap (λ (y : Row). y.seq) (sym it) ∙ swap.seq ∙ seq-is in
        party s (sym (ap (λ (x : ℕ × ℕ). session_at w x.0 x.1) (λ i. (key-path i, key-seq i))) ∙ there) (subst (λ (x : ℕ × ℕ). IsOver w x.0 x.1 s) (λ i. (key-path i, key-seq i)) over)
    | inr other ↦
        let was : slice_get places b ≡ Some (Occupied r) = sym (swap.others b other.1) ∙ at in
        elim (only r.path r.seq) [
          | inl hit ↦ absurd (other.1 (one-place groups places v buf b path seq row r show swap.was path-is seq-is was hit.0 hit.1))
          | inr same ↦ show.party b r s was (sym same.0 ∙ there) (record { writer = over.writer; dests = λ d below. let gone = over.dests d below in (gone.0, sym (same.1 d) ∙ gone.1, gone.2) })
        ]
  ];
  sessions = λ p k t at kept.
      let was = on p k t at in
      let old = show.sessions p k was.0 was.1 (λ freed. kept (freed-on groups v w was.0 t changes was.2 freed)) in
      ap (λ (b : ℕ). session_in (slice_get new b)) was.2.buf ∙ elim (eqb_tells was.0.buf buf) [
        | inl same ↦
            let here : session_in (slice_get places was.0.buf) ≡ Some (row.path, row.seq) = ap (λ (b : ℕ). session_in (slice_get places b)) same.1 ∙ ap session_in swap.was in
            ap (λ (b : ℕ). session_in (slice_get new b)) same.1 ∙ ap session_in swap.now ∙ (λ i. Some (swap.path i, swap.seq i)) ∙ sym here ∙ old
        | inr other ↦ ap session_in (swap.others was.0.buf other.1) ∙ old
      ];
  held = λ b t at.
      let old = show.held b t (sym (ap (λ (h : ℕ → Option Taking). h b) held) ∙ at) in
      elim (eqb_tells b buf) [
        | inl same ↦ absurd (
            let zero-is : option_map reserved (slice_get places b) ≡ Some 0 = ap (λ (x : ℕ). option_map reserved (slice_get places x)) same.1 ∙ ap (option_map reserved) swap.was in
            let none : Some 0 ≡ Some 1 = sym zero-is ∙ old in
            cc)
        | inr other ↦ ap (option_map reserved) (swap.others b other.1) ∙ old
      ];
}

-- a row after a call on its session
pub row-on-session : (path seq : ℕ) (f : Session → Session) (v w : View) (buf : ℕ) (row next : Row) (s : Session) → w.sessions ≡ at_one path (change_at seq f (v.sessions path)) v.sessions → w.readings ≡ v.readings →
    IsRowOf v buf row → row.path ≡ path → row.seq ≡ seq → next.path ≡ row.path → next.seq ≡ row.seq → next.positions ≡ row.positions → session_at v path seq ≡ Some s →
    sight_of (f s) ≡ sight_in buf next → (f s).dests ≡ s.dests → IsRowOf w buf next
row-on-session path seq f v w buf row next s sessions readings old path-is seq-is path-same seq-same positions at sight dests = record {
  session = ap (option_map sight_of) now ∙ ap Some sight;
  positions = λ dest below.
      ap (λ (p : List (Option ℕ)). slice_get p dest) positions ∙ old.positions dest below
      ∙ ap (λ (o : Option Session). Some (position_of o dest (reading_at v row.path dest row.seq))) before
      ∙ ap (λ (n : ℕ). Some (if nat_lt dest n then standing (reading_at v row.path dest row.seq) else None)) (sym dests)
      ∙ ap (λ (x : ℕ × ℕ). Some (position_of (Some (f s)) dest (reading_at v x.0 dest x.1))) (λ i. (sym path-same i, sym seq-same i))
      ∙ ap (λ (g : ℕ → ℕ → List Reading). Some (position_of (Some (f s)) dest (slice_get (g next.path dest) next.seq))) (sym readings)
      ∙ ap (λ (o : Option Session). Some (position_of o dest (reading_at w next.path dest next.seq))) (sym now);
}
  where
    before : session_at v row.path row.seq ≡ Some s
    before = ap (λ (x : ℕ × ℕ). session_at v x.0 x.1) (λ i. (path-is i, seq-is i)) ∙ at

    now : session_at w next.path next.seq ≡ Some (f s)
    now = ap (λ (x : ℕ × ℕ). session_at w x.0 x.1) (λ i. ((path-same ∙ path-is) i, (seq-same ∙ seq-is) i)) ∙ session-changed path seq f s v w at sessions

-- a row after a call of one of its destinations, whose reading is now that one
pub row-on-reading : (path dest seq : ℕ) (v w : View) (buf : ℕ) (row next : Row) (s : Session) (r : Reading) → w.sessions ≡ v.sessions → ((d : ℕ) → d ≢ dest → reading_at w path d seq ≡ reading_at v path d seq) → reading_at w path dest seq ≡ Some r →
    IsRowOf v buf row → row.path ≡ path → row.seq ≡ seq → next.path ≡ row.path → next.seq ≡ row.seq → sight_in buf next ≡ sight_in buf row → ((d : ℕ) → d ≢ dest → slice_get next.positions d ≡ slice_get row.positions d) →
    session_at v path seq ≡ Some s → slice_get next.positions dest ≡ Some (position_of (Some s) dest (Some r)) → IsRowOf w buf next
row-on-reading path dest seq v w buf row next s r sessions beside own old path-is seq-is path-same seq-same sight others at mine = record {
  session = ap (option_map sight_of) (now ∙ sym before) ∙ old.session ∙ ap Some (sym sight);
  positions = λ d below. elim (eqb_tells d dest) [
    | inl same ↦
        ap (slice_get next.positions) same.1 ∙ mine
        ∙ ap (λ (n : ℕ). Some (position_of (Some s) n (Some r))) (sym same.1)
        ∙ ap (λ (x : Option Session × Option Reading). Some (position_of x.0 d x.1)) (λ i. (sym now i, sym (ap (λ (x : ℕ × ℕ × ℕ). reading_at w x.0 x.1 x.2) (λ j. (key-path j, same.1 j, key-seq j)) ∙ own) i))
    | inr other ↦
        others d other.1 ∙ old.positions d below
        ∙ ap (λ (x : Option Session × Option Reading). Some (position_of x.0 d x.1)) (λ i. ((before ∙ sym now) i, (ap (λ (x : ℕ × ℕ). reading_at v x.0 d x.1) (λ j. (path-is j, seq-is j)) ∙ sym (beside d other.1) ∙ ap (λ (x : ℕ × ℕ). reading_at w x.0 d x.1) (λ j. (sym key-path j, sym key-seq j))) i))
  ];
}
  where
    key-path : next.path ≡ path
    key-path = path-same ∙ path-is

    key-seq : next.seq ≡ seq
    key-seq = seq-same ∙ seq-is

    before : session_at v row.path row.seq ≡ Some s
    before = ap (λ (x : ℕ × ℕ). session_at v x.0 x.1) (λ i. (path-is i, seq-is i)) ∙ at

    now : session_at w next.path next.seq ≡ Some s
    now = ap (λ (x : ℕ × ℕ). session_at w x.0 x.1) (λ i. (key-path i, key-seq i)) ∙ ap (λ (g : ℕ → List Session). slice_get (g path) seq) sessions ∙ at

-- sessions whose cells stay
abbrev pub AreKept : View → View → Type 0
AreKept v w = (path seq : ℕ) (t : Session) → session_at w path seq ≡ Some t → (s : Session) × (session_at v path seq ≡ Some s) × SameTake s t × (t.cells ≡ s.cells)

pub kept-session : (path seq : ℕ) (f : Session → Session) (v w : View) → w.sessions ≡ at_one path (change_at seq f (v.sessions path)) v.sessions → ((s : Session) → SameTake s (f s)) → ((s : Session) → (f s).cells ≡ s.cells) → AreKept v w
kept-session path seq f v w sessions same cells p k t at = elim (session-now path seq f v w sessions p k) [
  | inl hit ↦ (let was = mapped f (session_at v p k) t (sym hit.2 ∙ at) in (was.0, was.1, subst (SameTake was.0) (sym was.2) (same was.0), ap (λ (x : Session). x.cells) was.2 ∙ cells was.0))
  | inr is ↦ (t, sym is ∙ at, same-take t, refl)
]

pub kept-sessions : (v w : View) → w.sessions ≡ v.sessions → AreKept v w
kept-sessions v w sessions p k t at = (t, ap (λ (g : ℕ → List Session). slice_get (g p) k) (sym sessions) ∙ at, same-take t, refl)

-- the words show them as before
pub words-on : (groups : List (List ℕ)) (words : List ℕ) (v w : View) → AreKept v w → ((s t : Session) → SameTake s t → IsFreed groups v s → IsFreed groups w t) → ShowWords groups words v → ShowWords groups words w
words-on groups words v w kept still show = record {
  cells = λ p k t at. let was = kept p k t at in subst (All IsCell) (sym was.3) (show.cells p k was.0 was.1);
  ring = λ p k i cell t at unfreed get most.
      let was = kept p k t at in
      ap (λ (x : ℕ × ℕ). slice_get words (start_of (all_sizes groups) x.0 + i % x.1)) (λ j. (was.2.buf j, was.2.size j))
      ∙ show.ring p k i cell was.0 was.1 (λ freed. unfreed (still was.0 t was.2 freed)) (sym (ap (λ (l : List ℕ). slice_get l i) was.3) ∙ get) (omega (arith, most, ap length was.3, was.2.size));
}

-- the numbers stay
pub counts-on : (groups : List (List ℕ)) (places new : List Place) (pools : List Pool) (takes : ℕ) (v w : View) → w.changes ≡ v.changes → ((path : ℕ) → length (w.sessions path) ≡ length (v.sessions path)) → GoOn v w →
    sum_by taken new ≡ sum_by taken places → sum_by reserved new ≡ sum_by reserved places → AreCounts groups places pools takes v → AreCounts groups new pools takes w
counts-on groups places new pools takes v w same lengths on taken-same reserved-same counts = record {
  words = λ group below. counts.words group below ∙ ap (λ (l : List Change). Some (pool_after groups group l)) (sym same);
  moves = omega (arith, counts.moves, taken-same, ap (λ (l : List Change). length l) same);
  sessions = λ path. let h = counts.sessions path in omega (arith, h, lengths path, reserved-same);
  some = λ p k t at. let was = on p k t at in omega (arith, counts.some p k was.0 was.1, was.2.dests);
  dests = λ p k t at. let was = on p k t at in omega (arith, counts.dests p k was.0 was.1, was.2.dests);
}

pub lengths-by : (path : ℕ) (v w : View) → ByWriter path 0 v w → (other : ℕ) → length (w.sessions other) ≡ length (v.sessions other)
lengths-by path v w by other = elim (eqb_tells other path) [
  | inl same ↦ (let h = by.number in subst (λ (p : ℕ). length (w.sessions p) ≡ length (v.sessions p)) (sym same.1) (omega (arith, h)))
  | inr apart ↦ ap length (by.others other apart.1)
]
