-- Floors rise with each event, what is fresh at some floors is fresh at lower ones, and at present floors a fresh look is exact.
use Rattle.std.proofs.Common.{◌≡◌, ℕ, ◌+◌, ◌-◌, ◌≤◌, zero, suc, Bool, true, false, List, [], ◌∷◌, ◌++◌, length, take, Option, Some, None, inl, inr, refl, ap, sym, ◌∙◌, subst, arith, length-append, append-nil}
use Rattle.std.proofs.lemmas.Bool.{cases_lt, le-ltb, ltb-false}
use Rattle.std.proofs.lemmas.Bool.Decides.{eqb_tells}
use Rattle.std.proofs.lemmas.Option.{same_Some, slice_get_cases}
use Rattle.std.specs.Prelude.{◌==◌, ◌&&◌, slice_get, if◌then◌else◌, nat_lt}
use Rattle.gw_base.specs.Cell.{counted}
use Rattle.hub_core.specs.Alone.{IsRoomOf, IsNextOf, IsSeenOf}
use Rattle.hub_core.specs.Floors.{Floors, Rise, IsFresh, AreFresh, staying, number_in, has_left, is_for_in, floors_of}
use Rattle.hub_core.specs.Groups.{group_of, in_group, journal_of}
use Rattle.hub_core.specs.Journal.{changed_buf}
use Rattle.hub_core.specs.Joint.{IsStream, AreStreams, position}
use Rattle.hub_core.specs.Tokens.{Writes}
use Rattle.hub_core.specs.View.{View, Event, Change, Taken, Session, Reading, at_one, at_two, change_at, session_new, reading_new, session_at, reading_at, grow, grows}
use Rattle.hub_core.specs.View.{Took, Refused, Entered, Asked, Put, Published, Joining, Missed, Saw, Read, Closed, Parted}
use Rattle.hub_core.specs.declared.port.Room.{Room}
use Rattle.hub_core.specs.declared.port.Seen.{Seen}
use Rattle.hub_core.specs.declared.token.Opened.{Opened}
use Rattle.hub_core.proofs.Growing.{length-change_at, reading-changed}

pub rise-same : (f : Floors) → Rise f f
rise-same f = record {
  changes = λ group. omega arith;
  entered = λ group path dest seq is. is;
  shown = λ path seq. omega arith;
  closed = λ path seq left. left;
  read = λ path dest seq. omega arith;
  parted = λ path dest seq left. left;
}

pub rise-twice : (f g h : Floors) → Rise f g → Rise g h → Rise f h
rise-twice f g h first second = record {
  changes = λ group. omega (arith, first.changes group, second.changes group);
  entered = λ group path dest seq is. second.entered group path dest seq (first.entered group path dest seq is);
  shown = λ path seq. omega (arith, first.shown path seq, second.shown path seq);
  closed = λ path seq left. second.closed path seq (first.closed path seq left);
  read = λ path dest seq. omega (arith, first.read path dest seq, second.read path dest seq);
  parted = λ path dest seq left. second.parted path dest seq (first.parted path dest seq left);
}

-- fewer that left are more that stay
staying-lower : (low high : ℕ → Bool) (dests : ℕ) → ((dest : ℕ) → low dest ≡ true → high dest ≡ true) → staying high dests ≤ staying low dests
staying-lower low high zero lower = omega arith
staying-lower low high (suc dest) lower = one (low dest) (high dest) (lower dest) (staying-lower low high dest lower)
  where
    one : (a b : Bool) → (a ≡ true → b ≡ true) → staying high dest ≤ staying low dest → (if b then 0 else 1) + staying high dest ≤ (if a then 0 else 1) + staying low dest
    one true true kept rest = omega (arith, rest)
    one true false kept rest = absurd (let no = kept refl in cc)
    one false true kept rest = omega (arith, rest)
    one false false kept rest = omega (arith, rest)

not-yet : (a b : Bool) → (a ≡ true → b ≡ true) → b ≡ false → a ≡ false
not-yet true b kept stays = absurd (let left = kept refl in cc)
not-yet false b kept stays = refl

-- what is fresh at some floors is fresh at lower ones
pub fresh-lower : (low high : Floors) (v : View) (e : Event) → Rise low high → IsFresh v high e → IsFresh v low e
fresh-lower low high v (Took group number buf size need) rise fresh = omega (arith, rise.changes group, fresh)
fresh-lower low high v (Refused group number free need) rise fresh = omega (arith, rise.changes group, fresh)
fresh-lower low high v (Entered path seq buf number size len readers) rise fresh = tt
fresh-lower low high v (Asked path seq cells readers) rise fresh = λ s there. record {
  dests = omega (arith, (fresh s there).dests, staying-lower (λ dest. low.parted path dest seq) (λ dest. high.parted path dest seq) s.dests (λ dest. rise.parted path dest seq));
  room = λ least within read.
      (fresh s there).room least within (λ dest below stays.
      let low-stays = not-yet (low.parted path dest seq) (high.parted path dest seq) (rise.parted path dest seq) stays in
      omega (arith, read dest below low-stays, rise.read path dest seq));
  kept = (fresh s there).kept;
  most = (fresh s there).most;
}
fresh-lower low high v (Put path seq cell) rise fresh = tt
fresh-lower low high v (Published path seq bytes) rise fresh = tt
fresh-lower low high v (Joining path dest seq buf len) rise fresh = tt
fresh-lower low high v (Missed group path dest seq) rise fresh = not-yet (low.entered group path dest seq) (high.entered group path dest seq) (rise.entered group path dest seq) fresh
fresh-lower low high v (Saw path dest seq cells bytes writer) rise fresh =
    (omega (arith, rise.shown path seq, fresh.0), λ stood. not-yet (low.closed path seq) (high.closed path seq) (rise.closed path seq) (fresh.1 stood), fresh.2)
fresh-lower low high v (Read path dest seq cell) rise fresh = tt
fresh-lower low high v (Closed path seq freed) rise fresh = tt
fresh-lower low high v (Parted path dest seq freed) rise fresh = tt

pub are-fresh-lower : (low high : Floors) (v : View) (es : List Event) → Rise low high → AreFresh high v es → AreFresh low v es
are-fresh-lower low high v [] rise fresh = tt
are-fresh-lower low high v (e ∷ es) rise fresh = (fresh-lower low high v e rise fresh.0, are-fresh-lower low high (grow e v) es rise fresh.1)

-- more events, that are fresh at later floors, after those that led to their view
pub are-fresh-append : (low high : Floors) (v w : View) (es more : List Event) → w ≡ grows es v → Rise low high → AreFresh low v es → AreFresh high w more → AreFresh low v (es ++ more)
are-fresh-append low high v w [] more led rise fresh later = let P : View → Type 0 = λ x. AreFresh low x more in subst P led (are-fresh-lower low high w more rise later)
are-fresh-append low high v w (e ∷ es) more led rise fresh later = (fresh.0, are-fresh-append low high (grow e v) w es more led rise fresh.1 later)

-- an item's number doesn't fall, it doesn't come back once it left, and it keeps what it is for
record Rises {A : Type 0} (count : A → ℕ) (stands : A → Bool) (dests : A → ℕ × ℕ) (x y : A) : Type 0 where
  number : count x ≤ count y
  same : dests x ≡ dests y
  left : stands x ≡ false → stands y ≡ false

-- a list keeps its items, each as it was or risen, and may have more of them
record Grown {A : Type 0} (count : A → ℕ) (stands : A → Bool) (dests : A → ℕ × ℕ) (xs ys : List A) : Type 0 where
  number : length xs ≤ length ys
  each : (k : ℕ) (x : A) → slice_get xs k ≡ Some x → (y : A) × (slice_get ys k ≡ Some y) × Rises count stands dests x y

grown-same : {A : Type 0} (count : A → ℕ) (stands : A → Bool) (dests : A → ℕ × ℕ) (xs : List A) → Grown count stands dests xs xs
grown-same count stands dests xs = record { number = omega arith; each = λ k x is. (x, is, record { number = omega arith; same = refl; left = λ left. left }) }

grown-pushed : {A : Type 0} (count : A → ℕ) (stands : A → Bool) (dests : A → ℕ × ℕ) (xs : List A) (z : A) → Grown count stands dests xs (xs ++ z ∷ [])
grown-pushed {A = A} count stands dests xs z = record { number = omega (arith, length-append xs (z ∷ [])); each = λ k x is. (x, stays xs k x is, record { number = omega arith; same = refl; left = λ left. left }) }
  where
    stays : (l : List A) (k : ℕ) (x : A) → slice_get l k ≡ Some x → slice_get (l ++ z ∷ []) k ≡ Some x
    stays [] k x is = absurd cc
    stays (y ∷ l) zero x is = is
    stays (y ∷ l) (suc k) x is = stays l k x is

grown-changed : {A : Type 0} (count : A → ℕ) (stands : A → Bool) (dests : A → ℕ × ℕ) (k : ℕ) (f : A → A) (xs : List A) → ((x : A) → slice_get xs k ≡ Some x → Rises count stands dests x (f x)) → Grown count stands dests xs (change_at k f xs)
grown-changed {A = A} count stands dests k f xs risen = record { number = omega (arith, length-change_at k f xs); each = items k xs risen }
  where
    items : (k : ℕ) (l : List A) → ((x : A) → slice_get l k ≡ Some x → Rises count stands dests x (f x)) → (at : ℕ) (x : A) → slice_get l at ≡ Some x → (y : A) × (slice_get (change_at k f l) at ≡ Some y) × Rises count stands dests x y
    items k [] is-risen at x is = absurd cc
    items zero (z ∷ l) is-risen zero x is = let same : z ≡ x = cc in let P : A → Type 0 = λ y. Rises count stands dests y (f z) in (f z, refl, subst P same (is-risen z refl))
    items zero (z ∷ l) is-risen (suc at) x is = (x, is, record { number = omega arith; same = refl; left = λ left. left })
    items (suc k) (z ∷ l) is-risen zero x is = (x, is, record { number = omega arith; same = refl; left = λ left. left })
    items (suc k) (z ∷ l) is-risen (suc at) x is = items k l is-risen at x is

-- lists by a number, or by two, of which one has grown
one-grown : {A : Type 0} (count : A → ℕ) (stands : A → Bool) (dests : A → ℕ × ℕ) (p : ℕ) (ys : List A) (lists : ℕ → List A) → Grown count stands dests (lists p) ys → (q : ℕ) → Grown count stands dests (lists q) (at_one p ys lists q)
one-grown count stands dests p ys lists grown q =
    let G : Bool → Type 0 = λ b. Grown count stands dests (lists q) (if b then ys else lists q) in
    let H : ℕ → Type 0 = λ n. Grown count stands dests (lists n) ys in
    elim (eqb_tells q p) [ inl at ↦ subst G (sym at.0) (subst H (sym at.1) grown) | inr other ↦ subst G (sym other.0) (grown-same count stands dests (lists q)) ]

two-grown : {A : Type 0} (count : A → ℕ) (stands : A → Bool) (dests : A → ℕ × ℕ) (p d : ℕ) (ys : List A) (lists : ℕ → ℕ → List A) → Grown count stands dests (lists p d) ys → (q e : ℕ) → Grown count stands dests (lists q e) (at_two p d ys lists q e)
two-grown count stands dests p d ys lists grown q e =
    let G : Bool → Type 0 = λ b. Grown count stands dests (lists q e) ((if b then at_one d ys (lists p) else lists q) e) in
    let H : ℕ → Type 0 = λ n. Grown count stands dests (lists n e) (at_one d ys (lists p) e) in
    elim (eqb_tells q p) [ inl at ↦ subst G (sym at.0) (subst H (sym at.1) (one-grown count stands dests d ys (lists p) grown e)) | inr other ↦ subst G (sym other.0) (grown-same count stands dests (lists q e)) ]

number-rises : {A : Type 0} (count : A → ℕ) (stands : A → Bool) (dests : A → ℕ × ℕ) (a b : Option A) → ((x : A) → a ≡ Some x → (y : A) × (b ≡ Some y) × Rises count stands dests x y) → number_in count a ≤ number_in count b
number-rises count stands dests None b each = omega arith
number-rises count stands dests (Some x) b each = let found = each x refl in omega (arith, found.2.number, ap (number_in count) found.1)

stays-left : {A : Type 0} (count : A → ℕ) (stands : A → Bool) (dests : A → ℕ × ℕ) (a b : Option A) → ((x : A) → a ≡ Some x → (y : A) × (b ≡ Some y) × Rises count stands dests x y) → has_left stands a ≡ true → has_left stands b ≡ true
stays-left count stands dests None b each left = absurd cc
stays-left count stands dests (Some x) b each left = let found = each x refl in ap (has_left stands) found.1 ∙ ap (λ (t : Bool). if t then false else true) (found.2.left (gone (stands x) left))
  where
    gone : (t : Bool) → (if t then false else true) ≡ true → t ≡ false
    gone true is = absurd cc
    gone false is = refl

abbrev SessionsGrow : List Session → List Session → Type 0
SessionsGrow = Grown (λ s. s.shown) (λ s. s.stands) (λ s. (s.buf, s.dests))

abbrev ReadingsGrow : List Reading → List Reading → Type 0
ReadingsGrow = Grown (λ r. length r.cells) (λ r. r.stands) (λ r. (0, 0))

-- a session that is entered in a group for a destination stays so
stays-for : (groups : List (List ℕ)) (group dest : ℕ) (a b : Option Session) → ((x : Session) → a ≡ Some x → (y : Session) × (b ≡ Some y) × Rises (λ s. s.shown) (λ s. s.stands) (λ s. (s.buf, s.dests)) x y) →
    is_for_in groups group dest a ≡ true → is_for_in groups group dest b ≡ true
stays-for groups group dest None b each is = absurd cc
stays-for groups group dest (Some x) b each is =
    let found = each x refl in
    ap (is_for_in groups group dest) found.1 ∙ ap (λ (k : ℕ × ℕ). (group_of groups k.0 == group) && nat_lt dest k.1) (sym found.2.same) ∙ is

-- a group has no fewer changes
pub journal-append : (groups : List (List ℕ)) (group : ℕ) (xs ys : List Change) → length (journal_of groups group xs) ≤ length (journal_of groups group (xs ++ ys))
journal-append groups group [] ys = omega arith
journal-append groups group (c ∷ xs) ys = by-test (group_of groups (changed_buf c) == group) (journal-append groups group xs ys)
  where
    by-test : (b : Bool) → length (journal_of groups group xs) ≤ length (journal_of groups group (xs ++ ys)) →
        length (if b then in_group groups c ∷ journal_of groups group xs else journal_of groups group xs) ≤ length (if b then in_group groups c ∷ journal_of groups group (xs ++ ys) else journal_of groups group (xs ++ ys))
    by-test true rest = omega (arith, rest)
    by-test false rest = rest

module _ (groups : List (List ℕ)) where
  rise-of : (e : Event) (v : View) (more : List Change) → (grow e v).changes ≡ v.changes ++ more → ((path : ℕ) → SessionsGrow (v.sessions path) ((grow e v).sessions path)) →
      ((path dest : ℕ) → ReadingsGrow (v.readings path dest) ((grow e v).readings path dest)) → Rise (floors_of groups v) (floors_of groups (grow e v))
  rise-of e v more changes sessions readings = record {
    changes = λ group. subst (λ (l : List Change). length (journal_of groups group v.changes) ≤ length (journal_of groups group l)) (sym changes) (journal-append groups group v.changes more);
    entered = λ group path dest seq. stays-for groups group dest (session_at v path seq) (session_at (grow e v) path seq) ((sessions path).each seq);
    shown = λ path seq. number-rises (λ s. s.shown) (λ s. s.stands) (λ s. (s.buf, s.dests)) (session_at v path seq) (session_at (grow e v) path seq) ((sessions path).each seq);
    closed = λ path seq. stays-left (λ s. s.shown) (λ s. s.stands) (λ s. (s.buf, s.dests)) (session_at v path seq) (session_at (grow e v) path seq) ((sessions path).each seq);
    read = λ path dest seq. number-rises (λ r. length r.cells) (λ r. r.stands) (λ r. (0, 0)) (reading_at v path dest seq) (reading_at (grow e v) path dest seq) ((readings path dest).each seq);
    parted = λ path dest seq. stays-left (λ r. length r.cells) (λ r. r.stands) (λ r. (0, 0)) (reading_at v path dest seq) (reading_at (grow e v) path dest seq) ((readings path dest).each seq);
  }

same-sessions : (v : View) (path : ℕ) → SessionsGrow (v.sessions path) (v.sessions path)
same-sessions v path = grown-same _ _ _ (v.sessions path)

same-readings : (v : View) (path dest : ℕ) → ReadingsGrow (v.readings path dest) (v.readings path dest)
same-readings v path dest = grown-same _ _ _ (v.readings path dest)

session-rises : (path seq : ℕ) (f : Session → Session) (v : View) → ((s : Session) → session_at v path seq ≡ Some s → (s.shown ≤ (f s).shown) × (s.stands ≡ false → (f s).stands ≡ false) × (s.buf ≡ (f s).buf) × (s.dests ≡ (f s).dests)) →
    (q : ℕ) → SessionsGrow (v.sessions q) (at_one path (change_at seq f (v.sessions path)) v.sessions q)
session-rises path seq f v risen = one-grown _ _ _ path (change_at seq f (v.sessions path)) v.sessions (grown-changed _ _ _ seq f (v.sessions path) (λ s there. record { number = (risen s there).0; same = λ i. ((risen s there).2 i, (risen s there).3 i); left = (risen s there).1 }))

reading-rises : (path dest seq : ℕ) (f : Reading → Reading) (v : View) → ((r : Reading) → (length r.cells ≤ length (f r).cells) × (r.stands ≡ false → (f r).stands ≡ false)) →
    (q e : ℕ) → ReadingsGrow (v.readings q e) (at_two path dest (change_at seq f (v.readings path dest)) v.readings q e)
reading-rises path dest seq f v risen = two-grown _ _ _ path dest (change_at seq f (v.readings path dest)) v.readings (grown-changed _ _ _ seq f (v.readings path dest) (λ r there. record { number = (risen r).0; same = refl; left = (risen r).1 }))

-- no more of a session is published than was put
abbrev pub ShowsPut : View → Type 0
ShowsPut v = (path seq : ℕ) (s : Session) → session_at v path seq ≡ Some s → s.shown ≤ length s.cells

-- no event lowers the present floors
pub rises : (groups : List (List ℕ)) (e : Event) (v : View) → ShowsPut v → Rise (floors_of groups v) (floors_of groups (grow e v))
unfolding grow
rises groups (Took group number buf size need) v put = rise-of groups (Took group number buf size need) v (Taken number buf need ∷ []) refl (same-sessions v) (same-readings v)
rises groups (Refused group number free need) v put = rise-same (floors_of groups v)
rises groups (Entered path seq buf number size len readers) v put =
    rise-of groups (Entered path seq buf number size len readers) v [] (sym (append-nil v.changes)) (one-grown _ _ _ path _ v.sessions (grown-pushed _ _ _ (v.sessions path) (session_new buf number size len readers))) (same-readings v)
rises groups (Asked path seq cells readers) v put =
    rise-of groups (Asked path seq cells readers) v [] (sym (append-nil v.changes)) (session-rises path seq (λ s. record s { room = cells; readers = readers }) v (λ s there. (omega arith, λ left. left, refl, refl))) (same-readings v)
rises groups (Put path seq cell) v put =
    rise-of groups (Put path seq cell) v [] (sym (append-nil v.changes)) (session-rises path seq (λ s. record s { cells = s.cells ++ cell ∷ []; room = s.room - 1 }) v (λ s there. (omega arith, λ left. left, refl, refl))) (same-readings v)
rises groups (Published path seq bytes) v put =
    rise-of groups (Published path seq bytes) v [] (sym (append-nil v.changes)) (session-rises path seq (λ s. record s { shown = length s.cells; told = s.told + bytes }) v (λ s there. (put path seq s there, λ left. left, refl, refl))) (same-readings v)
rises groups (Joining path dest seq buf len) v put =
    rise-of groups (Joining path dest seq buf len) v [] (sym (append-nil v.changes)) (same-sessions v) (two-grown _ _ _ path dest _ v.readings (grown-pushed _ _ _ (v.readings path dest) (reading_new buf len)))
rises groups (Missed group path dest seq) v put = rise-same (floors_of groups v)
rises groups (Saw path dest seq cells bytes writer) v put =
    rise-of groups (Saw path dest seq cells bytes writer) v [] (sym (append-nil v.changes)) (same-sessions v) (reading-rises path dest seq (λ r. record r { seen = cells; bytes = bytes; writer = writer }) v (λ r. (omega arith, λ left. left)))
rises groups (Read path dest seq cell) v put =
    rise-of groups (Read path dest seq cell) v [] (sym (append-nil v.changes)) (same-sessions v) (reading-rises path dest seq (λ r. record r { cells = r.cells ++ cell ∷ [] }) v (λ r. (omega (arith, length-append r.cells (cell ∷ [])), λ left. left)))
rises groups (Closed path seq freed) v put =
    rise-of groups (Closed path seq freed) v freed refl (session-rises path seq (λ s. record s { stands = false }) v (λ s there. (omega arith, λ left. refl, refl, refl))) (same-readings v)
rises groups (Parted path dest seq freed) v put =
    rise-of groups (Parted path dest seq freed) v freed refl (same-sessions v) (reading-rises path dest seq (λ r. record r { stands = false }) v (λ r. (omega arith, λ left. refl)))

pub rise-grow : (groups : List (List ℕ)) (e : Event) (v w : View) → AreStreams v → w ≡ grow e v → Rise (floors_of groups v) (floors_of groups w)
rise-grow groups e v w streams grown = let P : View → Type 0 = λ x. Rise (floors_of groups v) (floors_of groups x) in subst P (sym grown) (rises groups e v (λ path seq s there. (streams.written path seq s there).shown))

-- a list has no item from its end on
pub past-end : {A : Type 0} (xs : List A) (k : ℕ) → slice_get xs k ≡ None → length xs ≤ k
past-end xs k none = elim (slice_get_cases xs k).1 [ inl there ↦ absurd (let some = there.2 in cc) | inr past ↦ past.0 ]

-- who hasn't left takes part, and its position is the cells that it read
pub stays-now : (found : Option Reading) → ((r : Reading) × (found ≡ Some r) × (r.stands ≡ false) → ⊥) → has_left (λ r. r.stands) found ≡ false
stays-now None stays = refl
stays-now (Some r) stays = stands r.stands refl
  where
    stands : (b : Bool) → r.stands ≡ b → (if b then false else true) ≡ false
    stands true is = refl
    stands false is = absurd (stays (r, refl, is))

position-is : (found : Option Reading) → number_in (λ r. length r.cells) found ≡ position found
position-is None = refl
position-is (Some r) = refl

-- an exact room is fresh at present floors, where it is no less than the writer's token tells and no more than its buffer
pub room-fresh : (groups : List (List ℕ)) (v : View) (t : Opened) (room : Room) → Writes v t → IsRoomOf v t.path.0 t.seq room → (t.room ≤ room.cells) × (room.cells ≤ t.cells) → IsFresh v (floors_of groups v) (Asked t.path.0 t.seq room.cells room.readers)
room-fresh groups v t room known is bounds = λ s there.
    let exact = is s there in
    let path : ℕ = t.path.0 in
    let seq : ℕ = t.seq in
    let it : known.session ≡ s = same_Some known.session s (sym known.known ∙ there) in
    record {
      kept = omega (arith, ap (λ (x : Session). x.room) it, known.says.room, bounds.0);
      most = omega (arith, ap (λ (x : Session). x.size) it, known.says.size, bounds.1);
      dests = omega (arith, exact.readers);
      room = λ least within have. elim (cases_lt 0 room.readers) [
        | inl some ↦
            let last = exact.least some in
            omega (arith, last.3, position-is (reading_at v path last.0 seq), have last.0 last.1 (stays-now (reading_at v path last.0 seq) last.2))
        | inr none ↦ omega (arith, exact.all (omega (arith, none)), within)
      ];
    }

-- over present floors a look that misses the session is exact
pub missed-exact : (groups : List (List ℕ)) (v : View) (group path dest seq : ℕ) → IsFresh v (floors_of groups v) (Missed group path dest seq) → IsNextOf v groups group path dest seq None
missed-exact groups v group path dest seq fresh s there its =
    ltb-false dest s.dests (sym (ap (λ (b : Bool). b && nat_lt dest s.dests) (eqb-true (group_of groups s.buf) group its)) ∙ sym (ap (is_for_in groups group dest) there) ∙ fresh)
  where
    eqb-true : (a b : ℕ) → a ≡ b → (a == b) ≡ true
    eqb-true a b same = elim (eqb_tells a b) [ inl at ↦ at.0 | inr other ↦ absurd (other.1 same) ]

-- and where no session of the group is for the destination, a look that misses it is fresh
pub missed-fresh : (groups : List (List ℕ)) (v : View) (group path dest seq : ℕ) → IsNextOf v groups group path dest seq None → IsFresh v (floors_of groups v) (Missed group path dest seq)
missed-fresh groups v group path dest seq none = found (session_at v path seq) none
  where
    found : (s : Option Session) → ((x : Session) → s ≡ Some x → group_of groups x.buf ≡ group → x.dests ≤ dest) → is_for_in groups group dest s ≡ false
    found None none = refl
    found (Some x) none = elim (eqb_tells (group_of groups x.buf) group) [
      | inl at ↦ ap (λ (b : Bool). b && nat_lt dest x.dests) at.0 ∙ le-ltb dest x.dests (none x refl at.1)
      | inr other ↦ ap (λ (b : Bool). b && nat_lt dest x.dests) other.0
    ]

-- and so is a look at what is published, where the views of all ports are streams
pub saw-exact : (groups : List (List ℕ)) (v : View) (path dest seq : ℕ) (seen : Seen) (r : Reading) → AreStreams (grow (Saw path dest seq seen.cells seen.bytes seen.writer) v) → reading_at v path dest seq ≡ Some r →
    IsFresh v (floors_of groups v) (Saw path dest seq seen.cells seen.bytes seen.writer) → IsSeenOf v path seq seen
unfolding grow
saw-exact groups v path dest seq seen r streams known fresh s there =
    let look : Reading → Reading = λ x. record x { seen = seen.cells; bytes = seen.bytes; writer = seen.writer } in
    let joined = streams.joined path dest seq (look r) (reading-changed path dest seq look r v (grow (Saw path dest seq seen.cells seen.bytes seen.writer) v) known refl) in
    let same : joined.0 ≡ s = let other = joined.1 in cc in
    let P : Session → Type 0 = λ x. IsStream x (look r) in
    let stream = subst P same joined.2 in
    let all : seen.cells ≡ s.shown = omega (arith, stream.seen, fresh.0, ap (number_in (λ (x : Session). x.shown)) there) in
    (all, stream.bytes ∙ ap (λ n. counted (take n s.cells)) all ∙ sym (streams.written path seq s there).told, stands seen.writer s.stands (λ gone. (stream.gone gone).0) (λ stood. sym (ap (has_left (λ (x : Session). x.stands)) there) ∙ fresh.1 stood))
  where
    stands : (writer now : Bool) → (writer ≡ false → now ≡ false) → (writer ≡ true → (if now then false else true) ≡ false) → writer ≡ now
    stands true true left stood = refl
    stands true false left stood = absurd (let no = stood refl in cc)
    stands false now left stood = sym (left refl)
