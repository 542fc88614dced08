-- How a view grows: what each event leaves as it is, and that a token stays known.
use Rattle.std.proofs.Common.{◌≡◌, ◌≢◌, ℕ, ◌+◌, ◌-◌, ◌<◌, ◌≤◌, zero, suc, Bool, false, List, [], ◌∷◌, ◌++◌, length, Some, refl, ap, sym, ◌∙◌, subst, arith, eq-eqb, length-append}
use Rattle.std.proofs.lemmas.Bool.{ne_eqb}
use Rattle.std.proofs.lemmas.List.{get_or_push}
use Rattle.std.proofs.lemmas.List.Sums.{sum_by_push}
use Rattle.std.proofs.lemmas.Option.{slice_get-get_or}
use Rattle.std.specs.Prelude.{slice_get}
use Rattle.gw_base.specs.Cell.{count_of}
use Rattle.gw_base.specs.declared.numbers.BufNo.{BufNo}
use Rattle.hub_core.specs.Calls.{SameParties, ByWriter, ByReader, ByEnd, left_of, freed_by}
use Rattle.hub_core.specs.Tokens.{Writes, Reads, SessionIs, ReadingIs, opened_new, joined_new, asked, put_one, published, saw, read_one, SameOpened, SameJoined}
use Rattle.hub_core.specs.View.{View, Change, Session, Reading, at_one, at_two, change_at, session_new, reading_new, session_at, reading_at, grow, grows, Event, Took, Refused, Entered, Asked, Put, Published, Joining, Missed, Saw, Read, Closed, Parted}
use Rattle.gw_base.specs.declared.numbers.DestNo.{DestNo}
use Rattle.gw_base.specs.declared.numbers.PathNo.{PathNo}
use Rattle.hub_core.specs.declared.port.Left.{Left}
use Rattle.hub_core.specs.declared.port.Room.{Room}
use Rattle.hub_core.specs.declared.token.End.{End}
use Rattle.hub_core.specs.declared.token.End.TheVariants.{Write, Read as ReadEnd}
use Rattle.hub_core.specs.declared.token.Held.{Held}
use Rattle.hub_core.specs.declared.port.Seen.{Seen}
use Rattle.hub_core.specs.declared.token.Joined.{Joined}
use Rattle.hub_core.specs.declared.token.Opened.{Opened}

pub at_one-same : {A : Type 0} (p : ℕ) (x : A) (f : ℕ → A) → at_one p x f p ≡ x
at_one-same p x f = rw (eq-eqb p p refl) refl

pub at_one-other : {A : Type 0} (p q : ℕ) (x : A) (f : ℕ → A) → q ≢ p → at_one p x f q ≡ f q
at_one-other p q x f other = rw (ne_eqb q p other) refl

pub length-change_at : {A : Type 0} (k : ℕ) (f : A → A) (xs : List A) → length (change_at k f xs) ≡ length xs
length-change_at k f [] = refl
length-change_at zero f (x ∷ xs) = refl
length-change_at (suc k) f (x ∷ xs) = ap suc (length-change_at k f xs)

pub slice_get-change_at : {A : Type 0} (k : ℕ) (f : A → A) (xs : List A) (x : A) → slice_get xs k ≡ Some x → slice_get (change_at k f xs) k ≡ Some (f x)
slice_get-change_at k f [] x is = cc
slice_get-change_at zero f (y ∷ xs) x is = cc
slice_get-change_at (suc k) f (y ∷ xs) x is = slice_get-change_at k f xs x is

-- a function of two numbers at the pair where it was changed, and elsewhere
pub at_two-same : {A : Type 0} (p d : ℕ) (x : A) (f : ℕ → ℕ → A) → at_two p d x f p d ≡ x
at_two-same {A = A} p d x f = ap (λ (g : ℕ → A). g d) (at_one-same p (at_one d x (f p)) f) ∙ at_one-same d x (f p)

at_two-beside : {A : Type 0} (p d e : ℕ) (x : A) (f : ℕ → ℕ → A) → e ≢ d → at_two p d x f p e ≡ f p e
at_two-beside {A = A} p d e x f other = ap (λ (g : ℕ → A). g e) (at_one-same p (at_one d x (f p)) f) ∙ at_one-other d e x (f p) other

-- a view grown by two lists of events, one after the other
pub grows-append : (events later : List Event) (v : View) → grows (events ++ later) v ≡ grows later (grows events v)
grows-append [] later v = refl
grows-append (event ∷ events) later v = grows-append events later (grow event v)

-- the list of one writer's sessions is another one; all else stays
pub by_writer : (path more : ℕ) (sessions : List Session) (v w : View) → w.readings ≡ v.readings → w.sessions ≡ at_one path sessions v.sessions →
    length sessions ≡ length (v.sessions path) + more → ByWriter path more v w
by_writer path more sessions v w readings grown number = record {
  readings = readings;
  number = ap (λ (s : ℕ → List Session). length (s path)) grown ∙ ap length (at_one-same path sessions v.sessions) ∙ number;
  others = λ other ne. ap (λ (s : ℕ → List Session). s other) grown ∙ at_one-other path other sessions v.sessions ne;
}

-- the list of one destination's readings is another one; all else stays
pub by_reader : (path dest more : ℕ) (readings : List Reading) (v w : View) → w.sessions ≡ v.sessions → w.readings ≡ at_two path dest readings v.readings →
    length readings ≡ length (v.readings path dest) + more → ByReader path dest more v w
by_reader path dest more readings v w sessions grown number = record {
  sessions = sessions;
  number = ap (λ (r : ℕ → ℕ → List Reading). length (r path dest)) grown ∙ ap length (at_two-same path dest readings v.readings) ∙ number;
  others_of = λ other ne. ap (λ (r : ℕ → ℕ → List Reading). r other) grown ∙ at_one-other path other (at_one dest readings (v.readings path)) v.readings ne;
  others = λ other ne. ap (λ (r : ℕ → ℕ → List Reading). r path other) grown ∙ at_two-beside path dest other readings v.readings ne;
}

-- a session that is changed is known as it is then
pub session-changed : (path seq : ℕ) (f : Session → Session) (session : Session) (v w : View) → session_at v path seq ≡ Some session →
    w.sessions ≡ at_one path (change_at seq f (v.sessions path)) v.sessions → session_at w path seq ≡ Some (f session)
session-changed path seq f session v w known grown =
    ap (λ (s : ℕ → List Session). slice_get (s path) seq) grown
    ∙ ap (λ (xs : List Session). slice_get xs seq) (at_one-same path (change_at seq f (v.sessions path)) v.sessions)
    ∙ slice_get-change_at seq f (v.sessions path) session known

-- a reading that is changed is known as it is then
pub reading-changed : (path dest seq : ℕ) (f : Reading → Reading) (reading : Reading) (v w : View) → reading_at v path dest seq ≡ Some reading →
    w.readings ≡ at_two path dest (change_at seq f (v.readings path dest)) v.readings → reading_at w path dest seq ≡ Some (f reading)
reading-changed path dest seq f reading v w known grown =
    ap (λ (r : ℕ → ℕ → List Reading). slice_get (r path dest) seq) grown
    ∙ ap (λ (xs : List Reading). slice_get xs seq) (at_two-same path dest (change_at seq f (v.readings path dest)) v.readings)
    ∙ slice_get-change_at seq f (v.readings path dest) reading known

-- a token of a path's writer stays known while the path's sessions stay
pub writes_kept : (v w : View) (t : Opened) → w.sessions t.path.0 ≡ v.sessions t.path.0 → Writes v t → Writes w t
writes_kept v w t same known = record { session = known.session; known = ap (λ (s : List Session). slice_get s t.seq) same ∙ known.known; says = known.says }

-- a token of a destination stays known while its readings stay
pub reads_kept : (v w : View) (t : Joined) → w.readings t.path.0 t.dest.0 ≡ v.readings t.path.0 t.dest.0 → Reads v t → Reads w t
reads_kept v w t same known = record { reading = known.reading; known = ap (λ (r : List Reading). slice_get r t.seq) same ∙ known.known; says = known.says }

-- the view of a writer's token after its call: the session is known as it is then
writes-changed : (f : Session → Session) (v w : View) (t u : Opened) (known : Writes v t) → u.path ≡ t.path → u.seq ≡ t.seq →
    w.sessions ≡ at_one t.path.0 (change_at t.seq f (v.sessions t.path.0)) v.sessions → SessionIs (f known.session) u → Writes w u
writes-changed f v w t u known path seq grown says = record {
  session = f known.session;
  known = rw (path, seq) (session-changed t.path.0 t.seq f known.session v w known.known grown);
  says = says;
}

-- the view of a destination's token after its call: the reading is known as it is then
reads-changed : (f : Reading → Reading) (v w : View) (t u : Joined) (known : Reads v t) → u.path ≡ t.path → u.dest ≡ t.dest → u.seq ≡ t.seq →
    w.readings ≡ at_two t.path.0 t.dest.0 (change_at t.seq f (v.readings t.path.0 t.dest.0)) v.readings → ReadingIs (f known.reading) u → Reads w u
reads-changed f v w t u known path dest seq grown says = record {
  reading = f known.reading;
  known = rw (path, dest, seq) (reading-changed t.path.0 t.dest.0 t.seq f known.reading v w known.known grown);
  says = says;
}

-- after a look at the positions
pub writes-asked : (v w : View) (t u : Opened) (room : Room) → Writes v t → t.room ≤ room.cells → room.cells ≤ t.cells →
    w ≡ grow (Asked t.path.0 t.seq room.cells room.readers) v → SameOpened u (asked room t) → Writes w u
unfolding grow
writes-asked v w t u room known least most grown is =
    writes-changed (λ s. record s { room = room.cells; readers = room.readers }) v w t u known is.path is.seq
    (ap (λ (x : View). x.sessions) grown) (grind (arith, known, is))

-- after one cell is put
pub writes-put : (v w : View) (t u : Opened) (cell : ℕ) → Writes v t → 0 < t.room → t.given + count_of cell ≤ t.len →
    w ≡ grow (Put t.path.0 t.seq cell) v → SameOpened u (put_one cell t) → Writes w u
unfolding grow
writes-put v w t u cell known room fits grown is =
    let count = length-append known.session.cells (cell ∷ []) in
    let given = sum_by_push count_of known.session.cells cell in
    writes-changed (λ s. record s { cells = s.cells ++ cell ∷ []; room = s.room - 1 }) v w t u known is.path is.seq
    (ap (λ (x : View). x.sessions) grown) (grind (arith, known, is, count, given))

-- after all that was put is published
pub writes-published : (v w : View) (t u : Opened) (bytes : ℕ) → Writes v t → t.told + bytes ≡ t.given →
    w ≡ grow (Published t.path.0 t.seq bytes) v → SameOpened u (published t) → Writes w u
unfolding grow
writes-published v w t u bytes known all grown is =
    writes-changed (λ s. record s { shown = length s.cells; told = s.told + bytes }) v w t u known is.path is.seq
    (ap (λ (x : View). x.sessions) grown) (grind (arith, known, is))

-- after a look at the count
pub reads-saw : (v w : View) (t u : Joined) (seen : Seen) → Reads v t → t.seen ≤ seen.cells →
    w ≡ grow (Saw t.path.0 t.dest.0 t.seq seen.cells seen.bytes seen.writer) v → SameJoined u (saw seen t) → Reads w u
unfolding grow
reads-saw v w t u seen known rises grown is =
    reads-changed (λ r. record r { seen = seen.cells; bytes = seen.bytes; writer = seen.writer }) v w t u known
    is.path is.dest is.seq (ap (λ (x : View). x.readings) grown) (grind (arith, known, is))

-- after one cell is read
pub reads-read : (v w : View) (t u : Joined) (cell : ℕ) → Reads v t → t.at < t.seen → t.taken + count_of cell ≤ t.len →
    w ≡ grow (Read t.path.0 t.dest.0 t.seq cell) v → SameJoined u (read_one cell t) → Reads w u
unfolding grow
reads-read v w t u cell known more fits grown is =
    let count = length-append known.reading.cells (cell ∷ []) in
    let taken = sum_by_push count_of known.reading.cells cell in
    reads-changed (λ r. record r { cells = r.cells ++ cell ∷ [] }) v w t u known is.path is.dest is.seq
    (ap (λ (x : View). x.readings) grown) (grind (arith, known, is, count, taken))

-- the frames of each event
by_changed-session : (path seq : ℕ) (f : Session → Session) (v w : View) → w.readings ≡ v.readings →
    w.sessions ≡ at_one path (change_at seq f (v.sessions path)) v.sessions → ByWriter path 0 v w
by_changed-session path seq f v w readings grown =
    by_writer path 0 (change_at seq f (v.sessions path)) v w readings grown (omega (arith, length-change_at seq f (v.sessions path)))

by_changed-reading : (path dest seq : ℕ) (f : Reading → Reading) (v w : View) → w.sessions ≡ v.sessions →
    w.readings ≡ at_two path dest (change_at seq f (v.readings path dest)) v.readings → ByReader path dest 0 v w
by_changed-reading path dest seq f v w sessions grown =
    by_reader path dest 0 (change_at seq f (v.readings path dest)) v w sessions grown (omega (arith, length-change_at seq f (v.readings path dest)))

pub by-took : (group number buf size need : ℕ) (v w : View) → w ≡ grow (Took group number buf size need) v → SameParties v w
unfolding grow
by-took group number buf size need v w grown = record { sessions = ap (λ (x : View). x.sessions) grown; readings = ap (λ (x : View). x.readings) grown }

pub by-refused : (group number free need : ℕ) (v w : View) → w ≡ grow (Refused group number free need) v → SameParties v w
unfolding grow
by-refused group number free need v w grown = record { sessions = ap (λ (x : View). x.sessions) grown; readings = ap (λ (x : View). x.readings) grown }

pub by-entered : (path seq buf number size len readers : ℕ) (v w : View) → w ≡ grow (Entered path seq buf number size len readers) v → ByWriter path 1 v w
unfolding grow
by-entered path seq buf number size len readers v w grown =
    by_writer path 1 (v.sessions path ++ session_new buf number size len readers ∷ []) v w (ap (λ (x : View). x.readings) grown) (ap (λ (x : View). x.sessions) grown) (length-append (v.sessions path) (session_new buf number size len readers ∷ []))

pub by-asked : (path seq cells readers : ℕ) (v w : View) → w ≡ grow (Asked path seq cells readers) v → ByWriter path 0 v w
unfolding grow
by-asked path seq cells readers v w grown =
    by_changed-session path seq (λ s. record s { room = cells; readers = readers }) v w (ap (λ (x : View). x.readings) grown) (ap (λ (x : View). x.sessions) grown)

pub by-put : (path seq cell : ℕ) (v w : View) → w ≡ grow (Put path seq cell) v → ByWriter path 0 v w
unfolding grow
by-put path seq cell v w grown =
    by_changed-session path seq (λ s. record s { cells = s.cells ++ cell ∷ []; room = s.room - 1 }) v w (ap (λ (x : View). x.readings) grown) (ap (λ (x : View). x.sessions) grown)

pub by-published : (path seq bytes : ℕ) (v w : View) → w ≡ grow (Published path seq bytes) v → ByWriter path 0 v w
unfolding grow
by-published path seq bytes v w grown =
    by_changed-session path seq (λ s. record s { shown = length s.cells; told = s.told + bytes }) v w (ap (λ (x : View). x.readings) grown) (ap (λ (x : View). x.sessions) grown)

pub by-closed : (path seq : ℕ) (freed : List Change) (v w : View) → w ≡ grow (Closed path seq freed) v → ByWriter path 0 v w
unfolding grow
by-closed path seq freed v w grown =
    by_changed-session path seq (λ s. record s { stands = false }) v w (ap (λ (x : View). x.readings) grown) (ap (λ (x : View). x.sessions) grown)

pub by-joining : (path dest seq buf len : ℕ) (v w : View) → w ≡ grow (Joining path dest seq buf len) v → ByReader path dest 1 v w
unfolding grow
by-joining path dest seq buf len v w grown =
    by_reader path dest 1 (v.readings path dest ++ reading_new buf len ∷ []) v w (ap (λ (x : View). x.sessions) grown) (ap (λ (x : View). x.readings) grown) (length-append (v.readings path dest) (reading_new buf len ∷ []))

pub by-missed : (group path dest seq : ℕ) (v w : View) → w ≡ grow (Missed group path dest seq) v → ByReader path dest 0 v w
unfolding grow
by-missed group path dest seq v w grown = record {
  sessions = ap (λ (x : View). x.sessions) grown;
  number = ap (λ (x : View). length (x.readings path dest)) grown ∙ omega arith;
  others_of = λ other ne. ap (λ (x : View). x.readings other) grown;
  others = λ other ne. ap (λ (x : View). x.readings path other) grown;
}

pub by-saw : (path dest seq cells bytes : ℕ) (writer : Bool) (v w : View) → w ≡ grow (Saw path dest seq cells bytes writer) v → ByReader path dest 0 v w
unfolding grow
by-saw path dest seq cells bytes writer v w grown =
    by_changed-reading path dest seq (λ r. record r { seen = cells; bytes = bytes; writer = writer }) v w (ap (λ (x : View). x.sessions) grown) (ap (λ (x : View). x.readings) grown)

pub by-read : (path dest seq cell : ℕ) (v w : View) → w ≡ grow (Read path dest seq cell) v → ByReader path dest 0 v w
unfolding grow
by-read path dest seq cell v w grown =
    by_changed-reading path dest seq (λ r. record r { cells = r.cells ++ cell ∷ [] }) v w (ap (λ (x : View). x.sessions) grown) (ap (λ (x : View). x.readings) grown)

pub by-parted : (path dest seq : ℕ) (freed : List Change) (v w : View) → w ≡ grow (Parted path dest seq freed) v → ByReader path dest 0 v w
unfolding grow
by-parted path dest seq freed v w grown =
    by_changed-reading path dest seq (λ r. record r { stands = false }) v w (ap (λ (x : View). x.sessions) grown) (ap (λ (x : View). x.readings) grown)

pub by-left : (end : End) (left : Left) (v w : View) → w ≡ grow (left_of end left) v → ByEnd end v w
by-left (Write t) left v w grown = by-closed t.path.0 t.seq (freed_by left) v w grown
by-left (ReadEnd t) left v w grown = by-parted t.path.0 t.dest.0 t.seq (freed_by left) v w grown

-- equal tokens are equal field by field
pub same-opened : (a b : Opened) → a ≡ b → SameOpened a b
same-opened a b is = subst (SameOpened a) is (grind arith)

pub same-joined : (a b : Joined) → a ≡ b → SameJoined a b
same-joined a b is = subst (SameJoined a) is (grind arith)

-- the item after a list's own
pub slice_get-pushed : {A : Type 0} (xs : List A) (x : A) (k : ℕ) → length xs ≡ k → slice_get (xs ++ x ∷ []) k ≡ Some x
slice_get-pushed xs x k at = slice_get-get_or (xs ++ x ∷ []) k x (omega (arith, at, length-append xs (x ∷ []))) ∙ ap Some (get_or_push xs x x k at)

-- a session that was entered is known
pub writes-entered : (held : Held) (path : PathNo) (seq len readers : ℕ) (v w : View) (t : Opened) → length (v.sessions path.0) ≡ seq →
    w ≡ grow (Entered path.0 seq held.buf.0 held.change held.cells len readers) v → t ≡ opened_new held path seq len readers → Writes w t
unfolding grow
writes-entered held path seq len readers v w t at grown is =
    let P : Opened → Type 0 = λ u. Writes w u in
    let new : Session = session_new held.buf.0 held.change held.cells len readers in
    subst P (sym is) (record {
      session = new;
      known = ap (λ (x : View). slice_get (x.sessions path.0) seq) grown ∙ ap (λ (l : List Session). slice_get l seq) (at_one-same path.0 (v.sessions path.0 ++ new ∷ []) v.sessions) ∙ slice_get-pushed (v.sessions path.0) new seq at;
      says = record { buf = refl; size = refl; len = refl; put = refl; given = refl; within = omega arith; told = refl; published = omega arith; room = refl; room_most = omega arith; room_least = omega arith; readers = refl; stands = refl };
    })

-- a session that was joined is known
pub reads-joining : (path : PathNo) (dest : DestNo) (seq : ℕ) (buf : BufNo) (len : ℕ) (v w : View) (t : Joined) → length (v.readings path.0 dest.0) ≡ seq →
    w ≡ grow (Joining path.0 dest.0 seq buf.0 len) v → t ≡ joined_new path dest seq buf len → Reads w t
unfolding grow
reads-joining path dest seq buf len v w t at grown is =
    let P : Joined → Type 0 = λ u. Reads w u in
    let new : Reading = reading_new buf.0 len in
    subst P (sym is) (record {
      reading = new;
      known = ap (λ (x : View). slice_get (x.readings path.0 dest.0) seq) grown ∙ ap (λ (l : List Reading). slice_get l seq) (at_two-same path.0 dest.0 (v.readings path.0 dest.0 ++ new ∷ []) v.readings) ∙ slice_get-pushed (v.readings path.0 dest.0) new seq at;
      says = record { buf = refl; len = refl; at = refl; taken = refl; within = omega arith; seen = refl; at_most = omega arith; stands = refl };
    })

-- and tokens with equal fields are equal
pub opened-is : (a b : Opened) → SameOpened a b → a ≡ b
opened-is a b is = λ i. record {
  path = is.path i;
  seq = is.seq i;
  buf = is.buf i;
  cells = is.cells i;
  len = is.len i;
  put = is.put i;
  given = is.given i;
  told = is.told i;
  room = is.room i;
  readers = is.readers i;
}
