-- What a plain hub answers is exact, and what it looks up is there.
use Rattle.std.proofs.Common.{◌≡◌, ◌≢◌, ℕ, ◌+◌, ◌-◌, ◌*◌, ◌<◌, ◌≤◌, ◌%◌, ◌⊎◌, inl, inr, zero, suc, Bool, true, false, List, [], ◌∷◌, ◌++◌, length, take, Option, Some, None, All, refl, ap, sym, ◌∙◌, subst, arith}
use Rattle.std.proofs.lemmas.Bool.{cases_lt, lt-ltb}
use Rattle.std.proofs.lemmas.List.{take-take}
use Rattle.std.proofs.lemmas.List.Sums.{sum_by_push, sum_by-take-le}
use Rattle.std.proofs.lemmas.Option.{same_Some, slice_get_within, slice_get_past, get_or_from_slice_get}
use Rattle.std.specs.Prelude.{nat_lt, if◌then◌else◌, slice_get, get_or}
use Rattle.gw_base.proofs.Lists.{there-at}
use Rattle.gw_base.specs.Cell.{IsCell, count_of, counted}
use Rattle.hub_core.proofs.Cut.{all-there}
use Rattle.hub_core.proofs.Positions.{stands-there}
use Rattle.hub_core.proofs.Ledger.{streams, roomy, unfreed, session-size, freed-or}
use Rattle.hub_core.proofs.Led.{led}
use Rattle.hub_core.proofs.Rows.{occupied, sighted}
use Rattle.hub_core.proofs.Shown.{reader-session, reader-stays, row-sight, row-position}
use Rattle.hub_core.specs.Alone.{IsRoomOf, IsNextOf, IsSeenOf}
use Rattle.hub_core.specs.Groups.{group_of, all_sizes}
use Rattle.hub_core.specs.Joint.{IsQuiet}
use Rattle.hub_core.specs.Floors.{IsFresh, floors_of, staying, has_left, number_in}
use Rattle.hub_core.specs.Joint.{Joint, HasLeft, IsOver, position}
use Rattle.hub_core.specs.Plain.{IsShown, session_in, sight_of, sight_in, standing, position_of, counts_one, readers_to, IsRoomTo, AreWithin, start_of}
use Rattle.hub_core.specs.Tokens.{Writes, Reads}
use Rattle.hub_core.specs.View.{View, Session, Reading, session_at, reading_at, Saw}
use Rattle.hub_core.specs.declared.place.Place.{Place}
use Rattle.hub_core.specs.declared.place.Place.TheVariants.{Occupied}
use Rattle.hub_core.specs.declared.place.Row.{Row}
use Rattle.pool_words.specs.declared.pool.Pool.{Pool}
use Rattle.hub_core.specs.declared.port.Room.{Room}
use Rattle.hub_core.specs.declared.token.Joined.{Joined}
use Rattle.hub_core.specs.declared.token.Opened.{Opened}

-- a longer front of cells counts no fewer bytes
counted-fronts : (cells : List ℕ) (low high : ℕ) → low ≤ high → counted (take low cells) ≤ counted (take high cells)
counted-fronts cells low high le = omega (arith, ap counted (take-take low high cells le), sum_by-take-le count_of (take high cells) low)

-- the place that the code reads
pub place-read : (places : List Place) (b path seq i : ℕ) (place : Place) → session_in (slice_get places b) ≡ Some (path, seq) → i ≡ b → place ≡ get_or places i place → (row : Row) × (place ≡ Occupied row) × (slice_get places b ≡ Some (Occupied row)) × (row.path ≡ path) × (row.seq ≡ seq)
place-read places b path seq i place key same read =
    let found = occupied (slice_get places b) path seq key in
    (found.0, read ∙ get_or_from_slice_get places i (Occupied found.0) place (ap (slice_get places) same ∙ found.1), found.1, found.2, found.3)

pub row-read : (places : List Place) (b path seq i : ℕ) (place : Place) (row : Row) → session_in (slice_get places b) ≡ Some (path, seq) → i ≡ b → place ≡ get_or places i place → place ≡ Occupied row →
    (slice_get places b ≡ Some (Occupied row)) × (row.path ≡ path) × (row.seq ≡ seq)
row-read places b path seq i place row key same read is =
    let found = place-read places b path seq i place key same read in
    let both : Occupied found.0 ≡ Occupied row = sym found.1 ∙ is in
    let it : found.0 ≡ row = cc in
    (found.2 ∙ ap (λ (r : Row). Some (Occupied r)) it, ap (λ (r : Row). r.path) (sym it) ∙ found.3, ap (λ (r : Row). r.seq) (sym it) ∙ found.4)

pub place-there : (places : List Place) (b path seq : ℕ) → session_in (slice_get places b) ≡ Some (path, seq) → b < length places
place-there places b path seq key = let found = occupied (slice_get places b) path seq key in slice_get_within places b (Occupied found.0) found.1

-- a word that is read
pub item-read : (xs : List ℕ) (i x item : ℕ) → slice_get xs i ≡ Some item → x ≡ get_or xs i x → x ≡ item
item-read xs i x item is read = read ∙ get_or_from_slice_get xs i item x is

-- cells that are counted are no fewer than the bytes that they have
pub cells-few : (cells : List ℕ) → All IsCell cells → length cells ≤ counted cells
cells-few [] all = omega arith
cells-few (cell ∷ cells) all =
    let rest = cells-few cells (Rattle.std.proofs.lemmas.List.Elements.All-tail IsCell cell cells all) in
    let one = (Rattle.std.proofs.lemmas.List.Elements.All-head IsCell cell cells all).some in
    omega (arith, rest, one, Rattle.std.proofs.lemmas.List.Sums.sum_by-cons count_of cell cells)

cell-at : (cells : List ℕ) (k cell : ℕ) → All IsCell cells → slice_get cells k ≡ Some cell → IsCell cell
cell-at cells k cell all is = all-there IsCell cells k cell all is

taken-more : (cells : List ℕ) (k cell : ℕ) → slice_get cells k ≡ Some cell → take (k + 1) cells ≡ take k cells ++ cell ∷ []
taken-more cells k cell is =
    Rattle.std.proofs.lemmas.List.take_more cells k cell (slice_get_within cells k cell is) ∙ ap (λ (c : ℕ). take k cells ++ c ∷ []) (get_or_from_slice_get cells k cell cell is)

module _ (groups : List (List ℕ)) (places : List Place) (words : List ℕ) (pools : List Pool) (takes : ℕ) (v : View) (shown : IsShown groups places words pools takes v) where
  -- the positions of the writer's destinations
  module _ (t : Opened) (row : Row) (known : Writes v t) (is : slice_get places t.buf.0 ≡ Some (Occupied row)) (path-is : row.path ≡ t.path.0) (seq-is : row.seq ≡ t.seq) where
    there : (dest : ℕ) → dest < 8 → slice_get row.positions dest ≡ Some (position_of (Some known.session) dest (reading_at v t.path.0 dest t.seq))
    there dest below = row-position groups places words pools takes v shown t.buf.0 t.path.0 t.seq dest row known.session is path-is seq-is known.known below

    few : known.session.dests ≤ 8
    few = shown.counts.dests t.path.0 t.seq known.session known.known

    -- who stands hasn't left
    stays : (dest at : ℕ) → dest < 8 → slice_get row.positions dest ≡ Some (Some at) → (dest < known.session.dests) × (HasLeft v t.path.0 dest t.seq → ⊥) × (at ≡ position (reading_at v t.path.0 dest t.seq))
    stays dest at below found =
        let its = stands-there known.session dest at (reading_at v t.path.0 dest t.seq) (same_Some (position_of (Some known.session) dest (reading_at v t.path.0 dest t.seq)) (Some at) (sym (there dest below) ∙ found)) in
        (its.0, λ gone. Rattle.std.proofs.Common.true≢false (sym (its.1 gone.0 gone.1) ∙ gone.2), its.2)

    -- who hasn't left stands
    stood : (dest : ℕ) → dest < known.session.dests → (HasLeft v t.path.0 dest t.seq → ⊥) → slice_get row.positions dest ≡ Some (Some (position (reading_at v t.path.0 dest t.seq)))
    stood dest below here =
        there dest (omega (arith, below, few)) ∙ ap (λ (b : Bool). Some (if b then standing (reading_at v t.path.0 dest t.seq) else None)) (lt-ltb dest known.session.dests below) ∙ ap Some (read-to (reading_at v t.path.0 dest t.seq) here)
      where
        read-to : (found : Option Reading) → ((r : Reading) × (found ≡ Some r) × (r.stands ≡ false) → ⊥) → standing found ≡ Some (position found)
        read-to None none = refl
        read-to (Some r) none = by-test r.stands refl
          where
            by-test : (b : Bool) → r.stands ≡ b → (if b then Some (length r.cells) else None) ≡ Some (length r.cells)
            by-test true e = refl
            by-test false e = absurd (none (r, refl, e))

    pub positions-within : AreWithin t.cells t.put row.positions
    positions-within dest at below found =
        let its = stays dest at below found in
        let room = roomy groups v shown.led t.path.0 t.seq known.session known.known dest its.0 its.1 in
        (before (reading_at v t.path.0 dest t.seq) refl its.2, omega (arith, room, its.2, known.says.put, known.says.size))
      where
        before : (found : Option Reading) → reading_at v t.path.0 dest t.seq ≡ found → at ≡ position (reading_at v t.path.0 dest t.seq) → at ≤ t.put
        before None e at-is = omega (arith, at-is, ap position e)
        before (Some r) e at-is =
            let joined = (streams groups v shown.led).joined t.path.0 dest t.seq r e in
            let it : joined.0 ≡ known.session = same_Some joined.0 known.session (sym joined.1 ∙ known.known) in
            let shown-most = ((streams groups v shown.led).written t.path.0 t.seq joined.0 joined.1).shown in
            omega (arith, at-is, ap position e, joined.2.read, joined.2.seen, shown-most, ap (λ (s : Session). length s.cells) it, known.says.put)

    counted-low : (n : ℕ) → n ≤ known.session.dests → readers_to row.positions n ≡ staying (λ d. has_left (λ r. r.stands) (reading_at v t.path.0 d t.seq)) n
    counted-low zero most = refl
    counted-low (suc n) most =
        let rest = counted-low n (omega (arith, most)) in
        let one = ap counts_one (there n (omega (arith, most, few))) ∙ ap (λ (b : Bool). counts_one (Some (if b then standing (reading_at v t.path.0 n t.seq) else None))) (lt-ltb n known.session.dests (omega (arith, most))) ∙ by-reading (reading_at v t.path.0 n t.seq) in
        omega (arith, rest, one)
      where
        by-reading : (found : Option Reading) → counts_one (Some (standing found)) ≡ (if has_left (λ r. r.stands) found then 0 else 1)
        by-reading None = refl
        by-reading (Some r) = by-test r.stands
          where
            by-test : (b : Bool) → counts_one (Some (if b then Some (length r.cells) else None)) ≡ (if (if b then false else true) then 0 else 1)
            by-test true = refl
            by-test false = refl

    counted-high : (more : ℕ) → more + known.session.dests ≤ 8 → readers_to row.positions (more + known.session.dests) ≡ readers_to row.positions known.session.dests
    counted-high zero most = ap (readers_to row.positions) (let same : 0 + known.session.dests ≡ known.session.dests = omega arith in same)
    counted-high (suc more) most =
        let rest = counted-high more (omega (arith, most)) in
        let step : suc more + known.session.dests ≡ suc (more + known.session.dests) = omega arith in
        let one = ap counts_one (there (more + known.session.dests) (omega (arith, most))) ∙ ap (λ (b : Bool). counts_one (Some (if b then standing (reading_at v t.path.0 (more + known.session.dests) t.seq) else None))) (Rattle.std.proofs.lemmas.Bool.le-ltb (more + known.session.dests) known.session.dests (omega arith)) in
        ap (readers_to row.positions) step ∙ omega (arith, rest, one)

    pub room-exact : (room : Room) → IsRoomTo t.cells t.put row.positions 8 room → IsRoomOf v t.path.0 t.seq room
    room-exact room left s at =
        let it : known.session ≡ s = same_Some known.session s (sym known.known ∙ at) in
        subst (λ (x : Session). Rattle.hub_core.specs.Alone.IsRoomBeside v t.path.0 t.seq x room) it (record {
          readers = left.readers ∙ all-counted ∙ counted-low known.session.dests (omega arith);
          all = λ none. left.all none ∙ sym known.says.size;
          each = λ dest below here. let h = left.each dest (position (reading_at v t.path.0 dest t.seq)) (omega (arith, below, few)) (stood dest below here) in omega (arith, h, known.says.put, known.says.size);
          least = λ some.
              let one = left.least some in
              let its = stays one.0 one.1 one.2 one.3 in
              (one.0, its.0, its.1, omega (arith, one.4, its.2, known.says.put, known.says.size));
        })
      where
        all-counted : readers_to row.positions 8 ≡ readers_to row.positions known.session.dests
        all-counted = let split : 8 - known.session.dests + known.session.dests ≡ 8 = omega (arith, few) in ap (readers_to row.positions) (sym split) ∙ counted-high (8 - known.session.dests) (omega (arith, split))

    pub room-bounds : (room : Room) → IsRoomTo t.cells t.put row.positions 8 room → (t.room ≤ room.cells) × (room.cells ≤ t.cells)
    room-bounds room left = (
      elim (cases_lt 0 room.readers) [
        | inl some ↦
            let one = left.least some in
            let its = stays one.0 one.1 one.2 one.3 in
            let h = roomy groups v shown.led t.path.0 t.seq known.session known.known one.0 its.0 its.1 in
            omega (arith, h, one.4, its.2, known.says.put, known.says.size, known.says.room)
        | inr none ↦ (let all = left.all (omega (arith, none)) in omega (arith, all, known.says.room_most))
      ],
      left.most,
    )

  -- the session that a destination reads
  module _ (t : Joined) (row : Row) (known : Reads v t) (is : slice_get places t.buf.0 ≡ Some (Occupied row)) (path-is : row.path ≡ t.path.0) (seq-is : row.seq ≡ t.seq) where
    pub seen-exact : IsSeenOf v t.path.0 t.seq (record { cells = row.shown; bytes = row.told; writer = row.writes })
    seen-exact s at =
        let sight = row-sight groups places words pools takes v shown t.buf.0 t.path.0 t.seq row s is path-is seq-is at in
        (sym (ap (λ (x : ℕ × ℕ × ℕ × ℕ × Bool). x.2) sight), sym (ap (λ (x : ℕ × ℕ × ℕ × ℕ × Bool). x.3) sight), sym (ap (λ (x : ℕ × ℕ × ℕ × ℕ × Bool). x.4) sight))

    pub seen-rises : t.seen ≤ row.shown
    seen-rises =
        let its = reader-session groups places words pools takes v shown t known in
        omega (arith, known.says.seen, its.2.seen, (seen-exact its.0 its.1).0)

    pub seen-fresh : IsFresh v (floors_of groups v) (Saw t.path.0 t.dest.0 t.seq row.shown row.told row.writes)
    seen-fresh =
        let its = reader-session groups places words pools takes v shown t known in
        let exact = seen-exact its.0 its.1 in
        let written = (streams groups v shown.led).written t.path.0 t.seq its.0 its.1 in (
          omega (arith, ap (number_in (λ (s : Session). s.shown)) its.1, exact.0),
          λ stood. ap (has_left (λ (s : Session). s.stands)) its.1 ∙ ap (λ (b : Bool). if b then false else true) (sym exact.2 ∙ stood),
          record {
            reading = known.reading;
            there = known.known;
            cells_most = omega (arith, its.2.seen, exact.0);
            bytes_most = omega (arith, its.2.bytes, written.told, exact.1, counted-fronts its.0.cells known.reading.seen its.0.shown its.2.seen);
          },
        )

  -- the cell that a destination reads next
  module _ (t : Joined) (known : Reads v t) (more : t.at < t.seen) where
    pub next-cell : (cell : ℕ) × (slice_get (reader-session groups places words pools takes v shown t known).0.cells t.at ≡ Some cell)
    next-cell =
        let its = reader-session groups places words pools takes v shown t known in
        let written = (streams groups v shown.led).written t.path.0 t.seq its.0 its.1 in
        there-at its.0.cells t.at (omega (arith, more, known.says.seen, its.2.seen, written.shown))

    pub reader-size : (size : ℕ) × (slice_get (all_sizes groups) t.buf.0 ≡ Some size) × (size ≡ (reader-session groups places words pools takes v shown t known).0.size)
    reader-size =
        let its = reader-session groups places words pools takes v shown t known in
        (its.0.size, ap (slice_get (all_sizes groups)) (sym known.says.buf ∙ its.2.buf) ∙ session-size groups v shown.led t.path.0 t.seq its.0 its.1, refl)

    pub word-there : slice_get words (start_of (all_sizes groups) t.buf.0 + t.at % (reader-session groups places words pools takes v shown t known).0.size) ≡ Some next-cell.0
    word-there =
        let its = reader-session groups places words pools takes v shown t known in
        let ring = its.2.ring known.says.stands in
        ap (λ (b : ℕ). slice_get words (start_of (all_sizes groups) b + t.at % its.0.size)) (sym known.says.buf ∙ its.2.buf)
        ∙ shown.words_show.ring t.path.0 t.seq t.at next-cell.0 its.0 its.1 (unfreed groups v shown.led t.path.0 t.seq its.0 its.1 (reader-stays groups places words pools takes v shown t known its.0 its.3)) next-cell.1
        (omega (arith, ring, known.says.at))

    -- the word that is read is the session's next cell, which its unit has
    pub read-next : (word : ℕ) → word ≡ next-cell.0 → (s : Session) → session_at v t.path.0 t.seq ≡ Some s → slice_get s.cells t.at ≡ Some word
    read-next word is s at =
        let its = reader-session groups places words pools takes v shown t known in
        let it : its.0 ≡ s = same_Some its.0 s (sym its.1 ∙ at) in
        ap (λ (x : Session). slice_get x.cells t.at) (sym it) ∙ next-cell.1 ∙ ap Some (sym is)

    pub read-cell : (word : ℕ) → word ≡ next-cell.0 → IsCell word
    read-cell word is =
        let its = reader-session groups places words pools takes v shown t known in
        subst IsCell (sym is) (cell-at its.0.cells t.at next-cell.0 (shown.words_show.cells t.path.0 t.seq its.0 its.1) next-cell.1)

    pub read-within : (word : ℕ) → word ≡ next-cell.0 → t.taken + count_of word ≤ t.len
    read-within word is =
        let its = reader-session groups places words pools takes v shown t known in
        let written = (streams groups v shown.led).written t.path.0 t.seq its.0 its.1 in
        let prefix : known.reading.cells ≡ take t.at its.0.cells = its.2.prefix ∙ ap (λ (n : ℕ). take n its.0.cells) known.says.at in
        let longer = ap counted (taken-more its.0.cells t.at next-cell.0 next-cell.1) ∙ sum_by_push count_of (take t.at its.0.cells) next-cell.0 in
        omega (arith, longer, ap counted prefix, known.says.taken, known.says.len, its.2.len, written.within, sum_by-take-le count_of its.0.cells (t.at + 1), ap count_of is)

  -- no session is for the destination, where no place has the next one
  unread : (path dest seq : ℕ) (s : Session) → length (v.readings path dest) ≡ seq → dest < s.dests → IsOver v path seq s → ⊥
  unread path dest seq s next below over =
      let gone = over.dests dest below in
      let none : None ≡ Some gone.0 = sym (slice_get_past (v.readings path dest) seq (omega (arith, next))) ∙ gone.1 in
      absurd cc

  pub next-none : (group path dest seq : ℕ) → length (v.readings path dest) ≡ seq → ((buf : ℕ) → group_of groups buf ≡ group → buf < length places → session_in (slice_get places buf) ≡ Some (path, seq) → ⊥) →
      IsNextOf v groups group path dest seq None
  next-none group path dest seq next none s at its = elim (cases_lt dest s.dests) [
    | inl below ↦ absurd (
        let key = shown.places_show.sessions path seq s at (unfreed groups v shown.led path seq s at (unread path dest seq s next below)) in
        none s.buf its (place-there places s.buf path seq key) key)
    | inr past ↦ past
  ]

  -- the session in a place that is found
  module _ (path dest seq buf : ℕ) (row : Row) (next : length (v.readings path dest) ≡ seq) (few : dest < 8) (is : slice_get places buf ≡ Some (Occupied row)) (path-is : row.path ≡ path) (seq-is : row.seq ≡ seq) where
    pub found : (s : Session) × (session_at v path seq ≡ Some s) × (sight_of s ≡ sight_in buf row)
    found =
        let its = sighted (session_at v row.path row.seq) buf row (shown.places_show.rows buf row is).session in
        (its.0, ap (λ (x : ℕ × ℕ). session_at v x.0 x.1) (λ i. (sym path-is i, sym seq-is i)) ∙ its.1, its.2)

    at-first : slice_get row.positions dest ≡ Some (if nat_lt dest found.0.dests then Some 0 else None)
    at-first =
        row-position groups places words pools takes v shown buf path seq dest row found.0 is path-is seq-is found.1 few
        ∙ ap (λ (o : Option Reading). Some (position_of (Some found.0) dest o)) (slice_get_past (v.readings path dest) seq (omega (arith, next)))

    pub next-apart : (group : ℕ) → (slice_get row.positions dest ≡ Some (Some 0) → ⊥) → IsNextOf v groups group path dest seq None
    next-apart group none s at its = elim (cases_lt dest s.dests) [
      | inl below ↦ absurd (
          let it : found.0 ≡ s = same_Some found.0 s (sym found.1 ∙ at) in
          let low : dest < found.0.dests = omega (arith, below, ap (λ (x : Session). x.dests) it) in
          none (at-first ∙ ap (λ (b : Bool). Some (if b then Some 0 else None)) (lt-ltb dest found.0.dests low)))
      | inr past ↦ past
    ]

    pub next-for : (at : ℕ) → slice_get row.positions dest ≡ Some (Some at) → dest < found.0.dests
    next-for at some = by-test (nat_lt dest found.0.dests) refl (sym at-first ∙ some)
      where
        by-test : (b : Bool) → nat_lt dest found.0.dests ≡ b → Some (if b then Some 0 else None) ≡ Some (Some at) → dest < found.0.dests
        by-test true e both = Rattle.std.proofs.lemmas.Bool.ltb-true dest found.0.dests e
        by-test false e both = absurd cc

  -- at every moment the view is joint
  quiet : IsQuiet groups v
  quiet path seq s at over = freed-or groups v shown.led path seq s at (λ not.
      let key = shown.places_show.sessions path seq s at not in
      let place = occupied (slice_get places s.buf) path seq key in
      shown.places_show.party s.buf place.0 s place.1 (ap (λ (x : ℕ × ℕ). session_at v x.0 x.1) (λ i. (place.2 i, place.3 i)) ∙ at) (subst (λ (x : ℕ × ℕ). IsOver v x.0 x.1 s) (λ i. (sym place.2 i, sym place.3 i)) over))

  pub joint-now : Joint groups v
  joint-now = led groups v shown.led quiet
