-- What a plain hub keeps, named by the hub, and where its parties' places are.
use Rattle.std.proofs.Common.{◌≡◌, ℕ, ◌+◌, ◌-◌, ◌^◌, ◌%◌, ◌<◌, ◌≤◌, List, length, Option, Some, None, refl, ap, sym, ◌∙◌, subst, arith, length-set}
use Rattle.std.specs.Prelude.{slice_set, slice_get, get_or, sum, IsBitSet}
use Rattle.std.proofs.lemmas.Option.{get_or_from_slice_get, slice_get_within}
use Rattle.std.specs.Vec.{vec_len}
use Rattle.hub_core.proofs.Fresh.{rise-grow, missed-exact, past-end}
use Rattle.hub_core.proofs.Growing.{by-missed}
use Rattle.hub_core.proofs.HubGroups.{hub-sizes, hub-few, hub-groups, session-there}
use Rattle.hub_core.proofs.Ledger.{streams, session-size, session-clear, unfreed}
use Rattle.hub_core.proofs.Looks.{reader-size, next-cell, word-there, joint-now, place-read, row-read, place-there}
use Rattle.hub_core.proofs.Shown.{writer-place, writer-stays, reader-place, reader-session, reader-stays}
use Rattle.hub_core.proofs.Starts.{size-some, in-words, few-words}
use Rattle.hub_core.specs.Calls.{SameMeans, TakeUsed, CellUsed, ByReader, path_of, seq_of, buf_of}
use Rattle.hub_core.specs.Floors.{Rise, IsFresh, floors_of}
use Rattle.hub_core.specs.Groups.{all_sizes, group_of, place_of, free_in}
use Rattle.hub_core.specs.HubPort.{groups_of}
use Rattle.hub_core.specs.Joint.{Joint}
use Rattle.hub_core.specs.Past.{view_after}
use Rattle.hub_core.specs.Plain.{AreLaid, port_of, session_in, start_of}
use Rattle.hub_core.specs.Stays.{Stays}
use Rattle.hub_core.specs.Tokens.{Writes, Reads, TakesPart}
use Rattle.hub_core.specs.View.{View, Session, Event, Missed, session_at, grow}
use Rattle.hub_core.specs.declared.place.Place.{Place}
use Rattle.hub_core.specs.declared.place.Place.TheVariants.{Occupied}
use Rattle.hub_core.specs.declared.place.Row.{Row}
use Rattle.hub_core.specs.declared.plain.PlainHub.{PlainHub}
use Rattle.hub_core.specs.declared.token.End.{End}
use Rattle.hub_core.specs.declared.token.End.TheVariants.{Write, Read}
use Rattle.hub_core.specs.declared.token.Joined.{Joined}
use Rattle.hub_core.specs.declared.token.Opened.{Opened}

-- a place or a word is set
pub laid-place : (counts sizes starts words : List ℕ) (places : List Place) (at : ℕ) (place : Place) → AreLaid counts sizes starts words places → AreLaid counts sizes starts words (slice_set places at place)
laid-place counts sizes starts words places at place laid = record {
  groups = laid.groups;
  buffers = laid.buffers;
  all = laid.all;
  each = laid.each;
  begin = laid.begin;
  words_are = laid.words_are;
  places_are = length-set places at place ∙ laid.places_are;
}

pub laid-word : (counts sizes starts words : List ℕ) (places : List Place) (at word : ℕ) → AreLaid counts sizes starts words places → AreLaid counts sizes starts (slice_set words at word) places
laid-word counts sizes starts words places at word laid = record {
  groups = laid.groups;
  buffers = laid.buffers;
  all = laid.all;
  each = laid.each;
  begin = laid.begin;
  words_are = length-set words at word ∙ laid.words_are;
  places_are = laid.places_are;
}

module _ (hub : PlainHub) where
  abbrev v : View
  v = view_after hub.past.seat.me.0.deeds

  abbrev groups : List (List ℕ)
  groups = groups_of hub

  -- the view is joint at every moment
  pub hub-joint : Joint groups v
  hub-joint = joint-now (groups_of hub) hub.places.items hub.words.items hub.pools.items hub.takes v hub.shown

  -- no call lowers the floors
  pub hub-rises : (event : Event) (w : View) → w ≡ grow event v → Rise (floors_of groups v) (floors_of groups w)
  hub-rises event w grown = rise-grow groups event v w (streams (groups_of hub) v hub.shown.led) grown

  -- what a call leaves as it is, and what a take does
  pub stays-same : {By : View → View → Type 0} (event : Event) (w : View) → w ≡ grow event v → By v w → Stays By SameMeans (port_of groups hub.takes v) (port_of groups hub.takes w)
  stays-same event w grown by = record {
    by = by;
    means = record { pool = record { groups = refl; writes = refl; reads = refl; most = refl }; takes = refl; spare = omega arith };
    rise = hub-rises event w grown;
    home = refl;
  }

  pub stays-missed : (group path dest seq : ℕ) → Stays (ByReader path dest 0) SameMeans (port_of groups hub.takes v) (port_of groups hub.takes v)
  unfolding grow
  stays-missed group path dest seq = stays-same (Missed group path dest seq) v refl (by-missed group path dest seq v v refl)

  pub stays-took : {By : View → View → Type 0} (event : Event) (w : View) → w ≡ grow event v → By v w → Stays By TakeUsed (port_of groups hub.takes v) (port_of groups (hub.takes - 1) w)
  stays-took event w grown by = record {
    by = by;
    means = record { pool = record { groups = refl; writes = refl; reads = refl; most = refl }; takes = omega arith; spare = omega arith };
    rise = hub-rises event w grown;
    home = refl;
  }

  pub stays-put : {By : View → View → Type 0} (event : Event) (w : View) → w ≡ grow event v → By v w → Stays By CellUsed (port_of groups hub.takes v) (port_of groups hub.takes w)
  stays-put event w grown by = record {
    by = by;
    means = record { pool = record { groups = refl; writes = refl; reads = refl; most = refl }; takes = refl; spare = omega arith };
    rise = hub-rises event w grown;
    home = refl;
  }

  -- the place of a party's session
  pub party-place : (end : End) → TakesPart v end → session_in (slice_get hub.places.items (buf_of end)) ≡ Some (path_of end, seq_of end)
  party-place (Write t) known = writer-place (groups_of hub) hub.places.items hub.words.items hub.pools.items hub.takes v hub.shown t known
  party-place (Read t) known = reader-place (groups_of hub) hub.places.items hub.words.items hub.pools.items hub.takes v hub.shown t known

  pub party-at : (end : End) (i : ℕ) → TakesPart v end → i ≡ buf_of end → i < vec_len hub.places
  party-at end i known same = omega (arith, same, place-there hub.places.items (buf_of end) (path_of end) (seq_of end) (party-place end known), hub.places.ok.0)

  pub party-there : (end : End) (i : ℕ) (place : Place) → TakesPart v end → i ≡ buf_of end → place ≡ get_or hub.places.items i place → ((row : Row) → place ≡ Occupied row → ⊥) → ⊥
  party-there end i place known same read not = let found = place-read hub.places.items (buf_of end) (path_of end) (seq_of end) i place (party-place end known) same read in not found.0 found.1

  pub party-row : (end : End) (i : ℕ) (place : Place) (row : Row) → TakesPart v end → i ≡ buf_of end → place ≡ get_or hub.places.items i place → place ≡ Occupied row →
      (slice_get hub.places.items (buf_of end) ≡ Some (Occupied row)) × (row.path ≡ path_of end) × (row.seq ≡ seq_of end)
  party-row end i place row known same read is = row-read hub.places.items (buf_of end) (path_of end) (seq_of end) i place row (party-place end known) same read is

  -- where a buffer's ring begins, and how many cells a writer's buffer has
  pub start-read : (buf size i start : ℕ) → slice_get hub.sizes.items buf ≡ Some size → i ≡ buf → start ≡ get_or hub.starts.items i start → start ≡ start_of hub.sizes.items buf
  start-read buf size i start is same read =
      read ∙ get_or_from_slice_get hub.starts.items i (start_of hub.sizes.items buf) start (ap (slice_get hub.starts.items) same ∙ hub.laid.begin buf (slice_get_within hub.sizes.items buf size is))

  pub start-at : (buf size i : ℕ) → slice_get hub.sizes.items buf ≡ Some size → i ≡ buf → i < vec_len hub.starts
  start-at buf size i is same = omega (arith, same, slice_get_within hub.starts.items buf _ (hub.laid.begin buf (slice_get_within hub.sizes.items buf size is)), hub.starts.ok.0)

  pub word-at : (buf size k start : ℕ) → slice_get hub.sizes.items buf ≡ Some size → start ≡ start_of hub.sizes.items buf → (start + k % size < vec_len hub.words) × (start + k % size < 2 ^ 32)
  word-at buf size k start is begin =
      let low = in-words hub.sizes.items hub.words.items buf size k hub.laid.words_are hub.laid.each is in
      let few = few-words hub.sizes.items (hub-few hub) hub.laid.each in
      (omega (arith, begin, low, hub.words.ok.0), omega (arith, begin, low, few, hub.laid.words_are))

  pub writer-size : (t : Opened) → Writes v t → slice_get hub.sizes.items t.buf.0 ≡ Some t.cells
  writer-size t known =
      ap (λ (l : List ℕ). slice_get l t.buf.0) (sym (hub-sizes hub)) ∙ ap (slice_get (all_sizes groups)) (sym known.says.buf)
      ∙ session-size groups v hub.shown.led t.path.0 t.seq known.session known.known ∙ ap Some known.says.size

  -- where the writer's next cell is put
  pub writer-start : (t : Opened) (i start : ℕ) → Writes v t → i ≡ t.buf.0 → start ≡ get_or hub.starts.items i start → start ≡ start_of hub.sizes.items t.buf.0
  writer-start t i start known same read = start-read t.buf.0 t.cells i start (writer-size t known) same read

  -- where a destination's next cell is read
  pub size-read : (buf size i read : ℕ) → slice_get hub.sizes.items buf ≡ Some size → i ≡ buf → read ≡ get_or hub.sizes.items i read → read ≡ size
  size-read buf size i read is same got = got ∙ get_or_from_slice_get hub.sizes.items i size read (ap (slice_get hub.sizes.items) same ∙ is)

  pub size-at : (buf size i : ℕ) → slice_get hub.sizes.items buf ≡ Some size → i ≡ buf → i < vec_len hub.sizes
  size-at buf size i is same = omega (arith, same, slice_get_within hub.sizes.items buf size is, hub.sizes.ok.0)

  pub size-above : (buf size : ℕ) → slice_get hub.sizes.items buf ≡ Some size → 0 < size
  size-above buf size is = let some = (size-some hub.sizes.items buf size hub.laid.each is).0 in omega (arith, some)

  pub word-read : (t : Joined) (i start size word : ℕ) (known : Reads v t) (more : t.at < t.seen) → i ≡ t.buf.0 → start ≡ get_or hub.starts.items i start → size ≡ get_or hub.sizes.items i size → word ≡ get_or hub.words.items (start + t.at % size) word →
      word ≡ (next-cell (groups_of hub) hub.places.items hub.words.items hub.pools.items hub.takes v hub.shown t known more).0
  word-read t i start size word known more same begin cells read =
      let its = reader-size (groups_of hub) hub.places.items hub.words.items hub.pools.items hub.takes v hub.shown t known more in
      let has = ap (λ (l : List ℕ). slice_get l t.buf.0) (sym (hub-sizes hub)) ∙ its.1 in
      let start-is = start-read t.buf.0 its.0 i start has same begin ∙ ap (λ (l : List ℕ). start_of l t.buf.0) (sym (hub-sizes hub)) in
      let size-is = size-read t.buf.0 its.0 i size has same cells ∙ its.2 in
      read ∙ get_or_from_slice_get hub.words.items (start + t.at % size) _ word
      (ap (λ (x : ℕ × ℕ). slice_get hub.words.items (x.0 + t.at % x.1)) (λ j. (start-is j, size-is j)) ∙ word-there (groups_of hub) hub.places.items hub.words.items hub.pools.items hub.takes v hub.shown t known more)

  -- how many cells a destination's buffer has
  pub joined-size : (t : Joined) (known : Reads v t) → t.at < t.seen → (size : ℕ) × (slice_get hub.sizes.items t.buf.0 ≡ Some size)
  joined-size t known more =
      let its = reader-size (groups_of hub) hub.places.items hub.words.items hub.pools.items hub.takes v hub.shown t known more in
      (its.0, ap (λ (l : List ℕ). slice_get l t.buf.0) (sym (hub-sizes hub)) ∙ its.1)

  pub party-below : (end : End) (i : ℕ) → TakesPart v end → i ≡ buf_of end → i < sum hub.counts.items
  party-below end i known same = omega (arith, same, place-there hub.places.items (buf_of end) (path_of end) (seq_of end) (party-place end known), hub.laid.places_are, hub.laid.all)

  -- the buffer of a party's session isn't free
  pub party-clear : (end : End) → TakesPart v end → IsBitSet (free_in groups (group_of groups (buf_of end)) v) (place_of groups (buf_of end)) → ⊥
  party-clear (Write t) known set =
      session-clear (groups_of hub) v hub.shown.led t.path.0 t.seq known.session known.known
      (unfreed (groups_of hub) v hub.shown.led t.path.0 t.seq known.session known.known (writer-stays (groups_of hub) hub.places.items hub.words.items hub.pools.items hub.takes v hub.shown t known))
      (subst (λ (b : ℕ). IsBitSet (free_in groups (group_of groups b) v) (place_of groups b)) (sym known.says.buf) set)
  party-clear (Read t) known set =
      let its = reader-session (groups_of hub) hub.places.items hub.words.items hub.pools.items hub.takes v hub.shown t known in
      session-clear (groups_of hub) v hub.shown.led t.path.0 t.seq its.0 its.1
      (unfreed (groups_of hub) v hub.shown.led t.path.0 t.seq its.0 its.1 (reader-stays (groups_of hub) hub.places.items hub.words.items hub.pools.items hub.takes v hub.shown t known its.0 its.3))
      (subst (λ (b : ℕ). IsBitSet (free_in groups (group_of groups b) v) (place_of groups b)) (sym known.says.buf ∙ its.2.buf) set)

  -- where the hub has one group and the first destination of a path misses a session, all of the path's sessions have lower numbers
  pub none-missed : (path seq : ℕ) → length groups ≡ 1 → IsFresh v (floors_of groups v) (Missed 0 path 0 seq) → length (v.sessions path) ≤ seq
  none-missed path seq one fresh = past-end (v.sessions path) seq (nothing (session_at v path seq) refl)
    where
      nothing : (found : Option Session) → session_at v path seq ≡ found → found ≡ None
      nothing None is = refl
      nothing (Some s) is = absurd (
          let first : group_of groups s.buf ≡ 0 = omega (arith, (session-there hub path seq s is).group, one, (hub-groups hub)) in
          omega (arith, hub.shown.counts.some path seq s is, missed-exact groups v 0 path 0 seq fresh s is first))

-- the same, as a gateway asks it
pub is-joint : (hub : PlainHub) → Joint (groups_of hub) (view_after hub.past.seat.me.0.deeds)
is-joint hub = hub-joint hub
