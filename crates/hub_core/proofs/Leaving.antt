-- The plain hub after a party left: others take part, or its buffer is free.
use Rattle.std.proofs.Common.{◌≡◌, ◌≢◌, ℕ, ◌+◌, ◌<◌, inl, inr, Bool, true, false, List, [], ◌∷◌, ◌++◌, length, Some, None, refl, ap, sym, ◌∙◌, subst, arith, append-nil}
use Rattle.std.proofs.lemmas.Bool.{lt-ltb}
use Rattle.std.proofs.lemmas.Option.{same_Some, slice_get_within}
use Rattle.std.specs.Prelude.{◌||◌, nat_lt, if◌then◌else◌, slice_get, slice_set}
use Rattle.hub_core.proofs.Freeing.{led-last, pool_freed, freed-call}
use Rattle.hub_core.proofs.Growing.{session-changed, reading-changed, by-closed}
use Rattle.hub_core.proofs.Ledger.{led-closed, led-parted}
use Rattle.hub_core.proofs.Led.{closed-may, parted-may}
use Rattle.hub_core.proofs.Kept.{SameTake, same-take, reading-now}
use Rattle.hub_core.proofs.Positions.{not-over, is-over}
use Rattle.hub_core.proofs.Rows.{set-here, set-else, freed-on, only-session, only-reading, swapped, row-on-session, row-on-reading, kept-session, kept-sessions, words-on, lengths-by}
use Rattle.hub_core.proofs.Shown.{session-call, reading-call, writer-stays, reader-session, reader-stays, row-sight, row-position}
use Rattle.gw_base.specs.declared.numbers.BufNo.{BufNo}
use Rattle.hub_core.specs.Calls.{path_of, seq_of, buf_of, freed_by, left_of}
use Rattle.hub_core.specs.Core.{MayDo}
use Rattle.hub_core.specs.Joint.{IsFreed}
use Rattle.hub_core.specs.Groups.{group_of, changes_in}
use Rattle.hub_core.specs.Joint.{HasLeft, IsOver, position}
use Rattle.hub_core.specs.Plain.{IsShown, sight_of, sight_in, position_of, readers_to, IsRowOf, IsEndOf, left_by}
use Rattle.hub_core.specs.Tokens.{Writes, Reads, TakesPart}
use Rattle.hub_core.specs.View.{View, Change, Freed, Session, Reading, session_at, reading_at, grow, Closed, Parted}
use Rattle.hub_core.specs.declared.place.Place.{Place}
use Rattle.hub_core.specs.declared.place.Place.TheVariants.{Free, Occupied}
use Rattle.hub_core.specs.declared.place.Row.{Row}
use Rattle.pool_words.specs.declared.pool.Pool.{Pool}
use Rattle.hub_core.specs.declared.port.Left.{Left}
use Rattle.hub_core.specs.declared.port.Left.TheVariants.{Others, Last}
use Rattle.hub_core.specs.declared.token.End.{End}
use Rattle.hub_core.specs.declared.token.End.TheVariants.{Write, Read}
use Rattle.hub_core.specs.declared.token.Joined.{Joined}
use Rattle.hub_core.specs.declared.token.Opened.{Opened}

module _ (groups : List (List ℕ)) (places : List Place) (words : List ℕ) (pools : List Pool) (takes : ℕ) (v : View) (shown : IsShown groups places words pools takes v) where
  -- the writer leaves
  module _ (t : Opened) (row next : Row) (new : List Place) (known : Writes v t) (is : slice_get places t.buf.0 ≡ Some (Occupied row)) (path-is : row.path ≡ t.path.0) (seq-is : row.seq ≡ t.seq) (left : next ≡ record row { writes = false }) where
    abbrev leave : Session → Session
    leave = λ s. record s { stands = false }

    closed-take : (s : Session) → SameTake s (leave s)
    closed-take s = record { buf = refl; number = refl; size = refl; dests = refl }

    closed-sight : sight_of (leave known.session) ≡ sight_in t.buf.0 next
    closed-sight =
        let old = row-sight groups places words pools takes v shown t.buf.0 t.path.0 t.seq row known.session is path-is seq-is known.known in
        (λ i. (ap (λ (x : ℕ × ℕ × ℕ × ℕ × Bool). x.0) old i, ap (λ (x : ℕ × ℕ × ℕ × ℕ × Bool). x.1) old i, ap (λ (x : ℕ × ℕ × ℕ × ℕ × Bool). x.2) old i, ap (λ (x : ℕ × ℕ × ℕ × ℕ × Bool). x.3) old i, false))
        ∙ ap (sight_in t.buf.0) (sym left)

    closed-now : (freed : List Change) → session_at (grow (Closed t.path.0 t.seq freed) v) t.path.0 t.seq ≡ Some (leave known.session)
    unfolding grow
    closed-now freed = session-changed t.path.0 t.seq leave known.session v (grow (Closed t.path.0 t.seq freed) v) known.known refl

    closed-row : (freed : List Change) → IsRowOf (grow (Closed t.path.0 t.seq freed) v) t.buf.0 next
    unfolding grow
    closed-row freed = row-on-session t.path.0 t.seq leave v (grow (Closed t.path.0 t.seq freed) v) t.buf.0 row next known.session refl refl (shown.places_show.rows t.buf.0 row is) path-is seq-is (ap (λ (r : Row). r.path) left) (ap (λ (r : Row). r.seq) left) (ap (λ (r : Row). r.positions) left) known.known closed-sight refl

    pub after-closed : new ≡ slice_set places t.buf.0 (Occupied next) → (next.writes || nat_lt 0 (readers_to next.positions 8)) ≡ true → MayDo v (Closed t.path.0 t.seq []) → IsShown groups new words pools takes (grow (Closed t.path.0 t.seq []) v)
    unfolding grow
    after-closed set party may =
        let w : View = grow (Closed t.path.0 t.seq []) v in
        session-call groups places new words words pools takes v w t.path.0 t.seq t.buf.0 leave row next known.session shown
        (swapped places new t.buf.0 row next is set (ap (λ (r : Row). r.path) left) (ap (λ (r : Row). r.seq) left)) path-is seq-is refl refl refl (append-nil v.changes) (by-closed t.path.0 t.seq [] v w refl) closed-take
        (ap (λ (r : Row). r.positions) left) known.known closed-sight
        (λ x at over. not-over w t.buf.0 t.path.0 t.seq next x (closed-row []) (ap (λ (r : Row). r.path) left ∙ path-is) (ap (λ (r : Row). r.seq) left ∙ seq-is) at party over)
        (words-on groups words v w (kept-session t.path.0 t.seq leave v w refl closed-take (λ s. refl)) (λ s x same freed. freed-on groups v w s x (append-nil v.changes) same freed) shown.words_show)
        (led-closed groups v shown.led t.path.0 t.seq may)

    pub after-closed-last : (number : ℕ) (more : List Pool) → new ≡ slice_set places t.buf.0 Free → more ≡ slice_set pools (group_of groups t.buf.0) (pool_freed groups v t.buf.0 number) → (next.writes || nat_lt 0 (readers_to next.positions 8)) ≡ false → number ≡ length (changes_in groups (group_of groups t.buf.0) v) + 1 → MayDo v (Closed t.path.0 t.seq []) →
        IsShown groups new words more takes (grow (Closed t.path.0 t.seq (Freed number t.buf.0 ∷ [])) v)
    unfolding grow
    after-closed-last number more set words-set none is-next may =
        let w : View = grow (Closed t.path.0 t.seq (Freed number t.buf.0 ∷ [])) v in
        let few = shown.counts.dests t.path.0 t.seq known.session known.known in
        freed-call groups places new words pools more takes v w t.path.0 t.seq t.buf.0 number row known.session shown is path-is seq-is (only-session t.path.0 t.seq leave v w refl refl) refl
        (kept-session t.path.0 t.seq leave v w refl closed-take (λ s. refl)) (lengths-by t.path.0 v w (by-closed t.path.0 t.seq (Freed number t.buf.0 ∷ []) v w refl)) known.known known.says.buf refl is-next set words-set
        (led-last groups v (Closed t.path.0 t.seq []) number t.buf.0 t.path.0 t.seq known.session (leave known.session) w shown.led may
        (ap (λ (l : List Change). let x : View = grow (Closed t.path.0 t.seq []) v in record x { changes = l ++ Freed number t.buf.0 ∷ [] }) (sym (append-nil v.changes)))
        (append-nil v.changes) known.known (writer-stays groups places words pools takes v shown t known) (closed-now []) (closed-take known.session) known.says.buf
        (is-over (grow (Closed t.path.0 t.seq []) v) t.buf.0 t.path.0 t.seq next (leave known.session) (closed-row []) (ap (λ (r : Row). r.path) left ∙ path-is) (ap (λ (r : Row). r.seq) left ∙ seq-is) (closed-now []) few none) is-next)

    pub closed-over : (freed : List Change) → (next.writes || nat_lt 0 (readers_to next.positions 8)) ≡ false → (s : Session) → session_at (grow (Closed t.path.0 t.seq freed) v) t.path.0 t.seq ≡ Some s → IsOver (grow (Closed t.path.0 t.seq freed) v) t.path.0 t.seq s
    closed-over freed none s at =
        let it : leave known.session ≡ s = same_Some (leave known.session) s (sym (closed-now freed) ∙ at) in
        subst (λ (x : Session). IsOver (grow (Closed t.path.0 t.seq freed) v) t.path.0 t.seq x) it
        (is-over (grow (Closed t.path.0 t.seq freed) v) t.buf.0 t.path.0 t.seq next (leave known.session) (closed-row freed) (ap (λ (r : Row). r.path) left ∙ path-is) (ap (λ (r : Row). r.seq) left ∙ seq-is) (closed-now freed) (shown.counts.dests t.path.0 t.seq known.session known.known) none)

  -- a destination leaves
  module _ (t : Joined) (row next : Row) (new : List Place) (known : Reads v t) (is : slice_get places t.buf.0 ≡ Some (Occupied row)) (path-is : row.path ≡ t.path.0) (seq-is : row.seq ≡ t.seq) (left : next ≡ record row { positions = slice_set row.positions t.dest.0 None }) where
    abbrev part : Reading → Reading
    part = λ r. record r { stands = false }

    its : (s : Session) × (session_at v t.path.0 t.seq ≡ Some s) × Rattle.hub_core.specs.Joint.IsStream s known.reading × (t.dest.0 < s.dests)
    its = reader-session groups places words pools takes v shown t known

    few : t.dest.0 < 8
    few = let most = shown.counts.dests t.path.0 t.seq its.0 its.1 in omega (arith, most, its.3)

    parted-own : (freed : List Change) → reading_at (grow (Parted t.path.0 t.dest.0 t.seq freed) v) t.path.0 t.dest.0 t.seq ≡ Some (part known.reading)
    unfolding grow
    parted-own freed = reading-changed t.path.0 t.dest.0 t.seq part known.reading v (grow (Parted t.path.0 t.dest.0 t.seq freed) v) known.known refl

    parted-beside : (freed : List Change) (d : ℕ) → d ≢ t.dest.0 → reading_at (grow (Parted t.path.0 t.dest.0 t.seq freed) v) t.path.0 d t.seq ≡ reading_at v t.path.0 d t.seq
    unfolding grow
    parted-beside freed d other = elim (reading-now t.path.0 t.dest.0 t.seq part v (grow (Parted t.path.0 t.dest.0 t.seq freed) v) refl t.path.0 d t.seq) [ inl hit ↦ absurd (other hit.1) | inr same ↦ same ]

    parted-others : (d : ℕ) → d ≢ t.dest.0 → slice_get next.positions d ≡ slice_get row.positions d
    parted-others d other = ap (λ (r : Row). slice_get r.positions d) left ∙ set-else row.positions t.dest.0 d None other

    parted-mine : slice_get next.positions t.dest.0 ≡ Some (position_of (Some its.0) t.dest.0 (Some (part known.reading)))
    parted-mine =
        ap (λ (r : Row). slice_get r.positions t.dest.0) left
        ∙ set-here row.positions t.dest.0 None (slice_get_within row.positions t.dest.0 _ (row-position groups places words pools takes v shown t.buf.0 t.path.0 t.seq t.dest.0 row its.0 is path-is seq-is its.1 few))
        ∙ ap (λ (b : Bool). Some (if b then None else None)) (sym (lt-ltb t.dest.0 its.0.dests its.3))

    parted-row : (freed : List Change) → IsRowOf (grow (Parted t.path.0 t.dest.0 t.seq freed) v) t.buf.0 next
    unfolding grow
    parted-row freed = row-on-reading t.path.0 t.dest.0 t.seq v (grow (Parted t.path.0 t.dest.0 t.seq freed) v) t.buf.0 row next its.0 (part known.reading) refl (parted-beside freed) (parted-own freed) (shown.places_show.rows t.buf.0 row is) path-is seq-is
        (ap (λ (r : Row). r.path) left) (ap (λ (r : Row). r.seq) left) (ap (sight_in t.buf.0) left) parted-others its.1 parted-mine

    pub after-parted : new ≡ slice_set places t.buf.0 (Occupied next) → (next.writes || nat_lt 0 (readers_to next.positions 8)) ≡ true → MayDo v (Parted t.path.0 t.dest.0 t.seq []) → IsShown groups new words pools takes (grow (Parted t.path.0 t.dest.0 t.seq []) v)
    unfolding grow
    after-parted set party may =
        let w : View = grow (Parted t.path.0 t.dest.0 t.seq []) v in
        reading-call groups places new words pools takes v w t.path.0 t.dest.0 t.seq t.buf.0 row next its.0 (part known.reading) shown
        (swapped places new t.buf.0 row next is set (ap (λ (r : Row). r.path) left) (ap (λ (r : Row). r.seq) left)) path-is seq-is refl
        (only-reading t.path.0 t.dest.0 t.seq part v w refl refl) refl (append-nil v.changes) (parted-beside []) (parted-own [])
        (ap (sight_in t.buf.0) left) parted-others its.1 parted-mine
        (λ x at over. not-over w t.buf.0 t.path.0 t.seq next x (parted-row []) (ap (λ (r : Row). r.path) left ∙ path-is) (ap (λ (r : Row). r.seq) left ∙ seq-is) at party over)
        (led-parted groups v shown.led t.path.0 t.dest.0 t.seq may)

    pub after-parted-last : (number : ℕ) (more : List Pool) → new ≡ slice_set places t.buf.0 Free → more ≡ slice_set pools (group_of groups t.buf.0) (pool_freed groups v t.buf.0 number) → (next.writes || nat_lt 0 (readers_to next.positions 8)) ≡ false → number ≡ length (changes_in groups (group_of groups t.buf.0) v) + 1 → MayDo v (Parted t.path.0 t.dest.0 t.seq []) →
        IsShown groups new words more takes (grow (Parted t.path.0 t.dest.0 t.seq (Freed number t.buf.0 ∷ [])) v)
    unfolding grow
    after-parted-last number more set words-set none is-next may =
        let w : View = grow (Parted t.path.0 t.dest.0 t.seq (Freed number t.buf.0 ∷ [])) v in
        let most = shown.counts.dests t.path.0 t.seq its.0 its.1 in
        let own : its.0.buf ≡ t.buf.0 = sym its.2.buf ∙ known.says.buf in
        freed-call groups places new words pools more takes v w t.path.0 t.seq t.buf.0 number row its.0 shown is path-is seq-is (only-reading t.path.0 t.dest.0 t.seq part v w refl refl) refl
        (kept-sessions v w refl) (λ p. refl) its.1 own refl is-next set words-set
        (led-last groups v (Parted t.path.0 t.dest.0 t.seq []) number t.buf.0 t.path.0 t.seq its.0 its.0 w shown.led may
        (ap (λ (l : List Change). let x : View = grow (Parted t.path.0 t.dest.0 t.seq []) v in record x { changes = l ++ Freed number t.buf.0 ∷ [] }) (sym (append-nil v.changes)))
        (append-nil v.changes) its.1 (reader-stays groups places words pools takes v shown t known its.0 its.3) its.1 (same-take its.0) own
        (is-over (grow (Parted t.path.0 t.dest.0 t.seq []) v) t.buf.0 t.path.0 t.seq next its.0 (parted-row []) (ap (λ (r : Row). r.path) left ∙ path-is) (ap (λ (r : Row). r.seq) left ∙ seq-is) its.1 most none) is-next)

    parted-session : (freed : List Change) → session_at (grow (Parted t.path.0 t.dest.0 t.seq freed) v) t.path.0 t.seq ≡ Some its.0
    unfolding grow
    parted-session freed = its.1

    pub parted-over : (freed : List Change) → (next.writes || nat_lt 0 (readers_to next.positions 8)) ≡ false → (s : Session) → session_at (grow (Parted t.path.0 t.dest.0 t.seq freed) v) t.path.0 t.seq ≡ Some s → IsOver (grow (Parted t.path.0 t.dest.0 t.seq freed) v) t.path.0 t.seq s
    parted-over freed none s at =
        let it : its.0 ≡ s = same_Some its.0 s (sym (parted-session freed) ∙ at) in
        subst (λ (x : Session). IsOver (grow (Parted t.path.0 t.dest.0 t.seq freed) v) t.path.0 t.seq x) it
        (is-over (grow (Parted t.path.0 t.dest.0 t.seq freed) v) t.buf.0 t.path.0 t.seq next its.0 (parted-row freed) (ap (λ (r : Row). r.path) left ∙ path-is) (ap (λ (r : Row). r.seq) left ∙ seq-is) (parted-session freed) (shown.counts.dests t.path.0 t.seq its.0 its.1) none)

  -- whoever leaves
  pub party-below : (end : End) → TakesPart v end → IsEndOf end
  party-below (Write t) known = tt
  party-below (Read t) known = let its = reader-session groups places words pools takes v shown t known in omega (arith, its.3, shown.counts.dests t.path.0 t.seq its.0 its.1)

  pub after-left : (end : End) (row next : Row) (new : List Place) → TakesPart v end →
      slice_get places (buf_of end) ≡ Some (Occupied row) → row.path ≡ path_of end → row.seq ≡ seq_of end → next ≡ left_by end row →
      new ≡ slice_set places (buf_of end) (Occupied next) → (next.writes || nat_lt 0 (readers_to next.positions 8)) ≡ true →
      IsShown groups new words pools takes (grow (left_of end Others) v)
  after-left (Write t) row next new known is path-is seq-is left set party =
      after-closed t row next new known is path-is seq-is left set party (closed-may v t known)
  after-left (Read t) row next new known is path-is seq-is left set party =
      after-parted t row next new known is path-is seq-is left set party (parted-may v t known)

  pub after-left-last : (end : End) (row next : Row) (new : List Place) → TakesPart v end →
      slice_get places (buf_of end) ≡ Some (Occupied row) → row.path ≡ path_of end → row.seq ≡ seq_of end → next ≡ left_by end row →
      (number : ℕ) (buf : BufNo) (more : List Pool) → buf.0 ≡ buf_of end → new ≡ slice_set places (buf_of end) Free →
      more ≡ slice_set pools (group_of groups (buf_of end)) (pool_freed groups v (buf_of end) number) →
      (next.writes || nat_lt 0 (readers_to next.positions 8)) ≡ false →
      number ≡ length (changes_in groups (group_of groups (buf_of end)) v) + 1 →
      IsShown groups new words more takes (grow (left_of end (Last number buf)) v)
  after-left-last (Write t) row next new known is path-is seq-is left number buf more own set words-set none is-next =
      let may = closed-may v t known in
      subst (λ (b : ℕ). IsShown groups new words more takes (grow (Closed t.path.0 t.seq (Freed number b ∷ [])) v)) (sym own)
      (after-closed-last t row next new known is path-is seq-is left number more set words-set none is-next may)
  after-left-last (Read t) row next new known is path-is seq-is left number buf more own set words-set none is-next =
      let may = parted-may v t known in
      subst (λ (b : ℕ). IsShown groups new words more takes (grow (Parted t.path.0 t.dest.0 t.seq (Freed number b ∷ [])) v))
      (sym own) (after-parted-last t row next new known is path-is seq-is left number more set words-set none is-next may)

  pub left-over : (end : End) (row next : Row) (new : List Place) → TakesPart v end →
      slice_get places (buf_of end) ≡ Some (Occupied row) → row.path ≡ path_of end → row.seq ≡ seq_of end → next ≡ left_by end row →
      (last : Left) → (next.writes || nat_lt 0 (readers_to next.positions 8)) ≡ false → (s : Session) →
      session_at (grow (left_of end last) v) (path_of end) (seq_of end) ≡ Some s →
      IsOver (grow (left_of end last) v) (path_of end) (seq_of end) s
  left-over (Write t) row next new known is path-is seq-is left last none =
      closed-over t row next new known is path-is seq-is left (freed_by last) none
  left-over (Read t) row next new known is path-is seq-is left last none =
      parted-over t row next new known is path-is seq-is left (freed_by last) none

  pub left-others : (end : End) (row next : Row) (new : List Place) → TakesPart v end →
      slice_get places (buf_of end) ≡ Some (Occupied row) → row.path ≡ path_of end → row.seq ≡ seq_of end → next ≡ left_by end row →
      (next.writes || nat_lt 0 (readers_to next.positions 8)) ≡ true → (s : Session) →
      session_at (grow (left_of end Others) v) (path_of end) (seq_of end) ≡ Some s →
      IsOver (grow (left_of end Others) v) (path_of end) (seq_of end) s → ⊥
  left-others (Write t) row next new known is path-is seq-is left party s at =
      not-over (grow (Closed t.path.0 t.seq []) v) t.buf.0 t.path.0 t.seq next s
      (closed-row t row next (slice_set places t.buf.0 Free) known is path-is seq-is left [])
      (ap (λ (r : Row). r.path) left ∙ path-is) (ap (λ (r : Row). r.seq) left ∙ seq-is) at party
  left-others (Read t) row next new known is path-is seq-is left party s at =
      not-over (grow (Parted t.path.0 t.dest.0 t.seq []) v) t.buf.0 t.path.0 t.seq next s
      (parted-row t row next (slice_set places t.buf.0 Free) known is path-is seq-is left [])
      (ap (λ (r : Row). r.path) left ∙ path-is) (ap (λ (r : Row). r.seq) left ∙ seq-is) at party
