-- The plain hub after each call: its places, words and numbers show the view that the call leads to.
use Rattle.std.proofs.Common.{◌≡◌, ◌≢◌, ℕ, ◌+◌, ◌-◌, ◌<◌, ◌≤◌, inl, inr, zero, suc, Bool, true≢false, List, [], ◌∷◌, ◌++◌, length, Option, Some, None, refl, ap, sym, ◌∙◌, arith, length-append}
use Rattle.std.proofs.lemmas.Bool.{lt-ltb}
use Rattle.std.proofs.lemmas.Option.{same_Some, slice_get_within, slice_get_past}
use Rattle.std.specs.Prelude.{if◌then◌else◌, slice_get, slice_set, option_map}
use Rattle.hub_core.proofs.Growing.{session-changed, reading-changed, at_two-same, by-asked, by-published, by-put}
use Rattle.hub_core.proofs.Ledger.{streams, unfreed, joined-below, led-asked, led-put, led-published, led-joining, led-saw, led-read}
use Rattle.hub_core.proofs.Kept.{SameTake, on-session, on-same, reading-now, reading-pushed}
use Rattle.hub_core.proofs.Rows.{set-here, set-else, freed-on, IsOnlyAt, only-session, only-reading, only-joining, IsSwapped, not-swapped, swapped, show-row, row-on-session, row-on-reading, kept-session, kept-sessions, words-on, counts-on, lengths-by}
use Rattle.hub_core.specs.Calls.{ByWriter}
use Rattle.hub_core.specs.Core.{IsLed, MayDo}
use Rattle.hub_core.specs.Joint.{IsStream, IsOver}
use Rattle.hub_core.specs.Plain.{session_in, sight_of, sight_in, standing, position_of, IsShown, ShowWords, advance}
use Rattle.hub_core.specs.Tokens.{Writes, Reads}
use Rattle.hub_core.specs.View.{View, Session, Reading, at_one, change_at, session_at, reading_at, reading_new, grow}
use Rattle.hub_core.specs.View.{Refused, Asked, Put, Published, Joining, Saw, Read}
use Rattle.hub_core.specs.declared.place.Place.{Place}
use Rattle.hub_core.specs.declared.place.Place.TheVariants.{Occupied}
use Rattle.hub_core.specs.declared.place.Row.{Row}
use Rattle.pool_words.specs.declared.pool.Pool.{Pool}
use Rattle.hub_core.specs.declared.port.Room.{Room}
use Rattle.hub_core.specs.declared.port.Seen.{Seen}
use Rattle.hub_core.specs.declared.token.Joined.{Joined}
use Rattle.hub_core.specs.declared.token.Opened.{Opened}

-- after a call on a session
pub session-call : (groups : List (List ℕ)) (places new : List Place) (words more : List ℕ) (pools : List Pool) (takes : ℕ) (v w : View) (path seq buf : ℕ) (f : Session → Session) (row next : Row) (s : Session) →
    IsShown groups places words pools takes v → IsSwapped places new buf row next → row.path ≡ path → row.seq ≡ seq →
    w.sessions ≡ at_one path (change_at seq f (v.sessions path)) v.sessions → w.readings ≡ v.readings → w.held ≡ v.held → w.changes ≡ v.changes → ByWriter path 0 v w → ((x : Session) → SameTake x (f x)) →
    next.positions ≡ row.positions → session_at v path seq ≡ Some s → sight_of (f s) ≡ sight_in buf next → ((t : Session) → session_at w path seq ≡ Some t → IsOver w path seq t → ⊥) → ShowWords groups more w →
    IsLed groups w → IsShown groups new more pools takes w
session-call groups places new words more pools takes v w path seq buf f row next s shown swap path-is seq-is sessions readings held same by take positions at sight party words-show led =
    let on = on-session path seq f v w sessions take in
    record {
      places_show = show-row groups places new v w buf path seq row next shown.places_show swap path-is seq-is (only-session path seq f v w sessions readings) on held same
          (row-on-session path seq f v w buf row next s sessions readings (shown.places_show.rows buf row swap.was) path-is seq-is swap.path swap.seq positions at sight (take s).dests) party;
      words_show = words-show;
      counts = counts-on groups places new pools takes v w same (lengths-by path v w by) on swap.taken_same swap.reserved_same shown.counts;
      led = led;
    }

-- after a call of a destination
pub reading-call : (groups : List (List ℕ)) (places new : List Place) (words : List ℕ) (pools : List Pool) (takes : ℕ) (v w : View) (path dest seq buf : ℕ) (row next : Row) (s : Session) (r : Reading) →
    IsShown groups places words pools takes v → IsSwapped places new buf row next → row.path ≡ path → row.seq ≡ seq → w.sessions ≡ v.sessions → IsOnlyAt path seq v w → w.held ≡ v.held → w.changes ≡ v.changes →
    ((d : ℕ) → d ≢ dest → reading_at w path d seq ≡ reading_at v path d seq) → reading_at w path dest seq ≡ Some r → sight_in buf next ≡ sight_in buf row →
    ((d : ℕ) → d ≢ dest → slice_get next.positions d ≡ slice_get row.positions d) → session_at v path seq ≡ Some s → slice_get next.positions dest ≡ Some (position_of (Some s) dest (Some r)) →
    ((t : Session) → session_at w path seq ≡ Some t → IsOver w path seq t → ⊥) → IsLed groups w → IsShown groups new words pools takes w
reading-call groups places new words pools takes v w path dest seq buf row next s r shown swap path-is seq-is sessions only held same beside own sight others at mine party led = record {
  places_show = show-row groups places new v w buf path seq row next shown.places_show swap path-is seq-is only (on-same v w sessions) held same
      (row-on-reading path dest seq v w buf row next s r sessions beside own (shown.places_show.rows buf row swap.was) path-is seq-is swap.path swap.seq sight others at mine) party;
  words_show = words-on groups words v w (kept-sessions v w sessions) (λ s t take freed. freed-on groups v w s t same take freed) shown.words_show;
  counts = counts-on groups places new pools takes v w same (λ p. ap (λ (g : ℕ → List Session). length (g p)) sessions) (on-same v w sessions) swap.taken_same swap.reserved_same shown.counts;
  led = led;
}

-- the place of a party's session
module _ (groups : List (List ℕ)) (places : List Place) (words : List ℕ) (pools : List Pool) (takes : ℕ) (v : View) (shown : IsShown groups places words pools takes v) where
  pub writer-stays : (t : Opened) → (known : Writes v t) → IsOver v t.path.0 t.seq known.session → ⊥
  writer-stays t known over = true≢false (sym known.says.stands ∙ over.writer)

  pub writer-place : (t : Opened) → Writes v t → session_in (slice_get places t.buf.0) ≡ Some (t.path.0, t.seq)
  writer-place t known =
      ap (λ (b : ℕ). session_in (slice_get places b)) (sym known.says.buf)
      ∙ shown.places_show.sessions t.path.0 t.seq known.session known.known (unfreed groups v shown.led t.path.0 t.seq known.session known.known (writer-stays t known))

  -- a destination's session
  pub reader-session : (t : Joined) → (known : Reads v t) → (s : Session) × (session_at v t.path.0 t.seq ≡ Some s) × IsStream s known.reading × (t.dest.0 < s.dests)
  reader-session t known =
      let joined = (streams groups v shown.led).joined t.path.0 t.dest.0 t.seq known.reading known.known in
      (joined.0, joined.1, joined.2, joined-below groups v shown.led t.path.0 t.dest.0 t.seq joined.0 known.reading joined.1 known.known)

  pub reader-stays : (t : Joined) → (known : Reads v t) → (s : Session) → t.dest.0 < s.dests → IsOver v t.path.0 t.seq s → ⊥
  reader-stays t known s below over =
      let gone = over.dests t.dest.0 below in
      let it : known.reading ≡ gone.0 = same_Some known.reading gone.0 (sym known.known ∙ gone.1) in
      true≢false (sym known.says.stands ∙ ap (λ (r : Reading). r.stands) it ∙ gone.2)

  pub reader-place : (t : Joined) → Reads v t → session_in (slice_get places t.buf.0) ≡ Some (t.path.0, t.seq)
  reader-place t known =
      let its = reader-session t known in
      ap (λ (b : ℕ). session_in (slice_get places b)) (sym known.says.buf ∙ its.2.buf)
      ∙ shown.places_show.sessions t.path.0 t.seq its.0 its.1 (unfreed groups v shown.led t.path.0 t.seq its.0 its.1 (reader-stays t known its.0 its.3))

  -- a row is what its session's parties see
  pub row-sight : (buf path seq : ℕ) (row : Row) (s : Session) → slice_get places buf ≡ Some (Occupied row) → row.path ≡ path → row.seq ≡ seq → session_at v path seq ≡ Some s → sight_of s ≡ sight_in buf row
  row-sight buf path seq row s is path-is seq-is at =
      same_Some (sight_of s) (sight_in buf row) (sym (ap (option_map sight_of) (ap (λ (x : ℕ × ℕ). session_at v x.0 x.1) (λ i. (path-is i, seq-is i)) ∙ at)) ∙ (shown.places_show.rows buf row is).session)

  pub row-position : (buf path seq dest : ℕ) (row : Row) (s : Session) → slice_get places buf ≡ Some (Occupied row) → row.path ≡ path → row.seq ≡ seq → session_at v path seq ≡ Some s → dest < 8 →
      slice_get row.positions dest ≡ Some (position_of (Some s) dest (reading_at v path dest seq))
  row-position buf path seq dest row s is path-is seq-is at below =
      (shown.places_show.rows buf row is).positions dest below
      ∙ ap (λ (x : ℕ × ℕ). Some (position_of (session_at v x.0 x.1) dest (reading_at v x.0 dest x.1))) (λ i. (path-is i, seq-is i))
      ∙ ap (λ (o : Option Session). Some (position_of o dest (reading_at v path dest seq))) at

  -- after the writer's look at the positions
  pub after-asked : (t : Opened) (row : Row) (room : Room) → Writes v t → slice_get places t.buf.0 ≡ Some (Occupied row) → row.path ≡ t.path.0 → row.seq ≡ t.seq → MayDo v (Asked t.path.0 t.seq room.cells room.readers) →
      IsShown groups places words pools takes (grow (Asked t.path.0 t.seq room.cells room.readers) v)
  unfolding grow
  after-asked t row room known is path-is seq-is may =
      let f : Session → Session = λ s. record s { room = room.cells; readers = room.readers } in
      let w : View = grow (Asked t.path.0 t.seq room.cells room.readers) v in
      let take : (s : Session) → SameTake s (f s) = λ s. record { buf = refl; number = refl; size = refl; dests = refl } in
      session-call groups places places words words pools takes v w t.path.0 t.seq t.buf.0 f row row known.session shown (not-swapped places t.buf.0 row is) path-is seq-is refl refl refl refl
      (by-asked t.path.0 t.seq room.cells room.readers v w refl) take refl known.known (row-sight t.buf.0 t.path.0 t.seq row known.session is path-is seq-is known.known)
      (λ x at over. let it : f known.session ≡ x = same_Some (f known.session) x (sym (session-changed t.path.0 t.seq f known.session v w known.known refl) ∙ at) in true≢false (sym known.says.stands ∙ ap (λ (s : Session). s.stands) it ∙ over.writer))
      (words-on groups words v w (kept-session t.path.0 t.seq f v w refl take (λ s. refl)) (λ s x same freed. freed-on groups v w s x refl same freed) shown.words_show)
      (led-asked groups v shown.led t.path.0 t.seq room.cells room.readers may)

  -- after all that was put is published
  pub after-published : (t : Opened) (row : Row) (new : List Place) (bytes : ℕ) → Writes v t → slice_get places t.buf.0 ≡ Some (Occupied row) → row.path ≡ t.path.0 → row.seq ≡ t.seq → t.told + bytes ≡ t.given →
      new ≡ slice_set places t.buf.0 (Occupied (record row { shown = t.put; told = t.given })) → MayDo v (Published t.path.0 t.seq bytes) → IsShown groups new words pools takes (grow (Published t.path.0 t.seq bytes) v)
  unfolding grow
  after-published t row new bytes known is path-is seq-is all set may =
      let f : Session → Session = λ s. record s { shown = length s.cells; told = s.told + bytes } in
      let w : View = grow (Published t.path.0 t.seq bytes) v in
      let next : Row = record row { shown = t.put; told = t.given } in
      let take : (s : Session) → SameTake s (f s) = λ s. record { buf = refl; number = refl; size = refl; dests = refl } in
      let sight = row-sight t.buf.0 t.path.0 t.seq row known.session is path-is seq-is known.known in
      let told-is : known.session.told + bytes ≡ t.given = omega (arith, known.says.told, all) in
      session-call groups places new words words pools takes v w t.path.0 t.seq t.buf.0 f row next known.session shown (swapped places new t.buf.0 row next is set refl refl) path-is seq-is refl refl refl refl
      (by-published t.path.0 t.seq bytes v w refl) take refl known.known
      (λ i. (ap (λ (x : ℕ × ℕ × ℕ × ℕ × Bool). x.0) sight i, ap (λ (x : ℕ × ℕ × ℕ × ℕ × Bool). x.1) sight i, known.says.put i, told-is i, ap (λ (x : ℕ × ℕ × ℕ × ℕ × Bool). x.4) sight i))
      (λ x at over. let it : f known.session ≡ x = same_Some (f known.session) x (sym (session-changed t.path.0 t.seq f known.session v w known.known refl) ∙ at) in true≢false (sym known.says.stands ∙ ap (λ (s : Session). s.stands) it ∙ over.writer))
      (words-on groups words v w (kept-session t.path.0 t.seq f v w refl take (λ s. refl)) (λ s x same freed. freed-on groups v w s x refl same freed) shown.words_show)
      (led-published groups v shown.led t.path.0 t.seq bytes may)

  -- after one cell is put
  pub after-put : (t : Opened) (row : Row) (more : List ℕ) (cell : ℕ) → Writes v t → slice_get places t.buf.0 ≡ Some (Occupied row) → row.path ≡ t.path.0 → row.seq ≡ t.seq → ShowWords groups more (grow (Put t.path.0 t.seq cell) v) → MayDo v (Put t.path.0 t.seq cell) →
      IsShown groups places more pools takes (grow (Put t.path.0 t.seq cell) v)
  unfolding grow
  after-put t row more cell known is path-is seq-is words-show may =
      let f : Session → Session = λ s. record s { cells = s.cells ++ cell ∷ []; room = s.room - 1 } in
      let w : View = grow (Put t.path.0 t.seq cell) v in
      let take : (s : Session) → SameTake s (f s) = λ s. record { buf = refl; number = refl; size = refl; dests = refl } in
      session-call groups places places words more pools takes v w t.path.0 t.seq t.buf.0 f row row known.session shown (not-swapped places t.buf.0 row is) path-is seq-is refl refl refl refl
      (by-put t.path.0 t.seq cell v w refl) take refl known.known (row-sight t.buf.0 t.path.0 t.seq row known.session is path-is seq-is known.known)
      (λ x at over. let it : f known.session ≡ x = same_Some (f known.session) x (sym (session-changed t.path.0 t.seq f known.session v w known.known refl) ∙ at) in true≢false (sym known.says.stands ∙ ap (λ (s : Session). s.stands) it ∙ over.writer))
      words-show (led-put groups v shown.led t.path.0 t.seq cell may)

  -- after a destination's look at the count
  pub after-saw : (t : Joined) (row : Row) (seen : Seen) → Reads v t → slice_get places t.buf.0 ≡ Some (Occupied row) → row.path ≡ t.path.0 → row.seq ≡ t.seq → MayDo v (Saw t.path.0 t.dest.0 t.seq seen.cells seen.bytes seen.writer) →
      IsShown groups places words pools takes (grow (Saw t.path.0 t.dest.0 t.seq seen.cells seen.bytes seen.writer) v)
  unfolding grow
  after-saw t row seen known is path-is seq-is may =
      let f : Reading → Reading = λ r. record r { seen = seen.cells; bytes = seen.bytes; writer = seen.writer } in
      let w : View = grow (Saw t.path.0 t.dest.0 t.seq seen.cells seen.bytes seen.writer) v in
      let its = reader-session t known in
      let own = reading-changed t.path.0 t.dest.0 t.seq f known.reading v w known.known refl in
      reading-call groups places places words pools takes v w t.path.0 t.dest.0 t.seq t.buf.0 row row its.0 (f known.reading) shown (not-swapped places t.buf.0 row is) path-is seq-is refl
      (only-reading t.path.0 t.dest.0 t.seq f v w refl refl) refl refl
      (λ d other. elim (reading-now t.path.0 t.dest.0 t.seq f v w refl t.path.0 d t.seq) [ inl hit ↦ absurd (other hit.1) | inr same ↦ same ]) own refl (λ d other. refl) its.1
      (row-position t.buf.0 t.path.0 t.seq t.dest.0 row its.0 is path-is seq-is its.1 (let most = shown.counts.dests t.path.0 t.seq its.0 its.1 in omega (arith, most, its.3)) ∙ ap (λ (o : Option Reading). Some (position_of (Some its.0) t.dest.0 o)) known.known)
      (λ x at over.
      let it : its.0 ≡ x = same_Some its.0 x (sym its.1 ∙ at) in
      let gone = over.dests t.dest.0 (omega (arith, its.3, ap (λ (s : Session). s.dests) it)) in
      let here : f known.reading ≡ gone.0 = same_Some (f known.reading) gone.0 (sym own ∙ gone.1) in
      true≢false (sym known.says.stands ∙ ap (λ (r : Reading). r.stands) here ∙ gone.2))
      (led-saw groups v shown.led t.path.0 t.dest.0 t.seq seen.cells seen.bytes seen.writer may)

  -- after one cell is read
  pub after-read : (t : Joined) (row : Row) (new : List Place) (cell : ℕ) → Reads v t → slice_get places t.buf.0 ≡ Some (Occupied row) → row.path ≡ t.path.0 → row.seq ≡ t.seq → new ≡ slice_set places t.buf.0 (Occupied (advance t.dest.0 (t.at + 1) row)) →
      MayDo v (Read t.path.0 t.dest.0 t.seq cell) → IsShown groups new words pools takes (grow (Read t.path.0 t.dest.0 t.seq cell) v)
  unfolding grow
  after-read t row new cell known is path-is seq-is set may =
      let f : Reading → Reading = λ r. record r { cells = r.cells ++ cell ∷ [] } in
      let w : View = grow (Read t.path.0 t.dest.0 t.seq cell) v in
      let next : Row = advance t.dest.0 (t.at + 1) row in
      let its = reader-session t known in
      let own = reading-changed t.path.0 t.dest.0 t.seq f known.reading v w known.known refl in
      let few : t.dest.0 < 8 = let most = shown.counts.dests t.path.0 t.seq its.0 its.1 in omega (arith, most, its.3) in
      let within : t.dest.0 < length row.positions = slice_get_within row.positions t.dest.0 _ (row-position t.buf.0 t.path.0 t.seq t.dest.0 row its.0 is path-is seq-is its.1 few) in
      let at-next : t.at + 1 ≡ length (known.reading.cells ++ cell ∷ []) = omega (arith, known.says.at, length-append known.reading.cells (cell ∷ [])) in
      reading-call groups places new words pools takes v w t.path.0 t.dest.0 t.seq t.buf.0 row next its.0 (f known.reading) shown (swapped places new t.buf.0 row next is set refl refl) path-is seq-is refl
      (only-reading t.path.0 t.dest.0 t.seq f v w refl refl) refl refl
      (λ d other. elim (reading-now t.path.0 t.dest.0 t.seq f v w refl t.path.0 d t.seq) [ inl hit ↦ absurd (other hit.1) | inr same ↦ same ]) own refl (λ d other. set-else row.positions t.dest.0 d (Some (t.at + 1)) other) its.1
      (set-here row.positions t.dest.0 (Some (t.at + 1)) within
      ∙ ap (λ (n : ℕ). Some (Some n)) at-next
      ∙ ap (λ (b : Bool). Some (if b then Some (length (known.reading.cells ++ cell ∷ [])) else None)) (sym known.says.stands)
      ∙ ap (λ (b : Bool). Some (if b then standing (Some (f known.reading)) else None)) (sym (lt-ltb t.dest.0 its.0.dests its.3)))
      (λ x at over.
      let it : its.0 ≡ x = same_Some its.0 x (sym its.1 ∙ at) in
      let gone = over.dests t.dest.0 (omega (arith, its.3, ap (λ (s : Session). s.dests) it)) in
      let here : f known.reading ≡ gone.0 = same_Some (f known.reading) gone.0 (sym own ∙ gone.1) in
      true≢false (sym known.says.stands ∙ ap (λ (r : Reading). r.stands) here ∙ gone.2))
      (led-read groups v shown.led t.path.0 t.dest.0 t.seq cell may)

  -- after a destination joins
  pub after-joining : (path dest seq buf len : ℕ) (row : Row) (s : Session) → slice_get places buf ≡ Some (Occupied row) → row.path ≡ path → row.seq ≡ seq → session_at v path seq ≡ Some s → dest < s.dests → seq ≡ length (v.readings path dest) →
      MayDo v (Joining path dest seq buf len) → IsShown groups places words pools takes (grow (Joining path dest seq buf len) v)
  unfolding grow
  after-joining path dest seq buf len row s is path-is seq-is at below next may =
      let new : Reading = reading_new buf len in
      let w : View = grow (Joining path dest seq buf len) v in
      let none : reading_at v path dest seq ≡ None = slice_get_past (v.readings path dest) seq (omega (arith, next)) in
      let own : reading_at w path dest seq ≡ Some new = elim (reading-pushed path dest new v w refl path dest seq) [
        | inl hit ↦ hit.3
        | inr same ↦ absurd (omega (
          arith,
          next,
          slice_get_within (v.readings path dest ++ new ∷ []) seq new (ap (slice_get (v.readings path dest ++ new ∷ [])) next ∙ pushed-last (v.readings path dest) new),
          not-there (v.readings path dest ++ new ∷ []) seq (sym (ap (λ (l : List Reading). slice_get l seq) (at_two-same path dest (v.readings path dest ++ new ∷ []) v.readings)) ∙ same ∙ none),
        ))
      ] in
      reading-call groups places places words pools takes v w path dest seq buf row row s new shown (not-swapped places buf row is) path-is seq-is refl
      (only-joining path dest seq new v w next refl refl) refl refl
      (λ d other. elim (reading-pushed path dest new v w refl path d seq) [ inl hit ↦ absurd (other hit.1) | inr same ↦ same ]) own refl (λ d other. refl) at
      (row-position buf path seq dest row s is path-is seq-is at (let most = shown.counts.dests path seq s at in omega (arith, most, below)) ∙ ap (λ (o : Option Reading). Some (position_of (Some s) dest o)) none)
      (λ x there over.
      let it : s ≡ x = same_Some s x (sym at ∙ there) in
      let gone = over.dests dest (omega (arith, below, ap (λ (y : Session). y.dests) it)) in
      let here : new ≡ gone.0 = same_Some new gone.0 (sym own ∙ gone.1) in
      true≢false (ap (λ (r : Reading). r.stands) here ∙ gone.2))
      (led-joining groups v shown.led path dest seq buf len may)
    where
      pushed-last : {A : Type 0} (xs : List A) (x : A) → slice_get (xs ++ x ∷ []) (length xs) ≡ Some x
      pushed-last [] x = refl
      pushed-last (y ∷ xs) x = pushed-last xs x

      not-there : {A : Type 0} (xs : List A) (k : ℕ) → slice_get xs k ≡ None → length xs ≤ k
      not-there [] k none = omega arith
      not-there (x ∷ xs) zero none = absurd cc
      not-there (x ∷ xs) (suc k) none = let h = not-there xs k none in omega (arith, h)

  -- after a take that found no buffer
  pub after-refused : (group number free need fewer : ℕ) → takes ≡ fewer + 1 → IsLed groups (grow (Refused group number free need) v) → IsShown groups places words pools fewer (grow (Refused group number free need) v)
  unfolding grow
  after-refused group number free need fewer left led = record {
    places_show = record {
      rows = λ b r at. let old = shown.places_show.rows b r at in record { session = old.session; positions = old.positions };
      party = λ b r s at there over. shown.places_show.party b r s at there (record { writer = over.writer; dests = over.dests });
      sessions = shown.places_show.sessions;
      held = shown.places_show.held;
    };
    words_show = record { cells = shown.words_show.cells; ring = shown.words_show.ring };
    counts = record {
      words = shown.counts.words;
      moves = omega (arith, shown.counts.moves, left);
      sessions = λ path. let h = shown.counts.sessions path in omega (arith, h, left);
      some = shown.counts.some;
      dests = shown.counts.dests;
    };
    led = led;
  }
