-- The plain hub after the last party of a session left: its buffer is freed.
use Rattle.std.proofs.Common.{◌≡◌, ◌≢◌, ℕ, ◌+◌, ◌^◌, inl, inr, List, [], ◌∷◌, ◌++◌, length, Option, Some, refl, ap, sym, ◌∙◌, subst, arith, length-append}
use Rattle.std.proofs.lemmas.Bool.Decides.{eqb_tells}
use Rattle.std.proofs.lemmas.Option.{same_Some, slice_get_within}
use Rattle.std.specs.Prelude.{slice_get, slice_set, option_map, sum_by}
use Rattle.hub_core.proofs.Grouped.{pushed-same}
use Rattle.hub_core.proofs.Ledger.{led-twice, lawful, order}
use Rattle.hub_core.proofs.Numbered.{numbered-new, within}
use Rattle.hub_core.proofs.Kept.{SameTake}
use Rattle.hub_core.proofs.Owning.{session-taken, session-turn}
use Rattle.hub_core.proofs.Pools.{AreWords, words-pushed}
use Rattle.hub_core.proofs.Rows.{set-here, set-else, sum-set, freed-on, freed-still, IsOnlyAt, one-place, AreKept, words-on}
use Rattle.hub_core.proofs.Sure.{NotNot}
use Rattle.hub_core.specs.Core.{IsLed, MayDo, Does, Frees, after}
use Rattle.hub_core.specs.Joint.{IsFreed}
use Rattle.hub_core.specs.Groups.{group_of, place_of, journal_of, changes_in, free_in}
use Rattle.hub_core.specs.Journal.{ChangesBuf, numbered}
use Rattle.hub_core.specs.Joint.{IsOver}
use Rattle.hub_core.specs.Plain.{IsShown, session_in, reserved, taken, sight_of, position_of}
use Rattle.hub_core.specs.View.{View, Change, Freed, Taking, Session, Reading, Event, session_at, grow}
use Rattle.hub_core.specs.declared.place.Place.{Place}
use Rattle.hub_core.specs.declared.place.Place.TheVariants.{Free, Occupied}
use Rattle.hub_core.specs.declared.place.Row.{Row}
use Rattle.pool_words.specs.declared.pool.Pool.{Pool}

-- the free of the buffer after the last party's leave may happen
pub led-last : (groups : List (List ℕ)) (v : View) (event : Event) (number buf path seq : ℕ) (s t : Session) (w : View) → IsLed groups v → MayDo v event → w ≡ after (Frees number buf) (after (Does event) v) →
    (grow event v).changes ≡ v.changes → session_at v path seq ≡ Some s → (IsOver v path seq s → ⊥) → session_at (grow event v) path seq ≡ Some t → SameTake s t → s.buf ≡ buf → IsOver (grow event v) path seq t →
    number ≡ length (changes_in groups (group_of groups buf) v) + 1 → IsLed groups w
led-last groups v event number buf path seq s t w led may next same at stays there take own over new = led-twice groups (Does event) (Frees number buf) v w next (λ l. may) (λ l later.
    record {
      next = new ∙ ap (λ (c : List Change). length (journal_of groups (group_of groups buf) c) + 1) (sym same);
      path = path;
      seq = seq;
      session = t;
      known = there;
      its = take.buf ∙ own;
      over = over;
      last = λ other changed. elim (session-turn groups v l.owned path seq s at) [
        | inl last ↦
            let before : ChangesBuf (journal_of groups (group_of groups s.buf) v.changes) (place_of groups s.buf) other =
            subst (λ (x : List Change × ℕ). ChangesBuf (journal_of groups (group_of groups x.1) x.0) (place_of groups x.1) other) (λ i. (same i, sym own i)) changed in
            omega (arith, last other before, take.number)
        | inr gone ↦ absurd (stays gone.0)
      ];
    }) led

-- after it the buffer is freed
freed-now : (groups : List (List ℕ)) (v w : View) (number buf path seq : ℕ) (s t : Session) → IsLed groups v → session_at v path seq ≡ Some s → SameTake s t → s.buf ≡ buf →
    w.changes ≡ v.changes ++ Freed number buf ∷ [] → number ≡ length (changes_in groups (group_of groups buf) v) + 1 → NotNot (IsFreed groups w t)
freed-now groups v w number buf path seq s t led at take own changes new not = lawful groups v led (λ l.
    let mine : List Change = changes_in groups (group_of groups buf) v in
    let sorted = order groups v led (group_of groups buf) in
    let low = (within (changes_in groups (group_of groups s.buf) v) s.number _ (order groups v led (group_of groups s.buf)) (session-taken groups v l.owned path seq s at).take).1 in
    let same = ap (λ (b : ℕ). length (changes_in groups (group_of groups b) v)) own in
    let found = ap (λ (c : List Change). numbered (journal_of groups (group_of groups buf) c) number) changes
    ∙ ap (λ (c : List Change). numbered c number) (pushed-same groups (group_of groups buf) v.changes (Freed number buf) refl)
    ∙ numbered-new mine (Freed number (place_of groups buf)) sorted new in
    not (
      number,
      omega (arith, low, new, take.number, same),
      subst (λ (b : ℕ). numbered (journal_of groups (group_of groups b) w.changes) number ≡ Some (Freed number (place_of groups b))) (sym (take.buf ∙ own)) found,
    ))

-- the word of a buffer's group once it is freed
abbrev pub pool_freed : List (List ℕ) → View → (buf number : ℕ) → Pool
pool_freed groups v buf number = record { changes = number; free = free_in groups (group_of groups buf) v + 2 ^ place_of groups buf }

-- after the last party's leave
pub freed-call : (groups : List (List ℕ)) (places new : List Place) (words : List ℕ) (pools more : List Pool) (takes : ℕ) (v w : View) (path seq buf number : ℕ) (row : Row) (s : Session) → IsShown groups places words pools takes v →
    slice_get places buf ≡ Some (Occupied row) → row.path ≡ path → row.seq ≡ seq → IsOnlyAt path seq v w → w.held ≡ v.held → AreKept v w → ((p : ℕ) → length (w.sessions p) ≡ length (v.sessions p)) →
    session_at v path seq ≡ Some s → s.buf ≡ buf → w.changes ≡ v.changes ++ Freed number buf ∷ [] → number ≡ length (changes_in groups (group_of groups buf) v) + 1 → new ≡ slice_set places buf Free →
    more ≡ slice_set pools (group_of groups buf) (pool_freed groups v buf number) → IsLed groups w → IsShown groups new words more takes w
freed-call groups places new words pools more takes v w path seq buf number row s shown is path-is seq-is only held kept lengths at own grown next set words-set later = record {
  places_show = record {
    rows = λ b r there. elim (eqb_tells b buf) [
      | inl same ↦ absurd (not-free b r same.1 there)
      | inr other ↦
          let was = sym (others b other.1) ∙ there in
          let old = shown.places_show.rows b r was in
          elim (only r.path r.seq) [
            | inl hit ↦ absurd (other.1 (one-place groups places v buf b path seq row r shown.places_show is path-is seq-is was hit.0 hit.1))
            | inr same ↦ record {
              session = ap (option_map sight_of) same.0 ∙ old.session;
              positions = λ dest below. old.positions dest below ∙ ap (λ (x : Option Session × Option Reading). Some (position_of x.0 dest x.1)) (λ i. (sym same.0 i, sym (same.1 dest) i));
            }
          ]
    ];
    party = λ b r x there known over. elim (eqb_tells b buf) [
      | inl same ↦ not-free b r same.1 there
      | inr other ↦
          let was = sym (others b other.1) ∙ there in
          elim (only r.path r.seq) [
            | inl hit ↦ other.1 (one-place groups places v buf b path seq row r shown.places_show is path-is seq-is was hit.0 hit.1)
            | inr same ↦ shown.places_show.party b r x was (sym same.0 ∙ known) (record { writer = over.writer; dests = λ d below. let gone = over.dests d below in (gone.0, sym (same.1 d) ∙ gone.1, gone.2) })
          ]
    ];
    sessions = λ p k t there unfreed-yet.
        let was = kept p k t there in
        let old = shown.places_show.sessions p k was.0 was.1 (λ freed. unfreed-yet (still was.0 t was.2 freed)) in
        ap (λ (b : ℕ). session_in (slice_get new b)) was.2.buf ∙ elim (eqb_tells was.0.buf buf) [
          | inl same ↦ absurd (
              let keys : Some (row.path, row.seq) ≡ Some (p, k) = sym (ap session_in is) ∙ ap (λ (b : ℕ). session_in (slice_get places b)) (sym same.1) ∙ old in
              let parts = Rattle.std.proofs.lemmas.Option.some_pair_parts row.path p row.seq k keys in
              let it : was.0 ≡ s = same_Some was.0 s (sym was.1 ∙ ap (λ (x : ℕ × ℕ). session_at v x.0 x.1) (λ i. ((sym parts.0 ∙ path-is) i, (sym parts.1 ∙ seq-is) i)) ∙ at) in
              freed-now groups v w number buf path seq s t shown.led at (subst (λ (x : Session). SameTake x t) it was.2) own grown next unfreed-yet)
          | inr other ↦ ap session_in (others was.0.buf other.1) ∙ old
        ];
    held = λ b t there.
        let old = shown.places_show.held b t (sym (ap (λ (h : ℕ → Option Taking). h b) held) ∙ there) in
        elim (eqb_tells b buf) [
          | inl same ↦ absurd (let none : Some 0 ≡ Some 1 = sym (ap (λ (x : ℕ). option_map reserved (slice_get places x)) same.1 ∙ ap (option_map reserved) is) ∙ old in cc)
          | inr other ↦ ap (option_map reserved) (others b other.1) ∙ old
        ];
  };
  words_show = words-on groups words v w kept still shown.words_show;
  counts = record {
    words = subst (AreWords groups more) (sym grown) (words-pushed groups (group_of groups buf) pools more v.changes (Freed number buf) shown.counts.words (order groups v shown.led (group_of groups buf)) refl next words-set);
    moves = let sum = sum-set taken places buf (Occupied row) Free is in omega (arith, shown.counts.moves, sum, ap (sum_by taken) set, ap (λ (l : List Change). length l) grown, length-append v.changes (Freed number buf ∷ []));
    sessions = λ p. let sum = sum-set reserved places buf (Occupied row) Free is in let h = shown.counts.sessions p in omega (arith, h, lengths p, sum, ap (sum_by reserved) set);
    some = λ p k t there. let was = kept p k t there in omega (arith, shown.counts.some p k was.0 was.1, was.2.dests);
    dests = λ p k t there. let was = kept p k t there in omega (arith, shown.counts.dests p k was.0 was.1, was.2.dests);
  };
  led = later;
}
  where
    now : slice_get new buf ≡ Some Free
    now = ap (λ (l : List Place). slice_get l buf) set ∙ set-here places buf Free (slice_get_within places buf (Occupied row) is)

    others : (b : ℕ) → b ≢ buf → slice_get new b ≡ slice_get places b
    others b other = ap (λ (l : List Place). slice_get l b) set ∙ set-else places buf b Free other

    not-free : (b : ℕ) (r : Row) → b ≡ buf → slice_get new b ≡ Some (Occupied r) → ⊥
    not-free b r same there = let both : Some Free ≡ Some (Occupied r) = sym now ∙ ap (slice_get new) (sym same) ∙ there in absurd cc

    still : (x y : Session) → SameTake x y → IsFreed groups v x → IsFreed groups w y
    still x y take freed = freed-still groups (record w { changes = v.changes }) w (Freed number buf) y grown (freed-on groups v (record w { changes = v.changes }) x y refl take freed)
