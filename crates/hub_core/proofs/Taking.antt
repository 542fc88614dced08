-- The plain hub after a take, and as a session is entered in a buffer that was taken.
use Rattle.std.proofs.Common.{◌≡◌, ◌≢◌, ℕ, ◌+◌, ◌-◌, ◌^◌, ◌<◌, ◌≤◌, inl, inr, true, false, List, [], ◌∷◌, ◌++◌, length, Option, Some, None, All, refl, ap, sym, ◌∙◌, subst, arith, length-append}
use Rattle.std.proofs.lemmas.Bool.Decides.{eqb_tells}
use Rattle.std.proofs.lemmas.List.Elements.{All-nil}
use Rattle.std.proofs.lemmas.Option.{same_Some, slice_get_within, slice_get_past}
use Rattle.std.specs.Prelude.{slice_get, slice_set, option_map, sum_by, IsBitSet}
use Rattle.gw_base.proofs.Lists.{there-at}
use Rattle.gw_base.specs.Cell.{IsCell}
use Rattle.hub_core.proofs.Growing.{at_one-same, at_one-other}
use Rattle.hub_core.proofs.Ledger.{streams, order, session-clear, led-took, led-entered}
use Rattle.hub_core.proofs.Kept.{session-pushed}
use Rattle.hub_core.proofs.Pools.{words-pushed}
use Rattle.hub_core.proofs.Rows.{set-here, set-else, sum-set, occupied, sighted, freed-still}
use Rattle.hub_core.specs.Core.{MayDo, MayTake}
use Rattle.hub_core.specs.Groups.{group_of, place_of, free_in}
use Rattle.hub_core.specs.Joint.{IsFreed}
use Rattle.hub_core.specs.Plain.{IsShown, session_in, reserved, taken, sight_of, sight_in, standing, position_of, AreFirst}
use Rattle.hub_core.specs.View.{View, Change, Taken, Taking, Session, Reading, at_one, session_at, reading_at, session_new, grow, Took, Entered}
use Rattle.hub_core.specs.declared.place.Place.{Place}
use Rattle.hub_core.specs.declared.place.Place.TheVariants.{Free, Reserved, Occupied}
use Rattle.hub_core.specs.declared.place.Row.{Row}
use Rattle.pool_words.specs.declared.pool.Pool.{Pool}

-- the buffer is held then
pub held-took : (group number buf size need : ℕ) (v w : View) → w ≡ grow (Took group number buf size need) v → w.held buf ≡ Some (record { number = number; size = size })
unfolding grow
held-took group number buf size need v w grown = ap (λ (x : View). x.held buf) grown ∙ at_one-same buf (Some (record { number = number; size = size })) v.held

reserved-is : (found : Option Place) → option_map reserved found ≡ Some 1 → found ≡ Some Reserved
reserved-is None is = absurd cc
reserved-is (Some Free) is = absurd cc
reserved-is (Some Reserved) is = refl
reserved-is (Some (Occupied row)) is = absurd cc

module _ (groups : List (List ℕ)) (places : List Place) (words : List ℕ) (pools : List Pool) (takes : ℕ) (v : View) (shown : IsShown groups places words pools takes v) where
  -- after a take of the group's smallest free buffer that fits
  pub after-took : (group number buf size need fewer : ℕ) (new : List Place) (more : List Pool) → takes ≡ fewer + 1 → MayTake groups v group number buf size need → buf < length places → new ≡ slice_set places buf Reserved →
      more ≡ slice_set pools group (record { changes = number; free = free_in groups group v - 2 ^ place_of groups buf }) → IsShown groups new words more fewer (grow (Took group number buf size need) v)
  unfolding grow
  after-took group number buf size need fewer new more left may there set words-set = record {
    places_show = record {
      rows = λ b r at. elim (eqb_tells b buf) [
        | inl same ↦ absurd (let both : Some Reserved ≡ Some (Occupied r) = sym now ∙ ap (slice_get new) (sym same.1) ∙ at in cc)
        | inr other ↦ (let old = shown.places_show.rows b r (sym (others b other.1) ∙ at) in record { session = old.session; positions = old.positions })
      ];
      party = λ b r s at known over. elim (eqb_tells b buf) [
        | inl same ↦ absurd (let both : Some Reserved ≡ Some (Occupied r) = sym now ∙ ap (slice_get new) (sym same.1) ∙ at in cc)
        | inr other ↦ shown.places_show.party b r s (sym (others b other.1) ∙ at) known (record { writer = over.writer; dests = over.dests })
      ];
      sessions = λ p k s at kept.
          let before : IsFreed groups v s → ⊥ = λ freed. kept (freed-still groups v w c s refl freed) in
          elim (eqb_tells s.buf buf) [
            | inl same ↦ absurd (session-clear groups v shown.led p k s at before (subst (λ (x : ℕ × ℕ). IsBitSet (free_in groups x.0 v) x.1) (λ i. ((sym may.its ∙ ap (group_of groups) (sym same.1)) i, ap (place_of groups) (sym same.1) i)) may.smallest.fits.is_free))
            | inr other ↦ ap session_in (others s.buf other.1) ∙ shown.places_show.sessions p k s at before
          ];
      held = λ b t at. elim (eqb_tells b buf) [
        | inl same ↦ ap (λ (x : ℕ). option_map reserved (slice_get new x)) same.1 ∙ ap (option_map reserved) now
        | inr other ↦ ap (option_map reserved) (others b other.1) ∙ shown.places_show.held b t (sym (at_one-other buf b (Some (record { number = number; size = size })) v.held other.1) ∙ at)
      ];
    };
    words_show = record {
      cells = shown.words_show.cells;
      ring = λ p k i cell s at kept. shown.words_show.ring p k i cell s at (λ freed. kept (freed-still groups v w c s refl freed));
    };
    counts = record {
      words = words-pushed groups group pools more v.changes c shown.counts.words (order groups v shown.led group) may.its may.next words-set;
      moves = let old = there-at places buf there in let sum = sum-set taken places buf old.0 Reserved old.1 in omega (arith, shown.counts.moves, left, sum, ap (sum_by taken) set, length-append v.changes (c ∷ []));
      sessions = λ path. let old = there-at places buf there in let sum = sum-set reserved places buf old.0 Reserved old.1 in let h = shown.counts.sessions path in omega (arith, h, left, sum, ap (sum_by reserved) set);
      some = shown.counts.some;
      dests = shown.counts.dests;
    };
    led = led-took groups v shown.led group number buf size need may;
  }
    where
      w : View
      w = grow (Took group number buf size need) v

      c : Change
      c = Taken number buf need

      now : slice_get new buf ≡ Some Reserved
      now = ap (λ (l : List Place). slice_get l buf) set ∙ set-here places buf Reserved there

      others : (b : ℕ) → b ≢ buf → slice_get new b ≡ slice_get places b
      others b other = ap (λ (l : List Place). slice_get l b) set ∙ set-else places buf b Reserved other

  -- the place of a buffer that is held
  pub held-place : (buf : ℕ) (t : Taking) → v.held buf ≡ Some t → slice_get places buf ≡ Some Reserved
  held-place buf t at = reserved-is (slice_get places buf) (shown.places_show.held buf t at)

  -- after a session is entered
  pub after-entered : (path seq buf number size len readers : ℕ) (new : List Place) (positions : List (Option ℕ)) → MayDo v (Entered path seq buf number size len readers) → readers ≤ 8 → AreFirst readers 8 positions →
      new ≡ slice_set places buf (Occupied (record { path = path; seq = seq; len = len; shown = 0; told = 0; writes = true; positions = positions })) → IsShown groups new words pools takes (grow (Entered path seq buf number size len readers) v)
  unfolding grow
  after-entered path seq buf number size len readers new positions may few begin set = record {
    places_show = record {
      rows = λ b r at. elim (eqb_tells b buf) [
        | inl same ↦
            let it : row ≡ r = own b r same.1 at in
            subst (λ (y : Row). Rattle.hub_core.specs.Plain.IsRowOf w b y) it (record {
              session = ap (option_map sight_of) known ∙ ap (λ (x : ℕ). Some (x, len, 0, 0, true)) (sym same.1);
              positions = λ dest below.
                  begin dest below ∙ ap (λ (o : Option Reading). Some (position_of (Some fresh) dest o)) (sym (unread dest)) ∙ ap (λ (o : Option Session). Some (position_of o dest (reading_at w path dest seq))) (sym known);
            })
        | inr other ↦
            let old = shown.places_show.rows b r (sym (others b other.1) ∙ at) in
            let same = elsewhere r.path r.seq (let s = sighted (session_at v r.path r.seq) b r old.session in (s.0, s.1)) in
            record {
              session = ap (option_map sight_of) same ∙ old.session;
              positions = λ dest below. old.positions dest below ∙ ap (λ (o : Option Session). Some (position_of o dest (reading_at v r.path dest r.seq))) (sym same);
            }
      ];
      party = λ b r s at there over. elim (eqb_tells b buf) [
        | inl same ↦
            let it : row ≡ r = own b r same.1 at in
            let found : fresh ≡ s = same_Some fresh s (sym known ∙ ap (λ (y : Row). session_at w y.path y.seq) it ∙ there) in
            absurd (let no : true ≡ false = ap (λ (x : Session). x.stands) found ∙ over.writer in cc)
        | inr other ↦
            let was = sym (others b other.1) ∙ at in
            let old = shown.places_show.rows b r was in
            let same = elsewhere r.path r.seq (let s = sighted (session_at v r.path r.seq) b r old.session in (s.0, s.1)) in
            shown.places_show.party b r s was (sym same ∙ there) (record { writer = over.writer; dests = over.dests })
      ];
      sessions = λ p k t at kept. elim (session-pushed path fresh v w refl p k) [
        | inl hit ↦
            let it : fresh ≡ t = same_Some fresh t (sym hit.2 ∙ at) in
            ap (λ (x : Session). session_in (slice_get new x.buf)) (sym it) ∙ ap session_in now ∙ (λ i. Some (sym hit.0 i, (may.1 ∙ sym hit.1) i))
        | inr same ↦
            let was : session_at v p k ≡ Some t = sym same ∙ at in
            let old = shown.places_show.sessions p k t was (λ freed. kept freed) in
            elim (eqb_tells t.buf buf) [
              | inl here ↦ absurd (
                  let place = occupied (slice_get places t.buf) p k old in
                  let both : Some Reserved ≡ Some (Occupied place.0) = sym (held-place buf (record { number = number; size = size }) may.0) ∙ ap (slice_get places) (sym here.1) ∙ place.1 in
                  cc)
              | inr other ↦ ap session_in (others t.buf other.1) ∙ old
            ]
      ];
      held = λ b t at. elim (eqb_tells b buf) [
        | inl same ↦ absurd (let none : None ≡ Some t = sym (ap (λ (x : ℕ). at_one buf None v.held x) same.1 ∙ at_one-same buf None v.held) ∙ at in cc)
        | inr other ↦ ap (option_map reserved) (others b other.1) ∙ shown.places_show.held b t (sym (at_one-other buf b None v.held other.1) ∙ at)
      ];
    };
    words_show = record {
      cells = λ p k t at. elim (session-pushed path fresh v w refl p k) [
        | inl hit ↦ subst (λ (x : Session). All IsCell x.cells) (same_Some fresh t (sym hit.2 ∙ at)) (All-nil IsCell)
        | inr same ↦ shown.words_show.cells p k t (sym same ∙ at)
      ];
      ring = λ p k i cell t at kept get most. elim (session-pushed path fresh v w refl p k) [
        | inl hit ↦ absurd (let it : fresh ≡ t = same_Some fresh t (sym hit.2 ∙ at) in let none : None ≡ Some cell = ap (λ (x : Session). slice_get x.cells i) it ∙ get in cc)
        | inr same ↦ shown.words_show.ring p k i cell t (sym same ∙ at) (λ freed. kept freed) get most
      ];
    };
    counts = record {
      words = shown.counts.words;
      moves = let sum = sum-set taken places buf Reserved (Occupied row) was-reserved in omega (arith, shown.counts.moves, sum, ap (sum_by taken) set);
      sessions = λ p. let sum = sum-set reserved places buf Reserved (Occupied row) was-reserved in let h = shown.counts.sessions p in elim (eqb_tells p path) [
        | inl same ↦ (let long : length (at_one path (v.sessions path ++ fresh ∷ []) v.sessions p) ≡ length (v.sessions p) + 1 = (let P : ℕ → Type 0 = λ q. length (at_one path (v.sessions path ++ fresh ∷ []) v.sessions q) ≡ length (v.sessions q) + 1 in subst P (sym same.1) (ap length (at_one-same path (v.sessions path ++ fresh ∷ []) v.sessions) ∙ length-append (v.sessions path) (fresh ∷ []))) in omega (arith, h, long, sum, ap (sum_by reserved) set))
        | inr other ↦ omega (arith, h, sum, ap (sum_by reserved) set, ap length (at_one-other path p (v.sessions path ++ fresh ∷ []) v.sessions other.1))
      ];
      some = λ p k t at. elim (session-pushed path fresh v w refl p k) [
        | inl hit ↦ (let it : fresh ≡ t = same_Some fresh t (sym hit.2 ∙ at) in omega (arith, may.3, ap (λ (x : Session). x.dests) it))
        | inr same ↦ shown.counts.some p k t (sym same ∙ at)
      ];
      dests = λ p k t at. elim (session-pushed path fresh v w refl p k) [
        | inl hit ↦ (let it : fresh ≡ t = same_Some fresh t (sym hit.2 ∙ at) in omega (arith, few, ap (λ (x : Session). x.dests) it))
        | inr same ↦ shown.counts.dests p k t (sym same ∙ at)
      ];
    };
    led = led-entered groups v shown.led path seq buf number size len readers may;
  }
    where
      w : View
      w = grow (Entered path seq buf number size len readers) v

      fresh : Session
      fresh = session_new buf number size len readers

      row : Row
      row = record { path = path; seq = seq; len = len; shown = 0; told = 0; writes = true; positions = positions }

      was-reserved : slice_get places buf ≡ Some Reserved
      was-reserved = held-place buf (record { number = number; size = size }) may.0

      now : slice_get new buf ≡ Some (Occupied row)
      now = ap (λ (l : List Place). slice_get l buf) set ∙ set-here places buf (Occupied row) (slice_get_within places buf Reserved was-reserved)

      others : (b : ℕ) → b ≢ buf → slice_get new b ≡ slice_get places b
      others b other = ap (λ (l : List Place). slice_get l b) set ∙ set-else places buf b (Occupied row) other

      own : (b : ℕ) (r : Row) → b ≡ buf → slice_get new b ≡ Some (Occupied r) → row ≡ r
      own b r same at = let both : Some (Occupied row) ≡ Some (Occupied r) = sym now ∙ ap (slice_get new) (sym same) ∙ at in cc

      -- the path's next number has no session yet, and no reading
      none-yet : session_at v path seq ≡ None
      none-yet = slice_get_past (v.sessions path) seq (omega (arith, may.1))

      known : session_at w path seq ≡ Some fresh
      known = elim (session-pushed path fresh v w refl path seq) [
        | inl hit ↦ hit.2
        | inr same ↦ absurd (not-none (v.sessions path ++ fresh ∷ []) seq (omega (arith, may.1, length-append (v.sessions path) (fresh ∷ []))) (sym (ap (λ (l : List Session). slice_get l seq) (at_one-same path (v.sessions path ++ fresh ∷ []) v.sessions)) ∙ same ∙ none-yet))
      ]
        where
          not-none : (xs : List Session) (k : ℕ) → k < length xs → slice_get xs k ≡ None → ⊥
          not-none xs k below none = let there = there-at xs k below in let both : Some there.0 ≡ None = sym there.1 ∙ none in cc

      unread : (dest : ℕ) → reading_at v path dest seq ≡ None
      unread dest = none-of (reading_at v path dest seq) refl
        where
          none-of : (found : Option Reading) → reading_at v path dest seq ≡ found → found ≡ None
          none-of None is = refl
          none-of (Some r) is = absurd (let joined = (streams groups v shown.led).joined path dest seq r is in let both : Some joined.0 ≡ None = sym joined.1 ∙ none-yet in cc)

      elsewhere : (p k : ℕ) → (s : Session) × (session_at v p k ≡ Some s) → session_at w p k ≡ session_at v p k
      elsewhere p k there = elim (session-pushed path fresh v w refl p k) [
        | inl hit ↦ absurd (let both : Some there.0 ≡ None = sym there.1 ∙ slice_get_past (v.sessions p) k (omega (arith, hit.1, ap (λ (x : ℕ). length (v.sessions x)) hit.0)) in cc)
        | inr same ↦ same
      ]
