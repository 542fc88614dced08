-- What the loops over buffers and destinations keep.
use Rattle.std.proofs.Common.{◌≡◌, ◌≢◌, ℕ, ◌+◌, ◌-◌, ◌*◌, ◌^◌, ◌/◌, ◌<◌, ◌≤◌, ◌⊎◌, ◌↔◌, inl, inr, zero, suc, Bool, true, false, true≢false, List, [], ◌∷◌, ◌++◌, length, take, Option, Some, None, refl, ap, sym, ◌∙◌, subst, arith}
use Rattle.std.proofs.lemmas.Bool.{cases_lt, lt-ltb, le-ltb}
use Rattle.std.proofs.lemmas.Bool.Decides.{eqb_tells}
use Rattle.std.proofs.lemmas.Option.{same_Some, slice_get_within}
use Rattle.std.specs.Prelude.{if◌then◌else◌, slice_get, slice_set, get_or}
use Rattle.hub_core.proofs.Rows.{set-here, set-else, occupied}
use Rattle.pool_words.proofs.Fits.{last-or}
use Rattle.hub_core.specs.Plain.{session_in, counts_one, readers_to, IsRoomTo, AreFirst, IsPlaceOf, StartAt, start_of}
use Rattle.hub_core.specs.declared.place.Place.{Place}
use Rattle.hub_core.specs.declared.place.Place.TheVariants.{Occupied}
use Rattle.hub_core.specs.declared.port.Room.{Room}

-- no place so far has the session
abbrev pub HasNoneTo : List Place → (path seq places : ℕ) → Type 0
HasNoneTo places path seq bound = (at : ℕ) → at < bound → session_in (slice_get places at) ≡ Some (path, seq) → ⊥

pub none-more : (places : List Place) (path seq bound : ℕ) (place : Place) → HasNoneTo places path seq bound → slice_get places bound ≡ Some place → (session_in (Some place) ≡ Some (path, seq) → ⊥) → HasNoneTo places path seq (bound + 1)
none-more places path seq bound place none is not at below found = elim (last-or at bound below) [
  | inl low ↦ none at low found
  | inr here ↦ not (ap session_in (sym is) ∙ ap (λ (n : ℕ). session_in (slice_get places n)) (sym here) ∙ found)
]

pub none-ends : (places : List Place) (path seq : ℕ) → HasNoneTo places path seq (length places) → IsPlaceOf places path seq None
none-ends places path seq none at found =
    let there = occupied (slice_get places at) path seq found in
    none at (slice_get_within places at (Occupied there.0) there.1) found

-- the positions set so far
abbrev pub AreFirstTo : (dests : ℕ) → List (Option ℕ) → Type 0
AreFirstTo dests positions = (length positions ≡ 8) × AreFirst dests 8 positions

pub first-more : (dests : ℕ) (positions : List (Option ℕ)) → dests < 8 → AreFirstTo dests positions → AreFirstTo (dests + 1) (slice_set positions dests (Some 0))
first-more dests positions below so = (
  Rattle.std.proofs.Common.length-set positions dests (Some 0) ∙ so.0,
  λ dest low. elim (eqb_tells dest dests) [
    | inl same ↦
        ap (slice_get (slice_set positions dests (Some 0))) same.1 ∙ set-here positions dests (Some 0) (omega (arith, so.0, below))
        ∙ ap (λ (b : Bool). Some (if b then Some 0 else None)) (sym (lt-ltb dest (dests + 1) (omega (arith, same.1))))
    | inr other ↦ set-else positions dests dest (Some 0) other.1 ∙ so.1 dest low ∙ elim (cases_lt dest dests) [
      | inl before ↦ ap (λ (b : Bool). Some (if b then Some 0 else None)) (lt-ltb dest dests before ∙ sym (lt-ltb dest (dests + 1) (omega (arith, before))))
      | inr after ↦ ap (λ (b : Bool). Some (if b then Some 0 else None)) (le-ltb dest dests after ∙ sym (le-ltb dest (dests + 1) (let apart : dest ≡ dests → ⊥ = other.1 in elim (cases_lt dests dest) [ inl past ↦ omega (arith, past) | inr low' ↦ absurd (apart (omega (arith, low', after))) ])))
    ]
  ],
)

pub readers-most : (positions : List (Option ℕ)) (dests : ℕ) → readers_to positions dests ≤ dests
readers-most positions zero = omega arith
readers-most positions (suc dests) = let h = readers-most positions dests in let one = most (slice_get positions dests) in omega (arith, h, one)
  where
    most : (found : Option (Option ℕ)) → counts_one found ≤ 1
    most None = omega arith
    most (Some None) = omega arith
    most (Some (Some at)) = omega arith

readers-step : (positions : List (Option ℕ)) (dests : ℕ) → readers_to positions (dests + 1) ≡ counts_one (slice_get positions dests) + readers_to positions dests
readers-step positions dests = ap (readers_to positions) (let next : dests + 1 ≡ suc dests = omega arith in next)

-- the room beside one more destination
pub room-begins : (size put : ℕ) (positions : List (Option ℕ)) → IsRoomTo size put positions 0 (record { cells = size; readers = 0 })
room-begins size put positions = record { readers = refl; most = omega arith; all = λ none. refl; each = λ dest at below is. absurd (omega (arith, below)); least = λ some. absurd (omega (arith, some)) }

pub room-none : (size put dests : ℕ) (positions : List (Option ℕ)) (room : Room) → ((at : ℕ) → slice_get positions dests ≡ Some (Some at) → ⊥) → IsRoomTo size put positions dests room → IsRoomTo size put positions (dests + 1) room
room-none size put dests positions room none so = record {
  readers = omega (arith, so.readers, readers-step positions dests, uncounted (slice_get positions dests) none);
  most = so.most;
  all = so.all;
  each = λ dest at below there. elim (last-or dest dests below) [
    | inl low ↦ so.each dest at low there
    | inr here ↦ absurd (none at (ap (slice_get positions) (sym here) ∙ there))
  ];
  least = λ some. let h = so.least some in (h.0, h.1, omega (arith, h.2), h.3, h.4);
}
  where
    uncounted : (found : Option (Option ℕ)) → ((at : ℕ) → found ≡ Some (Some at) → ⊥) → counts_one found ≡ 0
    uncounted None none = refl
    uncounted (Some None) none = refl
    uncounted (Some (Some at)) none = absurd (none at refl)

-- a position that is read
pub position-read : (positions : List (Option ℕ)) (dest at : ℕ) → get_or positions dest None ≡ Some at → slice_get positions dest ≡ Some (Some at)
position-read [] dest at is = absurd cc
position-read (first ∷ positions) zero at is = ap Some is
position-read (first ∷ positions) (suc dest) at is = position-read positions dest at is

pub room-some : (size put dests at : ℕ) (positions : List (Option ℕ)) (room more : Room) → slice_get positions dests ≡ Some (Some at) → (at ≤ put) × (put ≤ at + size) → more.readers ≡ room.readers + 1 → (more.cells ≤ room.cells) × (more.cells ≤ size - (put - at)) →
    (more.cells ≡ room.cells) ⊎ (more.cells ≡ size - (put - at)) → IsRoomTo size put positions dests room → IsRoomTo size put positions (dests + 1) more
room-some size put dests at positions room more is within readers cells one so = record {
  readers = omega (arith, readers, so.readers, readers-step positions dests, ap counts_one is);
  most = omega (arith, cells.0, so.most);
  all = λ none. absurd (omega (arith, none, readers));
  each = λ dest to below there. elim (last-or dest dests below) [
    | inl low ↦ (let h = so.each dest to low there in omega (arith, h, cells.0))
    | inr here ↦ (let same : at ≡ to = same_Some at to (same_Some (Some at) (Some to) (sym is ∙ ap (slice_get positions) (sym here) ∙ there)) in omega (arith, same, cells.1, within.0, within.1))
  ];
  least = λ some. elim one [
    | inl same ↦ elim (cases_lt 0 room.readers) [
      | inl more-there ↦ (let h = so.least more-there in (h.0, h.1, omega (arith, h.2), h.3, omega (arith, h.4, same)))
      | inr none ↦ (dests, at, omega arith, is, (let all = so.all (omega (arith, none)) in omega (arith, all, same, cells.1, within.0, within.1)))
    ]
    | inr new ↦ (dests, at, omega arith, is, omega (arith, new, within.0, within.1))
  ];
}

-- one more ring
pub start-more : (sizes starts : List ℕ) (bufs words : ℕ) → length starts ≡ bufs → words ≡ start_of sizes bufs → StartAt sizes bufs starts → StartAt sizes (bufs + 1) (starts ++ words ∷ [])
start-more sizes starts bufs words long is so buf below = elim (last-or buf bufs below) [
  | inl low ↦ Rattle.gw_base.proofs.Lists.slice_get-more starts (words ∷ []) buf (start_of sizes buf) (so buf low)
  | inr at ↦ ap (slice_get (starts ++ words ∷ [])) (at ∙ sym long) ∙ last starts words ∙ ap Some (is ∙ ap (start_of sizes) (sym at))
]
  where
    last : (xs : List ℕ) (x : ℕ) → slice_get (xs ++ x ∷ []) (length xs) ≡ Some x
    last [] x = refl
    last (y ∷ xs) x = last xs x
