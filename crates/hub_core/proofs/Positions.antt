-- What a row tells of its session's parties: who has a position takes part, and who has none has left.
use Rattle.std.proofs.Common.{◌≡◌, ℕ, ◌<◌, ◌≤◌, inl, inr, zero, suc, Bool, true, false, true≢false, List, Option, Some, None, refl, ap, sym, ◌∙◌, arith}
use Rattle.std.proofs.lemmas.Bool.{ltb-true, ltb-false, or_cases, or_parts}
use Rattle.std.proofs.lemmas.Option.{same_Some}
use Rattle.std.specs.Prelude.{◌||◌, nat_lt, slice_get, option_map}
use Rattle.hub_core.specs.Joint.{IsOver, position}
use Rattle.hub_core.specs.Plain.{sight_of, sight_in, position_of, readers_to, IsRowOf}
use Rattle.hub_core.specs.View.{View, Session, Reading, session_at, reading_at}
use Rattle.hub_core.specs.declared.place.Row.{Row}

-- where some are counted one has a position, and where none is none has
some-reader : (positions : List (Option ℕ)) (n : ℕ) → 0 < readers_to positions n →
    (dest : ℕ) × (at : ℕ) × (dest < n) × (slice_get positions dest ≡ Some (Some at))
some-reader positions zero some = absurd (omega (arith, some))
some-reader positions (suc n) some = here (slice_get positions n) refl (some-reader positions n)
  where
    here : (found : Option (Option ℕ)) → slice_get positions n ≡ found → (0 < readers_to positions n →
        (dest : ℕ) × (at : ℕ) × (dest < n) × (slice_get positions dest ≡ Some (Some at))) →
        (dest : ℕ) × (at : ℕ) × (dest < suc n) × (slice_get positions dest ≡ Some (Some at))
    here (Some (Some at)) is rest = (n, at, omega arith, is)
    here found is rest = let more = rest (grind (arith, some, is)) in (more.0, more.1, omega (arith, more.2), more.3)

no-reader : (positions : List (Option ℕ)) (n dest : ℕ) (found : Option ℕ) → readers_to positions n ≡ 0 → dest < n →
    slice_get positions dest ≡ Some found → found ≡ None
no-reader positions zero dest found none below is = absurd (omega (arith, below))
no-reader positions (suc n) dest found none below is = grind (arith, no-reader positions n dest found)

-- what a position says of its destination
pub stands-there : (s : Session) (dest at : ℕ) (found : Option Reading) → position_of (Some s) dest found ≡ Some at →
    (dest < s.dests) × ((r : Reading) → found ≡ Some r → r.stands ≡ true) × (at ≡ position found)
stands-there s dest at found is = grind arith

pub left-there : (s : Session) (dest : ℕ) (found : Option Reading) → position_of (Some s) dest found ≡ None →
    dest < s.dests → (r : Reading) × (found ≡ Some r) × (r.stands ≡ false)
left-there s dest found is below = grind arith

-- a row tells whether its session is over
module _ (w : View) (buf path seq : ℕ) (row : Row) (s : Session) (shown : IsRowOf w buf row) (path-is : row.path ≡ path)
    (seq-is : row.seq ≡ seq) (at : session_at w path seq ≡ Some s) where
  there : session_at w row.path row.seq ≡ Some s
  there = rw (path-is, seq-is) at

  sight : sight_of s ≡ sight_in buf row
  sight = same_Some (sight_of s) (sight_in buf row) (sym (ap (option_map sight_of) there) ∙ shown.session)

  position-there : (dest : ℕ) → dest < 8 →
      slice_get row.positions dest ≡ Some (position_of (Some s) dest (reading_at w path dest seq))
  position-there dest below =
      shown.positions dest below ∙ ap (λ (o : Option Session). Some (position_of o dest (reading_at w row.path dest row.seq))) there
      ∙ ap (λ (x : ℕ × ℕ). Some (position_of (Some s) dest (reading_at w x.0 dest x.1))) (λ i. (path-is i, seq-is i))

  pub not-over : (row.writes || nat_lt 0 (readers_to row.positions 8)) ≡ true → IsOver w path seq s → ⊥
  not-over party over = elim (or_cases row.writes (nat_lt 0 (readers_to row.positions 8)) party) [
    | inl writes ↦ true≢false (sym writes ∙ sym (ap (λ (x : ℕ × ℕ × ℕ × ℕ × Bool). x.4) sight) ∙ over.writer)
    | inr reads ↦
        let some = some-reader row.positions 8 (ltb-true 0 (readers_to row.positions 8) reads) in
        let found = reading_at w path some.0 seq in
        let its = stands-there s some.0 some.1 found (same_Some _ _ (sym (position-there some.0 some.2) ∙ some.3)) in
        let gone = over.dests some.0 its.0 in
        true≢false (sym (its.1 gone.0 gone.1) ∙ gone.2)
  ]

  pub is-over : s.dests ≤ 8 → (row.writes || nat_lt 0 (readers_to row.positions 8)) ≡ false → IsOver w path seq s
  is-over few none =
      let parts = or_parts row.writes (nat_lt 0 (readers_to row.positions 8)) none in
      let no-one : readers_to row.positions 8 ≡ 0 = omega (arith, ltb-false 0 (readers_to row.positions 8) parts.1) in
      record {
        writer = ap (λ (x : ℕ × ℕ × ℕ × ℕ × Bool). x.4) sight ∙ parts.0;
        dests = λ dest below.
            let low : dest < 8 = omega (arith, below, few) in
            let found = reading_at w path dest seq in
            left-there s dest found (no-reader row.positions 8 dest _ no-one low (position-there dest low)) below;
      }
