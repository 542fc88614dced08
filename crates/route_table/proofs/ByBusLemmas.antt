-- The lists of the buses, one after another.
use Rattle.std.proofs.Common.{◌≡◌, ℕ, zero, suc, ◌+◌, ◌<◌, ◌≤◌, false, Some, None, List, [], ◌∷◌, ◌++◌, length, length-append, inl, inr, refl, ap, below_more, arith}
use Rattle.std.specs.Prelude.{◌==◌, All, Vec, filter, slice_get}
use Rattle.std.specs.Global.{Global}
use Rattle.std.proofs.lemmas.Bool.{cases_lt, ne_eqb}
use Rattle.std.proofs.lemmas.List.Elements.{All-head, All-tail}
use Rattle.std.proofs.lemmas.Option.{slice_get_past}
use Rattle.route_table.specs.ByBus.{items_of}

module _ {X : Type 0} where
  get_before : (xs : List X) (last : X) (i : ℕ) → i < length xs → slice_get (xs ++ last ∷ []) i ≡ slice_get xs i
  get_before [] last i within = absurd (omega arith)
  get_before (x ∷ xs) last zero within = refl
  get_before (x ∷ xs) last (suc i) within = get_before xs last i (omega arith)

  get_last : (xs : List X) (last : X) → slice_get (xs ++ last ∷ []) (length xs) ≡ Some last
  get_last [] last = refl
  get_last (x ∷ xs) last = get_last xs last

module _ {E : Type 0} (bus_of : E → ℕ) (entries : List E) where
  -- the lists of the first buses
  pub record AreLists (lists : List (Vec E Global)) (count : ℕ) : Type 0 where
    pub as_many : length lists ≡ count
    pub each : (bus : ℕ) → bus < count → items_of (slice_get lists bus) ≡ filter (λ entry. bus_of entry == bus) entries

  pub lists_none : (lists : List (Vec E Global)) → lists ≡ [] → AreLists lists 0
  lists_none lists empty = record { as_many = ap length empty; each = λ bus within. absurd (omega arith) }

  pub lists_more : (lists longer : List (Vec E Global)) (count : ℕ) (next : Vec E Global) → AreLists lists count →
      next.items ≡ filter (λ entry. bus_of entry == count) entries → longer ≡ lists ++ next ∷ [] → AreLists longer (count + 1)
  lists_more lists longer count next before is same = record {
    as_many = rw (same, length-append, before.as_many) refl;
    each = below_more _ _
        (λ bus within. let here : bus < length lists = omega (arith, before.as_many) in rw (same, get_before lists next bus here) (before.each bus within))
        (rw (same, ← before.as_many, get_last lists next) (rw before.as_many is));
  }

none_on : {E : Type 0} (bus_of : E → ℕ) (count bus : ℕ) → count ≤ bus → (entries : List E) → All (λ entry. bus_of entry < count) entries →
    filter (λ entry. bus_of entry == bus) entries ≡ []
none_on bus_of count bus past [] below = refl
none_on bus_of count bus past (entry ∷ entries) below =
    let here : bus_of entry < count = All-head (λ entry. bus_of entry < count) entry entries below in
    let other : (bus_of entry == bus) ≡ false = ne_eqb _ _ (λ same. omega arith) in
    rw other (none_on bus_of count bus past entries (All-tail (λ entry. bus_of entry < count) entry entries below))

-- the lists of all buses that have entries
pub lists_all : {E : Type 0} (bus_of : E → ℕ) (entries : List E) (lists : List (Vec E Global)) (count : ℕ) → AreLists bus_of entries lists count →
    All (λ entry. bus_of entry < count) entries → (bus : ℕ) → items_of (slice_get lists bus) ≡ filter (λ entry. bus_of entry == bus) entries
lists_all bus_of entries lists count are below bus =
    elim (cases_lt bus count) [ inl within ↦ are.each bus within | inr past ↦ past_end past ]
  where
    past_end : count ≤ bus → items_of (slice_get lists bus) ≡ filter (λ entry. bus_of entry == bus) entries
    past_end past =
        let none : slice_get lists bus ≡ None = slice_get_past lists bus (omega (arith, are.as_many)) in
        rw (none, none_on bus_of count bus past entries below) refl
