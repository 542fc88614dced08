-- What becomes of each unit of a queue.
use Rattle.std.proofs.Common.{◌≡◌, ◌≢◌, ℕ, ◌+◌, ◌<◌, ◌≤◌, Bool, true, false, true≢false, List, [], ◌∷◌, ◌++◌, length, take, drop, map, Some, zero, suc, sym, refl, ap, ◌∙◌, arith, length-take}
use Rattle.std.specs.Prelude.{slice_get}
use Rattle.std.proofs.lemmas.List.{take-append-drop}
use Rattle.std.proofs.lemmas.Option.{slice_get_within}
use mathlib.Core.Logic.{dite}
use native.Mathlib.Decide.{dec_lt, ℕ_discrete}
use Rattle.if_core.proofs.Lists.{none_some, same_of, at_take, in_take, there_is}
use Rattle.if_core.specs.Lane.{Lane, queued, queued_by, refused, refused_by, within, flushed, flushed_by, taken, IsCaused, IsQueue}
use Rattle.if_core.specs.Unit.{UnitOf}
use Rattle.if_core.specs.Fates.{times, taken_units, HasOneFate, IsFlushed, IsRefused, AreFates}
use Rattle.if_core.specs.declared.lanes.Offer.{Offer}
use Rattle.if_core.specs.declared.lanes.Offer.TheVariants.{Queued, Flushed, Refused}
use Rattle.if_core.specs.declared.history.Offering.{Offering}
use Rattle.if_core.specs.declared.history.Taking.{Taking}
use Rattle.if_core.proofs.Keeping.{within-before, within-in, within-after, taken-at}

within-join : (from mid end k : ℕ) → from ≤ mid → mid ≤ end → within from mid k + within mid end k ≡ within from end k
within-join from mid end k a b = dite (dec_lt k from)
    (λ low. let x = within-before from mid k low in let y = within-before mid end k (omega (arith, low, a)) in let z = within-before from end k low in omega (arith, x, y, z))
    (λ not. dite (dec_lt k mid)
    (λ l. let x = within-in from mid k (omega (arith, not)) l in let y = within-before mid end k l in let z = within-in from end k (omega (arith, not)) (omega (arith, l, b)) in omega (arith, x, y, z))
    (λ m. let x = within-after from mid k (omega (arith, not)) (omega (arith, m)) in dite (dec_lt k end)
    (λ l. let y = within-in mid end k (omega (arith, m)) l in let z = within-in from end k (omega (arith, not)) l in omega (arith, x, y, z))
    (λ l. let y = within-after mid end k (omega (arith, m)) (omega (arith, l)) in let z = within-after from end k (omega (arith, not)) (omega (arith, l)) in omega (arith, x, y, z))))

within-one : (a k : ℕ) → a ≡ k → within a (a + 1) k ≡ 1
within-one a k e = within-in a (a + 1) k (omega (arith, e)) (omega (arith, e))

within-other : (a k : ℕ) → a ≢ k → within a (a + 1) k ≡ 0
within-other a k ne = dite (dec_lt k a) (λ l. within-before a (a + 1) k l) (λ l. within-after a (a + 1) k (omega (arith, l)) (omega (arith, l, ne)))

-- numbers among units

times-append : (xs ys : List UnitOf) (k : ℕ) → times (xs ++ ys) k ≡ times xs k + times ys k
times-append [] ys k = omega arith
times-append (x ∷ xs) ys k = let h = times-append xs ys k in omega (arith, h)

times-at : (xs : List UnitOf) (i : ℕ) (u : UnitOf) (k : ℕ) → slice_get xs i ≡ Some u → u.number ≡ k → 0 < times xs k
times-at [] i u k e n = absurd (none_some e)
times-at (x ∷ xs) zero u k e n = let one = within-one x.number k (ap (λ (y : UnitOf). y.number) (same_of e) ∙ n) in omega (arith, one)
times-at (x ∷ xs) (suc i) u k e n = let h = times-at xs i u k e n in omega (arith, h)

times-found : (xs : List UnitOf) (k : ℕ) → 0 < times xs k → (i : ℕ) × (u : UnitOf) × (slice_get xs i ≡ Some u) × (u.number ≡ k)
times-found [] k h = absurd (omega (arith, h))
times-found (x ∷ xs) k h = dite (ℕ_discrete x.number k)
    (λ e. (0, x, refl, e))
    (λ ne. let z = within-other x.number k ne in let r = times-found xs k (omega (arith, h, z)) in (suc r.0, r.1, r.2, r.3))

taking-found : (ts : List Taking) (k : ℕ) → 0 < times (taken_units ts) k → (i : ℕ) × (t : Taking) × (slice_get ts i ≡ Some t) × (t.unit.number ≡ k)
taking-found [] k h = absurd (omega (arith, h))
taking-found (x ∷ ts) k h = dite (ℕ_discrete x.unit.number k)
    (λ e. (0, x, refl, e))
    (λ ne. let z = within-other x.unit.number k ne in let r = taking-found ts k (omega (arith, h, z)) in (suc r.0, r.1, r.2, r.3))

-- units that are numbered from a number on

abbrev Numbered : ℕ → List Offering → Type 0
Numbered n os = (k : ℕ) (o : Offering) → slice_get os k ≡ Some o → o.unit.number ≡ n + k

numbered-rest : (n : ℕ) (o : Offering) (os : List Offering) → Numbered n (o ∷ os) → Numbered (n + 1) os
numbered-rest n o os all k x is = let h = all (suc k) x is in omega (arith, h)

numbered-first : (n : ℕ) (o : Offering) (os : List Offering) → Numbered n (o ∷ os) → o.unit.number ≡ n
numbered-first n o os all = let h = all 0 o refl in omega (arith, h)

-- each is once among those queued and those refused
all_once : (n : ℕ) (os : List Offering) → Numbered n os → (k : ℕ) → times (queued os) k + times (refused os) k ≡ within n (n + length os) k
all_once n [] all k = sym (dite (dec_lt k n) (λ l. within-before n (n + 0) k l) (λ l. within-after n (n + 0) k (omega (arith, l)) (omega (arith, l))))
all_once n (o ∷ os) all k =
    let h = all_once (n + 1) os (numbered-rest n o os all) k in
    let a = times-append (queued_by o.unit o.answer) (queued os) k in
    let b = times-append (refused_by o.unit o.answer) (refused os) k in
    let one = go o.unit o.answer in
    let first : within o.unit.number (o.unit.number + 1) k ≡ within n (n + 1) k = ap (λ (m : ℕ). within m (m + 1) k) (numbered-first n o os all) in
    let join = within-join n (n + 1) (n + 1 + length os) k (omega arith) (omega arith) in
    let end : within n (n + 1 + length os) k ≡ within n (n + suc (length os)) k = ap (λ (m : ℕ). within n m k) (omega arith) in
    omega (arith, h, a, b, one, first, join, end)
  where
    go : (u : UnitOf) (a : Offer) → times (queued_by u a) k + times (refused_by u a) k ≡ within u.number (u.number + 1) k
    go u Queued = omega arith
    go u (Flushed from to) = omega arith
    go u (Refused count position) = omega arith

abbrev Above : ℕ → UnitOf → List UnitOf → Type 0
Above n u us = (i : ℕ) → slice_get us i ≡ Some u → n ≤ u.number

abbrev Rise : (u v : UnitOf) → List UnitOf → Type 0
Rise u v us = (i j : ℕ) → i < j → slice_get us i ≡ Some u → slice_get us j ≡ Some v → u.number < v.number

queued-from : (n : ℕ) (os : List Offering) → Numbered n os → (i : ℕ) (u : UnitOf) → slice_get (queued os) i ≡ Some u → n ≤ u.number
queued-from n [] all i u e = absurd (none_some e)
queued-from n (o ∷ os) all i u e = go o.unit o.answer (numbered-first n o os all) i (λ i e. queued-from (n + 1) os (numbered-rest n o os all) i u e) e
  where
    one : (x : UnitOf) → x.number ≡ n → (i : ℕ) → Above (n + 1) u (queued os) → slice_get (x ∷ queued os) i ≡ Some u → n ≤ u.number
    one x is zero above e = let same = ap (λ (y : UnitOf). y.number) (same_of e) in omega (arith, is, same)
    one x is (suc i) above e = let h = above i e in omega (arith, h)

    go : (x : UnitOf) (a : Offer) → x.number ≡ n → (i : ℕ) → Above (n + 1) u (queued os) → slice_get (queued_by x a ++ queued os) i ≡ Some u → n ≤ u.number
    go x Queued is i above e = one x is i above e
    go x (Flushed from to) is i above e = one x is i above e
    go x (Refused count position) is i above e = let h = above i e in omega (arith, h)

-- queued numbers rise
queued-rise : (n : ℕ) (os : List Offering) → Numbered n os → (i j : ℕ) (u v : UnitOf) → i < j → slice_get (queued os) i ≡ Some u → slice_get (queued os) j ≡ Some v → u.number < v.number
queued-rise n [] all i j u v less e f = absurd (none_some e)
queued-rise n (o ∷ os) all i j u v less e f = go o.unit o.answer (numbered-first n o os all) i j (λ i j less e f. queued-rise (n + 1) os (numbered-rest n o os all) i j u v less e f) less e f
  where
    one : (x : UnitOf) → x.number ≡ n → (i j : ℕ) → Rise u v (queued os) → i < j → slice_get (x ∷ queued os) i ≡ Some u → slice_get (x ∷ queued os) j ≡ Some v → u.number < v.number
    one x is zero zero rest less e f = absurd (omega (arith, less))
    one x is zero (suc j) rest less e f =
        let same = ap (λ (y : UnitOf). y.number) (same_of e) in
        let above = queued-from (n + 1) os (numbered-rest n o os all) j v f in
        omega (arith, is, same, above)
    one x is (suc i) zero rest less e f = absurd (omega (arith, less))
    one x is (suc i) (suc j) rest less e f = rest i j (omega (arith, less)) e f

    go : (x : UnitOf) (a : Offer) → x.number ≡ n → (i j : ℕ) → Rise u v (queued os) → i < j → slice_get (queued_by x a ++ queued os) i ≡ Some u → slice_get (queued_by x a ++ queued os) j ≡ Some v → u.number < v.number
    go x Queued is i j rest less e f = one x is i j rest less e f
    go x (Flushed from to) is i j rest less e f = one x is i j rest less e f
    go x (Refused count position) is i j rest less e f = rest i j less e f

-- a queue that flushes queues every unit, and one that keeps flushes none

abbrev Queues : List Offering → Type 0
Queues os = (k : ℕ) (o : Offering) → slice_get os k ≡ Some o → (u : UnitOf) → queued_by u o.answer ≡ u ∷ []

all_queued : (os : List Offering) → Queues os → queued os ≡ map (λ (o : Offering). o.unit) os
all_queued [] all = refl
all_queued (o ∷ os) all = ap (λ (us : List UnitOf). us ++ queued os) (all 0 o refl o.unit) ∙ ap (λ (us : List UnitOf). o.unit ∷ us) (all_queued os (λ k x is. all (suc k) x is))

at_map : (os : List Offering) (i : ℕ) (u : UnitOf) → slice_get (map (λ (o : Offering). o.unit) os) i ≡ Some u → (o : Offering) × (slice_get os i ≡ Some o) × (o.unit ≡ u)
at_map [] i u e = absurd (none_some e)
at_map (o ∷ os) zero u e = (o, refl, same_of e)
at_map (o ∷ os) (suc i) u e = at_map os i u e

length-units : (os : List Offering) → length (map (λ (o : Offering). o.unit) os) ≡ length os
length-units [] = refl
length-units (o ∷ os) = ap suc (length-units os)

flushed-none : (os : List Offering) → ((k : ℕ) (o : Offering) → slice_get os k ≡ Some o → (j : ℕ) → flushed_by o.answer j ≡ 0) → (j : ℕ) → flushed os j ≡ 0
flushed-none [] all j = refl
flushed-none (o ∷ os) all j = let a = all 0 o refl j in let h = flushed-none os (λ k x is. all (suc k) x is) j in omega (arith, a, h)

flush-found : (os : List Offering) (j : ℕ) → 0 < flushed os j → (m : ℕ) × (o : Offering) × (slice_get os m ≡ Some o) × (0 < flushed_by o.answer j)
flush-found [] j h = absurd (omega (arith, h))
flush-found (o ∷ os) j h = dite (dec_lt 0 (flushed_by o.answer j))
    (λ yes. (0, o, refl, yes))
    (λ no. let r = flush-found os j (omega (arith, h, no)) in (suc r.0, r.1, r.2, r.3))

module _ (d : ℕ) (keep : Bool) (p : ℕ) (l : Lane) (q : IsQueue d keep p l) where
  abbrev us : List UnitOf
  us = queued l.offers

  numbered : Numbered 0 l.offers
  numbered k o is = let h = q.numbers k o is in omega (arith, h)

  queues_all : keep ≡ false → Queues l.offers
  queues_all gives k o is u = go o.answer (q.caused k o is)
    where
      go : (a : Offer) → IsCaused d keep (length (queued (take k l.offers))) a → queued_by u a ≡ u ∷ []
      go Queued c = refl
      go (Flushed from to) c = refl
      go (Refused count position) c = absurd (true≢false (sym c.0 ∙ gives))

  keeps_all : keep ≡ true → (j : ℕ) → flushed l.offers j ≡ 0
  keeps_all keeps = flushed-none l.offers (λ k o is j. go k o.answer (q.caused k o is) j)
    where
      go : (k : ℕ) (a : Offer) → IsCaused d keep (length (queued (take k l.offers))) a → (j : ℕ) → flushed_by a j ≡ 0
      go k Queued c j = refl
      go k (Flushed from to) c j = absurd (true≢false (sym keeps ∙ c.0))
      go k (Refused count position) c j = refl

  -- in a queue that flushes a unit's position is its number
  number_at : keep ≡ false → (j : ℕ) (u : UnitOf) → slice_get us j ≡ Some u → u.number ≡ j
  number_at gives j u is =
      let r = at_map l.offers j u (sym (ap (λ (xs : List UnitOf). slice_get xs j) (all_queued l.offers (queues_all gives))) ∙ is) in
      sym (ap (λ (y : UnitOf). y.number) r.2) ∙ q.numbers j r.0 r.1

  count_at : keep ≡ false → (m : ℕ) → m ≤ length l.offers → length (queued (take m l.offers)) ≡ m
  count_at gives m le =
      let some = all_queued (take m l.offers) (λ k o is. queues_all gives k o (at_take l.offers m k o is).0) in
      ap length some ∙ length-units (take m l.offers) ∙ length-of
    where
      length-of : length (take m l.offers) ≡ m
      length-of = let h = length-take m l.offers in omega (arith, h, le)

  -- a taken unit lies below the position
  taken_below : (i : ℕ) (t : Taking) → slice_get l.takes i ≡ Some t → t.position < p
  taken_below i t is = dite (dec_lt t.position p) (λ yes. yes)
      (λ no. let none = q.left t.position (omega (arith, no)) in let some = taken-at l.takes i t is in absurd (omega (arith, none, some)))

  -- of a unit at a position the number is taken as often as the position
  taken_number : (j : ℕ) (u : UnitOf) → slice_get us j ≡ Some u → (ts : List Taking) → ((i : ℕ) (t : Taking) → slice_get ts i ≡ Some t → slice_get us t.position ≡ Some t.unit) →
      times (taken_units ts) u.number ≡ taken ts j
  taken_number j u is [] all = refl
  taken_number j u is (t ∷ ts) all =
      let h = taken_number j u is ts (λ i x there. all (suc i) x there) in
      let one = one_of in
      omega (arith, h, one)
    where
      here : slice_get us t.position ≡ Some t.unit
      here = all 0 t refl

      one_of : within t.unit.number (t.unit.number + 1) u.number ≡ within t.position (t.position + 1) j
      one_of = dite (ℕ_discrete t.position j)
          (λ e. let same : t.unit ≡ u = same_of (sym here ∙ ap (λ (i : ℕ). slice_get us i) e ∙ is) in
          within-one t.unit.number u.number (ap (λ (y : UnitOf). y.number) same) ∙ sym (within-one t.position j e))
          (λ ne. let a = within-other t.position j ne in dite (dec_lt t.position j)
          (λ less. let r = queued-rise 0 l.offers numbered t.position j t.unit u less here is in within-other t.unit.number u.number (λ e. omega (arith, e, r)) ∙ sym a)
          (λ more. let r = queued-rise 0 l.offers numbered j t.position u t.unit (omega (arith, more, ne)) is here in within-other t.unit.number u.number (λ e. omega (arith, e, r)) ∙ sym a))

  flushed_number : (j : ℕ) (u : UnitOf) → slice_get us j ≡ Some u → flushed l.offers u.number ≡ flushed l.offers j
  flushed_number j u is = go keep refl
    where
      go : (b : Bool) → keep ≡ b → flushed l.offers u.number ≡ flushed l.offers j
      go true e = keeps_all e u.number ∙ sym (keeps_all e j)
      go false e = ap (λ (n : ℕ). flushed l.offers n) (number_at e j u is)

  one_fate : (k : ℕ) → k < length l.offers → HasOneFate p l k
  one_fate k h =
      let whole = all_once 0 l.offers numbered k in
      let in_range = within-in 0 (0 + length l.offers) k (omega arith) (omega (arith, h)) in
      let cut : times us k ≡ times (take p us) k + times (drop p us) k = sym (ap (λ (xs : List UnitOf). times xs k) (take-append-drop p us)) ∙ times-append (take p us) (drop p us) k in
      dite (dec_lt 0 (times (take p us) k))
      (λ some. let r = times-found (take p us) k some in
      let at = at_take us p r.0 r.1 r.2 in
      let t : times (taken_units l.takes) k ≡ taken l.takes r.0 = ap (λ (n : ℕ). times (taken_units l.takes) n) (sym r.3) ∙ taken_number r.0 r.1 at.0 l.takes q.units in
      let f : flushed l.offers k ≡ flushed l.offers r.0 = ap (λ (n : ℕ). flushed l.offers n) (sym r.3) ∙ flushed_number r.0 r.1 at.0 in
      let one = q.gone r.0 at.1 in
      omega (arith, whole, in_range, cut, t, f, one, some))
      (λ none. let t = no_take k none in let f = no_flush k none in omega (arith, whole, in_range, cut, none, t, f))
    where
      no_take : (k : ℕ) → (0 < times (take p us) k → ⊥) → times (taken_units l.takes) k ≡ 0
      no_take k none = dite (dec_lt 0 (times (taken_units l.takes) k))
          (λ some. let r = taking-found l.takes k some in
          absurd (none (times-at (take p us) r.1.position r.1.unit k (in_take us p r.1.position r.1.unit (q.units r.0 r.1 r.2) (taken_below r.0 r.1 r.2)) r.3)))
          (λ no. omega (arith, no))

      no_flush_by : (k : ℕ) → (0 < times (take p us) k → ⊥) → (b : Bool) → keep ≡ b → 0 < flushed l.offers k → ⊥
      no_flush_by k none true e some = let z = keeps_all e k in omega (arith, z, some)
      no_flush_by k none false e some = dite (dec_lt k p)
          (λ low. let r = there_is us k (omega (arith, low, q.below)) in none (times-at (take p us) k r.0 k (in_take us p k r.0 r.1 low) (number_at e k r.0 r.1)))
          (λ high. let z = q.left k (omega (arith, high)) in omega (arith, z, some))

      no_flush : (k : ℕ) → (0 < times (take p us) k → ⊥) → flushed l.offers k ≡ 0
      no_flush k none = dite (dec_lt 0 (flushed l.offers k)) (λ some. absurd (no_flush_by k none keep refl some)) (λ no. omega (arith, no))

  flushed_by_unit : (k : ℕ) → 0 < flushed l.offers k → IsFlushed d keep l k
  flushed_by_unit k h = let r = flush-found l.offers k h in go r.0 r.1.unit r.1.answer r.2 (q.caused r.0 r.1 r.2) r.3
    where
      go : (m : ℕ) (u : UnitOf) (a : Offer) → slice_get l.offers m ≡ Some (record { unit = u; answer = a }) → IsCaused d keep (length (queued (take m l.offers))) a → 0 < flushed_by a k → IsFlushed d keep l k
      go m u Queued is c some = absurd (omega (arith, some))
      go m u (Refused count position) is c some = absurd (omega (arith, some))
      go m u (Flushed from to) is c some =
          let inside = slice_get_within l.offers m _ is in
          let n = count_at c.0 m (omega (arith, inside)) in
          dite (dec_lt k from)
          (λ low. let z = within-before from (to + 1) k low in absurd (omega (arith, z, some)))
          (λ at. dite (dec_lt k (to + 1))
          (λ under. record {
            by = m;
            after = omega (arith, under, c.2, n);
            near = omega (arith, c.3, n, at);
            full = omega (arith, c.4, n);
            flushes = c.0;
            unit = u;
            from = from;
            to = to;
            there = is;
            among = (omega (arith, at), omega (arith, under));
          })
          (λ high. let z = within-after from (to + 1) k (omega (arith, at)) (omega (arith, high)) in absurd (omega (arith, z, some))))

  refused_for : (k : ℕ) (u : UnitOf) (count at : ℕ) → slice_get l.offers k ≡ Some (record { unit = u; answer = Refused count at }) → IsRefused d keep l k
  refused_for k u count at is = let c = q.caused k (record { unit = u; answer = Refused count at }) is in record { keeps = c.0; full = omega (arith, c.2) }

  -- after a unit at the position or later none is taken or flushed
  not_taken : (j : ℕ) (u : UnitOf) → p ≤ j → slice_get us j ≡ Some u → (k : ℕ) → u.number < k → times (taken_units l.takes) k ≡ 0
  not_taken j u on is k above = dite (dec_lt 0 (times (taken_units l.takes) k))
      (λ some. let r = taking-found l.takes k some in
      let low = taken_below r.0 r.1 r.2 in
      let rise = queued-rise 0 l.offers numbered r.1.position j r.1.unit u (omega (arith, low, on)) (q.units r.0 r.1 r.2) is in
      absurd (omega (arith, rise, r.3, above)))
      (λ no. omega (arith, no))

  not_flushed_by : (j : ℕ) (u : UnitOf) → p ≤ j → slice_get us j ≡ Some u → (k : ℕ) → u.number < k → (b : Bool) → keep ≡ b → flushed l.offers k ≡ 0
  not_flushed_by j u on is k above true e = keeps_all e k
  not_flushed_by j u on is k above false e = let n = number_at e j u is in let none = q.left k (omega (arith, n, on, above)) in omega (arith, none)

  pub fates : AreFates d keep p l
  fates = record {
    one = one_fate;
    flushed_units = flushed_by_unit;
    refused_units = refused_for;
    held_last = λ j u on is k above. (not_taken j u on is k above, not_flushed_by j u on is k above keep refl);
    in_order = λ i j s t less first second.
        queued-rise 0 l.offers numbered s.position t.position s.unit t.unit (q.rising i j s t less first second) (q.units i s first) (q.units j t second);
  }
