-- What a machine did below a tick: its older parts, whose turns are all of earlier ticks, and those of the newer ones are not.
use Rattle.std.proofs.Common.{◌≡◌, ℕ, Bool, ◌<◌, ◌≤◌, inl, inr, true, false, List, [], ◌∷◌, ◌++◌, refl, ap, sym, ◌∙◌, subst, arith, append_assoc, cond}
use Rattle.std.specs.Prelude.{nat_lt}
use Rattle.std.specs.List.{AllByRecursion}
use Rattle.std.proofs.lemmas.Bool.{cases_lt}
use Rattle.std.proofs.lemmas.Bool.Decides.{nat_tests}
use Rattle.gw_base.proofs.Lists.{all-join, all-weaker}
use Rattle.hub_core.specs.Turns.{Part, Turn, tick_after, turns_of}
use Rattle.gw_law.specs.Deeds.{before}

-- a machine's parts stand newest first, each later than the one before it
abbrev pub AreRising : {T : Type 0} → List (Part T) → Type 0
AreRising [] = Unit {0}
AreRising (part ∷ earlier) = (tick_after earlier ≤ part.tick) × AreRising earlier

-- parts of such ticks
abbrev pub InTicks : {T : Type 0} → (ℕ → Type 0) → List (Part T) → Type 0
InTicks P parts = AllByRecursion (λ part. P part.tick) parts

-- the parts below a bound, and those from it on
pub record Cut {T : Type 0} (bound : ℕ) (parts : List (Part T)) : Type 0 where
  pub later : List (Part T)
  pub is : later ++ before bound parts ≡ parts
  pub late : InTicks (λ (t : ℕ). bound ≤ t) later
  pub early : InTicks (λ (t : ℕ). t < bound) (before bound parts)

-- all parts are below the tick after the last one's
pub below-last : {T : Type 0} (bound : ℕ) (parts : List (Part T)) → tick_after parts ≤ bound → AreRising parts → InTicks (λ (t : ℕ). t < bound) parts
below-last bound [] le rising = tt
below-last bound (part ∷ earlier) le rising = (omega (arith, le), below-last bound earlier (omega (arith, le, rising.0)) rising.1)

pub cut : {T : Type 0} (bound : ℕ) (parts : List (Part T)) → AreRising parts → Cut bound parts
cut bound [] rising = record { later = []; is = refl; late = tt; early = tt }
cut {T = T} bound (part ∷ earlier) rising = elim (cases_lt part.tick bound) [
  | inl below ↦
      let keeps : nat_lt part.tick bound ≡ true = grind (arith, nat_tests, below) in
      let same : before bound (part ∷ earlier) ≡ part ∷ earlier = ap (λ b. cond b (part ∷ earlier) (before bound earlier)) keeps in
      let P : List (Part T) → Type 0 = λ l. InTicks (λ (t : ℕ). t < bound) l in
      record { later = []; is = same; late = tt; early = subst P (sym same) (below, below-last bound earlier (omega (arith, below, rising.0)) rising.1) }
  | inr from ↦
      let drops : nat_lt part.tick bound ≡ false = grind (arith, nat_tests, from) in
      let same : before bound (part ∷ earlier) ≡ before bound earlier = ap (λ b. cond b (part ∷ earlier) (before bound earlier)) drops in
      let so : Cut bound earlier = cut bound earlier rising.1 in
      let P : List (Part T) → Type 0 = λ l. InTicks (λ (t : ℕ). t < bound) l in
      record { later = part ∷ so.later; is = ap (λ l. part ∷ (so.later ++ l)) same ∙ ap (λ l. part ∷ l) so.is; late = (from, so.late); early = subst P (sym same) so.early }
]

front-by : {T : Type 0} (part : Part T) (earlier rest later : List (Part T)) (keeps : Bool) → earlier ≡ later ++ rest → (more : List (Part T)) × (part ∷ earlier ≡ more ++ cond keeps (part ∷ earlier) rest)
front-by part earlier rest later true is = ([], refl)
front-by part earlier rest later false is = (part ∷ later, ap (λ l. part ∷ l) is)

-- what was done below a bound stands at the list's end, and at the end of what was done below a later one
pub front-of : {T : Type 0} (bound : ℕ) (parts : List (Part T)) → (later : List (Part T)) × (parts ≡ later ++ before bound parts)
front-of bound [] = ([], refl)
front-of {T = T} bound (part ∷ earlier) =
    let so = front-of bound earlier in
    front-by part earlier (before bound earlier) so.0 (nat_lt part.tick bound) so.1

pub front-within : {T : Type 0} (low high : ℕ) (parts : List (Part T)) → low ≤ high → (later : List (Part T)) × (before high parts ≡ later ++ before low parts)
front-within low high [] le = ([], refl)
front-within {T = T} low high (part ∷ earlier) le = elim (cases_lt part.tick high) [
  | inl below ↦
      let keeps : nat_lt part.tick high ≡ true = grind (arith, nat_tests, below) in
      let so = front-of low (part ∷ earlier) in
      (so.0, ap (λ b. cond b (part ∷ earlier) (before high earlier)) keeps ∙ so.1)
  | inr from ↦
      let drops : nat_lt part.tick high ≡ false = grind (arith, nat_tests, from) in
      let past : nat_lt part.tick low ≡ false = grind (arith, nat_tests, from, le) in
      let so = front-within low high earlier le in
      (so.0, ap (λ b. cond b (part ∷ earlier) (before high earlier)) drops ∙ so.1 ∙ ap (λ b. so.0 ++ cond b (part ∷ earlier) (before low earlier)) (sym past))
]

-- the turns of newer parts stand before those of older ones
pub turns-append : {T : Type 0} (later earlier : List (Part T)) → turns_of (later ++ earlier) ≡ turns_of later ++ turns_of earlier
turns-append [] earlier = refl
turns-append (part ∷ later) earlier = ap (λ l. part.turns ++ l) (turns-append later earlier) ∙ sym (append_assoc part.turns (turns_of later) (turns_of earlier))

-- bounds between which no part lies leave the same parts
pub same-before : {T : Type 0} (low high : ℕ) (parts : List (Part T)) → low ≤ high → ((t : ℕ) → low ≤ t → t < high → InTicks (λ (at : ℕ). at ≡ t → ⊥) parts) → before high parts ≡ before low parts
same-before low high [] le none = refl
same-before low high (part ∷ earlier) le none =
    let rest : before high earlier ≡ before low earlier = same-before low high earlier le (λ t from to. (none t from to).1) in
    elim (cases_lt part.tick low) [
      | inl below ↦
          let in_low : nat_lt part.tick low ≡ true = grind (arith, nat_tests, below) in
          let in_high : nat_lt part.tick high ≡ true = grind (arith, nat_tests, below, le) in
          ap (λ b. cond b (part ∷ earlier) (before high earlier)) in_high ∙ sym (ap (λ b. cond b (part ∷ earlier) (before low earlier)) in_low)
      | inr from ↦ elim (cases_lt part.tick high) [
        | inl to ↦ absurd ((none part.tick from to).0 refl)
        | inr past ↦
            let out_low : nat_lt part.tick low ≡ false = grind (arith, nat_tests, from) in
            let out_high : nat_lt part.tick high ≡ false = grind (arith, nat_tests, past) in
            ap (λ b. cond b (part ∷ earlier) (before high earlier)) out_high ∙ rest ∙ sym (ap (λ b. cond b (part ∷ earlier) (before low earlier)) out_low)
      ]
    ]

-- the turns of each part are of its tick
abbrev pub AreTimed : {E C A R S : Type 0} → List (Part (Turn E C A R S)) → Type 0
AreTimed parts = AllByRecursion (λ part. AllByRecursion (λ turn. turn.did.tick ≡ part.tick) part.turns) parts

-- so turns of such parts are of such ticks
pub turns-in : {E C A R S : Type 0} (P : ℕ → Type 0) (parts : List (Part (Turn E C A R S))) → AreTimed parts → InTicks P parts → AllByRecursion (λ turn. P turn.did.tick) (turns_of parts)
turns-in P [] timed all = tt
turns-in {E = E} {C = C} {A = A} {R = R} {S = S} P (part ∷ earlier) timed all =
    all-join (λ (turn : Turn E C A R S). P turn.did.tick) part.turns (turns_of earlier)
    (all-weaker (λ (turn : Turn E C A R S). turn.did.tick ≡ part.tick) (λ (turn : Turn E C A R S). P turn.did.tick) part.turns (λ turn is. subst P (sym is) all.0) timed.0) (turns-in P earlier timed.1 all.1)

pub timed-front : {E C A R S : Type 0} (later earlier : List (Part (Turn E C A R S))) → AreTimed (later ++ earlier) → AreTimed later × AreTimed earlier
timed-front [] earlier timed = (tt, timed)
timed-front (part ∷ later) earlier timed = let so = timed-front later earlier timed.1 in ((timed.0, so.0), so.1)
