-- The moves of the pool in the run of two paths.
use Rattle.std.proofs.Common.{◌≡◌, ◌⊎◌, ℕ, zero, suc, ◌+◌, ◌<◌, ◌≤◌, inl, inr, true≢false, List, [], ◌∷◌, Some, None, refl, ap, sym, ◌∙◌, subst, arith}
use Rattle.std.specs.Prelude.{slice_get, slice_index, IsBitSet}
use Rattle.std.proofs.lemmas.Bool.Decides.{eqb_tells}
use Rattle.gw_base.proofs.Lists.{same-some}
use Rattle.gw_base.specs.Fit.{Fits, IsSmallest}
use Rattle.gw_base.specs.declared.numbers.BufNo.{BufNo}
use Rattle.hub_core.specs.Groups.{place_of}
use Rattle.hub_core.specs.declared.record.Move.{Move}
use Rattle.hub_core.specs.declared.record.OpenedAt.{OpenedAt}
use Rattle.hub_core.specs.declared.record.SessionRecord.{SessionRecord}
use Rattle.tp_unit.specs.Reading.{unit_in}
use Rattle.gw_law.specs.Examples.{frees, lawful_run, long_session, short_session, takes}
use Rattle.gw_law.specs.Pool.{AreFreed, AreNamed, Channel, IsLawfulMove, IsUnnamed, free_at, IsNextMove, IsOpened, IsServed, MovesBuf, freeing, move_numbered, place_in, taking}
use Rattle.gw_law.specs.PoolOfAccount.{PoolOf, PoolOfGroup, channels_of}
use Rattle.gw_law.proofs.literals.Items.{alone}

abbrev groups : List (List ℕ)
groups = lawful_run.plan.groups

abbrev moves : List Move
moves = lawful_run.moves

abbrev channels : List Channel
channels = channels_of lawful_run 0

-- the four moves
data IsMove (number : ℕ) (move : Move) : Type 0 where
  First : number ≡ 1 → takes 1 0 ≡ move → IsMove number move
  Second : number ≡ 2 → takes 2 1 ≡ move → IsMove number move
  Third : number ≡ 3 → frees 3 1 ≡ move → IsMove number move
  Fourth : number ≡ 4 → frees 4 0 ≡ move → IsMove number move

move-is : (number : ℕ) (move : Move) → move_numbered moves number ≡ Some move → IsMove number move
move-is number move there = elim (eqb_tells 1 number) [
  | inl same ↦ First (sym same.1) (same-some (rw (same.0) refl) there)
  | inr first ↦ elim (eqb_tells 2 number) [
    | inl same ↦ Second (sym same.1) (same-some (rw (first.0, same.0) refl) there)
    | inr second ↦ elim (eqb_tells 3 number) [
      | inl same ↦ Third (sym same.1) (same-some (rw (first.0, second.0, same.0) refl) there)
      | inr third ↦ elim (eqb_tells 4 number) [
        | inl same ↦ Fourth (sym same.1) (same-some (rw (first.0, second.0, third.0, same.0) refl) there)
        | inr fourth ↦ absurd (let none : None ≡ Some move = sym (rw (first.0, second.0, third.0, fourth.0) refl) ∙ there in cc)
      ]
    ]
  ]
]

-- the move of a number whose buffer is known
buf-is : (one move : Move) → one ≡ move → one.buf.0 ≡ move.buf.0
buf-is one move same = ap (λ (m : Move). m.buf.0) same

took-is : (one move : Move) → one ≡ move → one.took ≡ move.took
took-is one move same = ap (λ (m : Move). m.took) same

-- the moves of a buffer
data IsMoveOf (buf number : ℕ) : Type 0 where
  OfFirst : buf ≡ 0 → (number ≡ 1) ⊎ (number ≡ 4) → IsMoveOf buf number
  OfSecond : buf ≡ 1 → (number ≡ 2) ⊎ (number ≡ 3) → IsMoveOf buf number

moves-buf : (buf number : ℕ) → MovesBuf moves buf number → IsMoveOf buf number
moves-buf buf number moved = elim (move-is number moved.0 moved.1) [
  | First at is ↦ OfFirst (sym moved.2 ∙ sym (buf-is _ _ is)) (inl at)
  | Second at is ↦ OfSecond (sym moved.2 ∙ sym (buf-is _ _ is)) (inl at)
  | Third at is ↦ OfSecond (sym moved.2 ∙ sym (buf-is _ _ is)) (inr at)
  | Fourth at is ↦ OfFirst (sym moved.2 ∙ sym (buf-is _ _ is)) (inr at)
]

-- where the two sessions were opened
abbrev long_opened : OpenedAt
long_opened = record { seq = 0; buf = record { 0 = 0 }; change = 1 }

abbrev short_opened : OpenedAt
short_opened = record { seq = 0; buf = record { 0 = 1 }; change = 2 }

-- the two sessions that were opened
data IsOneOpened (chan place : ℕ) (opened : OpenedAt) : Type 0 where
  Long : chan ≡ 0 → place ≡ 0 → long_opened ≡ opened → IsOneOpened chan place opened
  Short : chan ≡ 1 → place ≡ 0 → short_opened ≡ opened → IsOneOpened chan place opened

at-zero : {A : Type 0} (x y : A) (place : ℕ) → slice_get (x ∷ []) place ≡ Some y → place ≡ 0
at-zero x y zero there = refl
at-zero x y (suc place) there = absurd (let none : None ≡ Some y = there in cc)

opened-is : (chan place : ℕ) (opened : OpenedAt) → IsOpened channels chan place opened → IsOneOpened chan place opened
opened-is zero place opened is =
    let channel = same-some refl is.channel_is in
    let there : slice_get (long_session ∷ []) place ≡ Some is.told = subst (λ (c : Channel). slice_get c.records place ≡ Some is.told) (sym channel) is.told_is in
    let told : long_session ≡ is.told = alone _ _ place there in
    Long refl (at-zero _ _ place there) (same-some {item = Some long_opened} refl (ap (λ (s : SessionRecord). s.opened) told ∙ is.opened_is))
opened-is (suc zero) place opened is =
    let channel = same-some refl is.channel_is in
    let there : slice_get (short_session 2 ∷ []) place ≡ Some is.told = subst (λ (c : Channel). slice_get c.records place ≡ Some is.told) (sym channel) is.told_is in
    let told : short_session 2 ≡ is.told = alone _ _ place there in
    Short refl (at-zero _ _ place there) (same-some {item = Some short_opened} refl (ap (λ (s : SessionRecord). s.opened) told ∙ is.opened_is))
opened-is (suc (suc chan)) place opened is = absurd (let none : None ≡ Some is.channel = is.channel_is in cc)

change-is : (one opened : OpenedAt) → one ≡ opened → one.change ≡ opened.change
change-is one opened same = ap (λ (o : OpenedAt). o.change) same

long-is-opened : IsOpened channels 0 0 long_opened
long-is-opened = record { channel = _; channel_is = refl; told = long_session; told_is = refl; opened_is = refl }

short-is-opened : IsOpened channels 1 0 short_opened
short-is-opened = record { channel = _; channel_is = refl; told = short_session 2; told_is = refl; opened_is = refl }

-- the first take is of the smaller buffer, the second of the only one that is free
smaller : IsSmallest (2 ∷ 4 ∷ []) 3 1 0
smaller = record { fits = record { there = omega arith; is_free = λ none. cc; enough = omega arith }; fewest = λ other fits. fewest other fits.there; first = λ other fits same. omega arith }
  where
    fewest : (other : ℕ) → other < 2 → 2 ≤ slice_index (2 ∷ 4 ∷ []) other
    fewest zero below = omega arith
    fewest (suc zero) below = omega arith
    fewest (suc (suc other)) below = absurd (omega (arith, below))

only-free : (other : ℕ) → Fits (2 ∷ 4 ∷ []) 2 1 other → other ≡ 1
only-free zero fits = absurd (fits.is_free refl)
only-free (suc zero) fits = refl
only-free (suc (suc other)) fits = absurd (omega (arith, fits.there))

remaining : IsSmallest (2 ∷ 4 ∷ []) 2 1 1
remaining = record {
  fits = record { there = omega arith; is_free = λ none. cc; enough = omega arith };
  fewest = λ other fits. subst (λ (b : ℕ). 4 ≤ slice_index (2 ∷ 4 ∷ []) b) (sym (only-free other fits)) (omega arith);
  first = λ other fits same. let one = only-free other fits in omega (arith, one);
}

served-long : (opened : OpenedAt) → Some long_opened ≡ Some opened → IsServed groups 0 moves 1 opened
served-long opened is = subst (IsServed groups 0 moves 1) (same-some refl is) (record { before = 0; change_is = refl; its = refl; takes = refl; smallest = smaller })

served-short : (opened : OpenedAt) → Some short_opened ≡ Some opened → IsServed groups 0 moves 1 opened
served-short opened is = subst (IsServed groups 0 moves 1) (same-some refl is) (record { before = 1; change_is = refl; its = refl; takes = refl; smallest = remaining })

each : (number : ℕ) → number < 4 → (move : Move) × (move_numbered moves (number + 1) ≡ Some move) × IsLawfulMove (2 ∷ 4 ∷ []) (free_at (2 ∷ 4 ∷ []) moves number) move
each zero below = (takes 1 0, refl, record { there = omega arith; kind = (λ took none. cc, λ free. refl) })
each (suc zero) below = (takes 2 1, refl, record { there = omega arith; kind = (λ took none. cc, λ free. refl) })
each (suc (suc zero)) below = (frees 3 1, refl, record { there = omega arith; kind = (λ took. absurd (true≢false (sym took)), λ free. absurd (free refl)) })
each (suc (suc (suc zero))) below = (frees 4 0, refl, record { there = omega arith; kind = (λ took. absurd (true≢false (sym took)), λ free. absurd (free refl)) })
each (suc (suc (suc (suc number)))) below = absurd (omega (arith, below))

own : (chan other_chan place other : ℕ) (opened reopened : OpenedAt) → IsOpened channels chan place opened → IsOpened channels other_chan other reopened →
    opened.change ≡ reopened.change → (chan ≡ other_chan) × (place ≡ other)
own chan other_chan place other opened reopened one two same = elim (opened-is chan place opened one) [
  | Long at first is ↦ elim (opened-is other_chan other reopened two) [
    | Long also again of ↦ (at ∙ sym also, first ∙ sym again)
    | Short also again of ↦ absurd (let a = change-is _ _ is in let b = change-is _ _ of in omega (arith, a, b, same))
  ]
  | Short at first is ↦ elim (opened-is other_chan other reopened two) [
    | Long also again of ↦ absurd (let a = change-is _ _ is in let b = change-is _ _ of in omega (arith, a, b, same))
    | Short also again of ↦ (at ∙ sym also, first ∙ sym again)
  ]
]

-- each take has its session
unused : (number later : ℕ) (buf : BufNo) → move_numbered moves number ≡ Some (taking number buf) → IsUnnamed channels number → MovesBuf moves buf.0 later → later ≤ number
unused number later buf taken unnamed moved = elim (move-is number _ taken) [
  | First at is ↦ absurd (unnamed 0 0 long_opened long-is-opened (sym at))
  | Second at is ↦ absurd (unnamed 1 0 short_opened short-is-opened (sym at))
  | Third at is ↦ absurd (true≢false (sym (took-is _ _ is)))
  | Fourth at is ↦ absurd (true≢false (sym (took-is _ _ is)))
]

-- the first number after another
abbrev NextOf : (buf number later : ℕ) → Type 0
NextOf buf number later = IsNextMove moves buf number later

next : (number later : ℕ) (buf : BufNo) → move_numbered moves number ≡ Some (taking number buf) → NextOf buf.0 number later → move_numbered moves later ≡ Some (freeing later buf)
next number later buf taken after = elim (move-is number _ taken) [
  | First at is ↦ elim (moves-buf buf.0 later after.moves_buf) [
    | OfFirst zero_is numbers ↦ elim numbers [
      | inl one ↦ absurd (let above = after.after in omega (arith, at, one, above))
      | inr four ↦ subst (λ (l : ℕ). move_numbered moves l ≡ Some (freeing l buf)) (sym four) (subst (λ (b : BufNo). move_numbered moves 4 ≡ Some (freeing 4 b)) (ap (λ (m : Move). m.buf) is) refl)
    ]
    | OfSecond one_is numbers ↦ absurd (let zero_is = buf-is _ _ is in omega (arith, one_is, zero_is))
  ]
  | Second at is ↦ elim (moves-buf buf.0 later after.moves_buf) [
    | OfFirst zero_is numbers ↦ absurd (let one_is = buf-is _ _ is in omega (arith, one_is, zero_is))
    | OfSecond one_is numbers ↦ elim numbers [
      | inl two ↦ absurd (let above = after.after in omega (arith, at, two, above))
      | inr three ↦ subst (λ (l : ℕ). move_numbered moves l ≡ Some (freeing l buf)) (sym three) (subst (λ (b : BufNo). move_numbered moves 3 ≡ Some (freeing 3 b)) (ap (λ (m : Move). m.buf) is) refl)
    ]
  ]
  | Third at is ↦ absurd (true≢false (sym (took-is _ _ is)))
  | Fourth at is ↦ absurd (true≢false (sym (took-is _ _ is)))
]

-- the buffers are freed by the third move and by the fourth
after-first : NextOf 0 1 4
after-first = record {
  moves_buf = (frees 4 0, refl, refl);
  after = omega arith;
  first = λ other moved above. elim (moves-buf 0 other moved) [
    | OfFirst zero_is numbers ↦ elim numbers [
      | inl one ↦ absurd (omega (arith, one, above))
      | inr four ↦ omega (arith, four)
    ]
    | OfSecond one_is numbers ↦ absurd (omega (arith, one_is))
  ];
}

after-second : NextOf 1 2 3
after-second = record { moves_buf = (frees 3 1, refl, refl); after = omega arith; first = λ other moved above. omega (arith, above) }

freed : AreFreed groups channels moves
freed chan place opened is = elim (opened-is chan place opened is) [
  | Long at first same ↦ subst (λ (o : OpenedAt). (later : ℕ) × NextOf (place_of groups o.buf.0) o.change later × (move_numbered moves later ≡ Some (freeing later (place_in groups o.buf)))) same (4, after-first, refl)
  | Short at first same ↦ subst (λ (o : OpenedAt). (later : ℕ) × NextOf (place_of groups o.buf.0) o.change later × (move_numbered moves later ≡ Some (freeing later (place_in groups o.buf)))) same (3, after-second, refl)
]

named : AreNamed groups channels moves
named number move there took = elim (move-is number move there) [
  | First at is ↦ record { chan = 0; place = 0; opened = long_opened; is = long-is-opened; change_is = sym at; buf_is = ap (λ (m : Move). m.buf) is }
  | Second at is ↦ record { chan = 1; place = 0; opened = short_opened; is = short-is-opened; change_is = sym at; buf_is = ap (λ (m : Move). m.buf) is }
  | Third at is ↦ absurd (true≢false (sym (took-is _ _ is ∙ took)))
  | Fourth at is ↦ absurd (true≢false (sym (took-is _ _ is ∙ took)))
]

all-free : (buf : ℕ) → buf < 2 → IsBitSet 3 buf
all-free zero below = λ none. cc
all-free (suc zero) below = λ none. cc
all-free (suc (suc buf)) below = absurd (omega (arith, below))

one_group : PoolOfGroup lawful_run 0
unfolding unit_in
one_group = record {
  law = record {
    replayed = record { numbered = (refl, (refl, (refl, (refl, tt)))); count_is = refl; each = each; free_is = refl };
    asks = (
      (record { served = served-long; refused = λ change free need told. absurd (cc) }, tt),
      ((record { served = served-short; refused = λ change free need told. absurd (cc) }, tt), tt),
    );
    own = own;
    unused = unused;
    next = next;
  };
  ends = record { freed = freed; whole = λ names. all-free };
  named = named;
  whole = all-free;
}

each-group : (group : ℕ) → group < 1 → PoolOfGroup lawful_run group
each-group zero there = one_group
each-group (suc group) there = absurd (omega (arith, there))

pub pool : PoolOf lawful_run
pool = record { each = each-group; there = (omega arith, (omega arith, (omega arith, (omega arith, tt)))) }
