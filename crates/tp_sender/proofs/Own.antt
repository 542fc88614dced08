-- Every step offers data frames of its channel alone, and tells of one session of its own at the most.
use Rattle.std.proofs.Common.{◌≡◌, ℕ, ◌≤◌, Bool, true, false, if◌then◌else◌, Option, None, Some, List, [], ◌∷◌, ◌++◌, length, inl, inr, ◌⊎◌, refl, sym, ◌∙◌, subst, arith, append-nil}
use Rattle.std.specs.Prelude.{◌==◌, map}
use Rattle.hub_core.specs.View.{Read}
use Rattle.std.specs.List.{AllByRecursion}
use Rattle.gw_base.proofs.Lists.{all-join}
use Rattle.hub_core.specs.declared.port.Seen.{Seen as Look}
use Rattle.hub_core.specs.declared.record.DestResult.{DestResult}
use Rattle.tp_unit.specs.Shape.{part_of_start}
use Rattle.tp_unit.specs.Unit.{BoxMeaning, Keeps, Offers as OffersUnit, Revokes, SingleFrame, FirstFrame, ConsecutiveFrame}
use Rattle.tp_sender.specs.declared.event.TxEvent.{TxEvent}
use Rattle.tp_sender.specs.declared.event.TxEvent.TheVariants.{Turn, Left}
use Rattle.tp_sender.specs.declared.set.TxSet.{TxSet}
use Rattle.tp_sender.specs.declared.transmission.Phase.{Phase}
use Rattle.tp_sender.specs.declared.transmission.Phase.TheVariants.{Start, Bytes, Box, Fc, Gap}
use Rattle.tp_sender.specs.Effects.{AreEffects, IsEffect, IsMade, IsSettled, MayBe, MayEnd, TxStage, TxDone, TxEffect, act_then, done_by, done_by_all, done_then, found_by}
use Rattle.tp_sender.specs.Effects.{Misses, Joins, Looks, Reads, Offers, Leaves, Waits, Ends, GapIsOver, IsContinued, IsPaused, IsReached, IsWhole, IsCut}
use Rattle.tp_sender.specs.Own.{OfDest, IsFittingAct, IsToldIn, KeepsToOwn}
use Rattle.tp_unit.specs.Box.{IsNoData}
use Rattle.tp_sender.specs.State.{Transmission, TxDid, TxState}
use Rattle.tp_sender.specs.Table.{TxStep, revoked}
use Rattle.tp_sender.proofs.Effects.{HoldsOf, IsDoneLaw, of-step}
use Rattle.tp_sender.proofs.Made.{amid, made}

-- one record at the most, and nothing is done after it
record IsLast (d : TxDone) : Type 0 where
  one : length d.records ≤ 1
  over : d.new.event ≡ None
  gone : d.new.live ≡ None

-- what holds of all that is done; where nothing is left to be done, nothing is
record IsOwn (set : TxSet) (tick : ℕ) (p : TxStage) (d : TxDone) : Type 0 where
  calls : AllByRecursion (OfDest set.path.0 set.dest.0) d.calls
  act : IsFittingAct set d.act
  records : AllByRecursion (IsToldIn set tick) d.records
  last : (d.records ≡ []) ⊎ IsLast d
  idle : p.event ≡ None → (d.records ≡ []) × (d.new.event ≡ None) × (d.new.live ≡ p.live)
  next : p.next ≤ d.new.next

act-both : (set : TxSet) (first later : BoxMeaning) → IsFittingAct set first → IsFittingAct set later → IsFittingAct set (act_then first later)
act-both set Keeps later one two = two
act-both set (OffersUnit unit) Keeps one two = one
act-both set (OffersUnit unit) (OffersUnit later) one two = two
act-both set (OffersUnit unit) Revokes one two = two
act-both set Revokes Keeps one two = tt
act-both set Revokes (OffersUnit later) one two = two
act-both set Revokes Revokes one two = tt

last-then : (set : TxSet) (tick : ℕ) (p : TxStage) (first later : TxDone) → IsOwn set tick p first → IsOwn set tick first.new later → (first.records ++ later.records ≡ []) ⊎ IsLast (done_then first later)
last-then set tick p first later one two = elim one.last [
  | inl none ↦ elim two.last [
    | inl empty ↦ inl (rw (none, empty) refl)
    | inr last ↦ inr (record { one = rw none last.one; over = last.over; gone = last.gone })
  ]
  | inr last ↦
      let rest = two.idle last.over in
      inr (record { one = rw (rest.0, append-nil first.records) last.one; over = rest.1; gone = rest.2 ∙ last.gone })
]

data-by : (len number : ℕ) (bytes : List ℕ) (start single : Bool) → IsNoData (if start then (if single then SingleFrame bytes else FirstFrame len bytes) else ConsecutiveFrame number bytes) → ⊥
data-by len number bytes true true none = none
data-by len number bytes true false none = none
data-by len number bytes false single none = none

act-revoked : (set : TxSet) (phase : Phase) → IsFittingAct set (revoked phase)
act-revoked set Start = tt
act-revoked set Bytes = tt
act-revoked set Box = tt
act-revoked set Fc = tt
act-revoked set (Gap until) = tt

act-ends : (set : TxSet) (event : TxEvent) (look : Option Look) (s : Transmission) (sent : ℕ) (act : BoxMeaning) (result : DestResult) → MayEnd set event look s sent act result → IsFittingAct set act
act-ends set event look s sent act result (IsWhole left box whole all keeps is) = rw keeps tt
act-ends set event look s sent act result (IsCut told other all is shows) = rw is (act-revoked set s.phase)

reads : (set : TxSet) (seq : ℕ) (cells : List ℕ) → AllByRecursion (OfDest set.path.0 set.dest.0) (map (Read set.path.0 set.dest.0 seq) cells)
reads set seq [] = tt
reads set seq (cell ∷ cells) = ((refl, refl), reads set seq cells)

each : (set : TxSet) (tick : ℕ) (event : TxEvent) (look : Option Look) (next : ℕ) (effect : TxEffect) → MayBe set tick event look effect → IsOwn set tick (amid event look next (found_by effect)) (done_by set tick (amid event look next (found_by effect)) effect)
each set tick event look next Misses may = record { calls = ((refl, refl), tt); act = tt; records = tt; last = inl refl; idle = λ none. cc; next = omega arith }
each set tick event look next (Joins buf len) may = record { calls = ((refl, refl), tt); act = tt; records = tt; last = inl refl; idle = λ none. cc; next = omega arith }
each set tick event look next (Looks s seen) may = record { calls = ((refl, refl), tt); act = tt; records = tt; last = inl refl; idle = λ none. cc; next = omega arith }
each set tick event look next (Reads s cells) may = record { calls = reads set s.seq cells; act = tt; records = tt; last = inl refl; idle = λ none. cc; next = omega arith }
each set tick event look next (Offers s) may = record {
  calls = tt;
  act = record { carries = λ none. data-by s.len s.number _ (s.sent == 0) (part_of_start set.shape s.len).single none; fits = may.fits };
  records = tt;
  last = inl refl;
  idle = λ none. cc;
  next = omega arith;
}
each set tick event look next (Leaves s sent number block phase) may = record { calls = tt; act = tt; records = tt; last = inl refl; idle = λ none. cc; next = omega arith }
each set tick event look next (Waits s phase block gap) may = record { calls = tt; act = tt; records = tt; last = inl refl; idle = λ none. cc; next = omega arith }
each set tick event look next (Ends s sent act result left) may = record {
  calls = ((refl, refl), tt);
  act = act-ends set event look s sent act result may;
  records = (record { path = refl; dest = refl; end = refl }, tt);
  last = inr (record { one = omega arith; over = refl; gone = refl });
  idle = λ none. cc;
  next = omega arith;
}

law : (set : TxSet) (tick : ℕ) → IsDoneLaw set tick (IsOwn set tick)
law set tick = record {
  none = λ p. record { calls = tt; act = tt; records = tt; last = inl refl; idle = λ none. (refl, none, refl); next = omega arith };
  then = λ p first later one two. record {
    calls = all-join (OfDest set.path.0 set.dest.0) first.calls later.calls one.calls two.calls;
    act = act-both set first.act later.act one.act two.act;
    records = all-join (IsToldIn set tick) first.records later.records one.records two.records;
    last = last-then set tick p first later one two;
    idle = λ none. let before = one.idle none in let after = two.idle before.1 in (rw (before.0, after.0) refl, after.1, after.2 ∙ before.2);
    next = omega (arith, one.next, two.next);
  };
  each = each set tick;
}

few-by : (d : TxDone) → (d.records ≡ []) ⊎ IsLast d → length d.records ≤ 1
few-by d last = elim last [ inl none ↦ rw none (omega arith) | inr is ↦ is.one ]

last-by : (d : TxDone) → (d.records ≡ []) ⊎ IsLast d → (d.records ≡ []) ⊎ (d.new.live ≡ None)
last-by d last = elim last [ inl none ↦ inl none | inr is ↦ inr is.gone ]

pub own : (set : TxSet) (old : TxState) (event : TxEvent) (did : TxDid) → TxStep set old event did → KeepsToOwn set old did
own set old event did row =
    let is : HoldsOf (IsOwn set did.tick) old event did = of-step set (IsOwn set did.tick) old event did (law set did.tick) row in
    record { calls = is.holds.calls; act = is.holds.act; records = is.holds.records; few = few-by _ is.holds.last; last = last-by _ is.holds.last; next = is.holds.next }

-- where the event is that the frame in the box left, a session is sent whose frame lies there
pub record HasBoxed (live : Option Transmission) : Type 0 where
  pub s : Transmission
  pub is : live ≡ Some s
  pub box : s.phase ≡ Box

boxed-by : (set : TxSet) (tick : ℕ) (look : Option Look) (effect : TxEffect) → MayBe set tick Left look effect → HasBoxed (found_by effect)
boxed-by set tick look Misses may = absurd may
boxed-by set tick look (Joins buf len) may = absurd may.0
boxed-by set tick look (Looks s seen) may = cc
boxed-by set tick look (Reads s cells) may = let no : Left ≡ Turn = may.0 in cc
boxed-by set tick look (Offers s) may = let no : Left ≡ Turn = may.turn in cc
boxed-by set tick look (Leaves s sent number block phase) may = record { s = s; is = refl; box = may.box }
boxed-by set tick look (Waits s phase block gap) (IsReached at was is kept) = cc
boxed-by set tick look (Waits s phase block gap) (GapIsOver until at was over is kept) = cc
boxed-by set tick look (Waits s phase block gap) (IsContinued bs st at was is size gap_is) = cc
boxed-by set tick look (Waits s phase block gap) (IsPaused bs st at was is kept) = cc
boxed-by set tick look (Ends s sent act result left) (IsWhole told box whole all keeps is) = record { s = s; is = refl; box = box }
boxed-by set tick look (Ends s sent act result left) (IsCut told other all keeps shows) = absurd (told refl)

boxed-in : (set : TxSet) (tick next : ℕ) (live : Option Transmission) (effects : List TxEffect) → AreEffects set tick (amid Left None next live) effects → (IsSettled (Some Left) live → ⊥) → HasBoxed live ⊎ (effects ≡ [])
boxed-in set tick next live [] are out = inr refl
boxed-in set tick next live (effect ∷ later) are out =
    let is : IsEffect set tick (amid Left None next live) effect = are.0 in
    let event : Left ≡ is.event = (let same : Some Left ≡ Some is.event = is.told in cc) in
    let P : TxEvent → Type 0 = λ e. MayBe set tick e None effect in
    let B : Option Transmission → Type 0 = λ l. HasBoxed l in
    inl (subst B (sym is.finds) (boxed-by set tick None effect (subst P (sym event) is.may)))

none-settled : (set : TxSet) (next : ℕ) (live : Option Transmission) (did : TxDid) → (made : IsMade set (record { next = next; live = live }) Left did) → made.effects ≡ [] → ⊥
none-settled set next live did made none =
    let P : List TxEffect → Type 0 = λ l. IsSettled (done_by_all set did.tick (amid Left None next live) l).new.event did.new.live in
    subst P none made.settled

pub has-boxed : (set : TxSet) (old : TxState) (event : TxEvent) (did : TxDid) → event ≡ Left → TxStep set old event did → HasBoxed old.live
has-boxed set old event did left row =
    let P : TxEvent → Type 0 = λ e. TxStep set old e did in
    let is : IsMade set old Left did = made set old Left did (subst P left row) in
    elim (boxed-in set did.tick old.next old.live is.effects is.are (λ no. no)) [ inl boxed ↦ boxed | inr none ↦ absurd (none-settled set old.next old.live did is none) ]
