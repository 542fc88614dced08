-- What a destination's records tell: whose they are, when they end, and what holds of each join holds of what is sent and told.
use Rattle.std.proofs.Common.{◌≡◌, ◌⊎◌, inl, inr, ℕ, ◌<◌, ◌≤◌, Option, Some, None, List, [], ◌∷◌, ◌++◌, length, arith}
use Rattle.tp_sender.specs.Runs.{HasSent}
use Rattle.hub_core.specs.Turns.{state_after, records_by}
use Rattle.std.specs.List.{AllByRecursion}
use Rattle.hub_core.specs.declared.port.Seen.{Seen as Look}
use Rattle.hub_core.specs.declared.record.DestRecord.{DestRecord}
use Rattle.tp_sender.specs.declared.event.TxEvent.{TxEvent}
use Rattle.tp_sender.specs.declared.set.TxSet.{TxSet}
use Rattle.tp_sender.specs.Effects.{MayBe, TxStage, TxDone, TxEffect, done_by, done_then, found_by}
use Rattle.tp_sender.specs.Effects.{Misses, Joins, Looks, Reads, Offers, Leaves, Waits, Ends}
use Rattle.tp_sender.specs.Own.{IsToldIn, KeepsToOwn}
use Rattle.tp_sender.specs.State.{TxState, TxTurn, tx_new, Transmission, TxDid}
use Rattle.tp_sender.specs.Table.{TxStep}
use Rattle.tp_sender.proofs.Effects.{HoldsOf, IsDoneLaw, of-step}
use Rattle.tp_sender.proofs.Made.{amid}
use Rattle.tp_sender.proofs.Own.{own}
use Rattle.gw_base.proofs.Lists.{all-join, all-weaker}

-- of the session that is sent, and of the record that is told
abbrev pub OfLive : (ℕ → ℕ → Type 0) → Option Transmission → Type 0
OfLive Q None = Unit {0}
OfLive Q (Some s) = Q s.seq s.begin

abbrev pub OfTold : (ℕ → ℕ → Type 0) → DestRecord → Type 0
OfTold Q told = Q told.seq told.begin.0

-- it holds of each session that is joined between two numbers
abbrev pub OfJoins : (ℕ → ℕ → Type 0) → (tick next last : ℕ) → Type 0
OfJoins Q tick next last = (number : ℕ) → next ≤ number → number < last → Q number tick

-- what holds of the session that is sent, and of each that is joined, holds of what is told and of what is sent then
record Keeps (Q : ℕ → ℕ → Type 0) (tick : ℕ) (p : TxStage) (d : TxDone) : Type 0 where
  next : p.next ≤ d.new.next
  told : OfJoins Q tick p.next d.new.next → OfLive Q p.live → AllByRecursion (OfTold Q) d.records
  live : OfJoins Q tick p.next d.new.next → OfLive Q p.live → OfLive Q d.new.live

each : (Q : ℕ → ℕ → Type 0) (set : TxSet) (tick : ℕ) (event : TxEvent) (look : Option Look) (next : ℕ) (effect : TxEffect) → MayBe set tick event look effect → Keeps Q tick (amid event look next (found_by effect)) (done_by set tick (amid event look next (found_by effect)) effect)
each Q set tick event look next Misses may = record { next = omega arith; told = λ joins live. tt; live = λ joins live. live }
each Q set tick event look next (Joins buf len) may = record { next = omega arith; told = λ joins live. tt; live = λ joins live. joins next (omega arith) (omega arith) }
each Q set tick event look next (Looks s seen) may = record { next = omega arith; told = λ joins live. tt; live = λ joins live. live }
each Q set tick event look next (Reads s cells) may = record { next = omega arith; told = λ joins live. tt; live = λ joins live. live }
each Q set tick event look next (Offers s) may = record { next = omega arith; told = λ joins live. tt; live = λ joins live. live }
each Q set tick event look next (Leaves s sent number block phase) may = record { next = omega arith; told = λ joins live. tt; live = λ joins live. live }
each Q set tick event look next (Waits s phase block gap) may = record { next = omega arith; told = λ joins live. tt; live = λ joins live. live }
each Q set tick event look next (Ends s sent act result left) may = record { next = omega arith; told = λ joins live. (live, tt); live = λ joins live. tt }

keeps-both : (Q : ℕ → ℕ → Type 0) (tick : ℕ) (p : TxStage) (first later : TxDone) → Keeps Q tick p first → Keeps Q tick first.new later → Keeps Q tick p (done_then first later)
keeps-both Q tick p first later one two =
    let early : OfJoins Q tick p.next later.new.next → OfJoins Q tick p.next first.new.next = λ joins number from below. joins number from (omega (arith, below, two.next)) in
    let late : OfJoins Q tick p.next later.new.next → OfJoins Q tick first.new.next later.new.next = λ joins number from below. joins number (omega (arith, from, one.next)) below in
    record {
      next = omega (arith, one.next, two.next);
      told = λ joins live. all-join (OfTold Q) first.records later.records (one.told (early joins) live) (two.told (late joins) (one.live (early joins) live));
      live = λ joins live. two.live (late joins) (one.live (early joins) live);
    }

law : (Q : ℕ → ℕ → Type 0) (set : TxSet) (tick : ℕ) → IsDoneLaw set tick (Keeps Q tick)
law Q set tick = record {
  none = λ p. record { next = omega arith; told = λ joins live. tt; live = λ joins live. live };
  then = keeps-both Q tick;
  each = each Q set tick;
}

-- a record that a step makes: it is the destination's, it ends in that tick, and nothing is sent after it
pub record IsToldBy (Q : ℕ → ℕ → Type 0) (set : TxSet) (did : TxDid) (told : DestRecord) : Type 0 where
  pub of : OfTold Q told
  pub path : told.path ≡ set.path
  pub dest : told.dest ≡ set.dest
  pub end : told.end.0 ≡ did.tick
  pub over : did.new.live ≡ None

abbrev pub Holds : (ℕ → ℕ → Type 0) → TxSet → TxDid → Type 0
Holds Q set did = AllByRecursion (IsToldBy Q set did) did.records × OfLive Q did.new.live × (length did.records ≤ 1)

told-all : (Q : ℕ → ℕ → Type 0) (set : TxSet) (did : TxDid) (records : List DestRecord) → AllByRecursion (OfTold Q) records → AllByRecursion (IsToldIn set did.tick) records → did.new.live ≡ None → AllByRecursion (IsToldBy Q set did) records
told-all Q set did [] of is gone = tt
told-all Q set did (told ∷ records) of is gone = (record { of = of.0; path = is.0.path; dest = is.0.dest; end = is.0.end; over = gone }, told-all Q set did records of.1 is.1 gone)

told-last : (Q : ℕ → ℕ → Type 0) (set : TxSet) (did : TxDid) (records : List DestRecord) → AllByRecursion (OfTold Q) records → AllByRecursion (IsToldIn set did.tick) records → (records ≡ []) ⊎ (did.new.live ≡ None) → AllByRecursion (IsToldBy Q set did) records
told-last Q set did records of is last = elim last [ inl none ↦ rw none tt | inr gone ↦ told-all Q set did records of is gone ]

-- the next number never falls, and grows where a session is joined
abbrev pub HoldsStep : (ℕ → ℕ → Type 0) → TxSet → ℕ → TxTurn → Type 0
HoldsStep Q set next m = (next ≤ m.did.new.next) × (OfJoins Q m.did.tick next m.did.new.next → Holds Q set m.did)

pub step-by : (Q : ℕ → ℕ → Type 0) (set : TxSet) (old : TxState) (m : TxTurn) → OfLive Q old.live → TxStep set old m.event m.did → HoldsStep Q set old.next m
step-by Q set old m of row =
    let is : HoldsOf (Keeps Q m.did.tick) old m.event m.did = of-step set (Keeps Q m.did.tick) old m.event m.did (law Q set m.did.tick) row in
    let mine : KeepsToOwn set old m.did = own set old m.event m.did row in
    (mine.next, λ joins. (told-last Q set m.did m.did.records (is.holds.told joins of) mine.records mine.last, is.holds.live joins of, mine.few))

-- no more than what each step tells
abbrev pub Any : ℕ → ℕ → Type 0
Any number begin = Unit {0}

any-live : (live : Option Transmission) → OfLive Any live
any-live None = tt
any-live (Some s) = tt

pub told-by : (set : TxSet) (old : TxState) (m : TxTurn) → TxStep set old m.event m.did → AllByRecursion (IsToldBy Any set m.did) m.did.records
told-by set old m row = ((step-by Any set old m (any-live old.live) row).1 (λ number from below. tt)).0

-- each moment is a step of such a tick
abbrev pub InTicks : (ℕ → Type 0) → TxTurn → Type 0
InTicks P m = P m.did.tick

-- moments of such ticks after earlier ones, up to so many sessions
pub record Originates (Q : ℕ → ℕ → Type 0) (moments : List TxTurn) : Type 0 where
  pub told : AllByRecursion (OfTold Q) (records_by moments)
  pub live : OfLive Q (state_after tx_new moments).live

pub originates : (P : ℕ → Type 0) (Q : ℕ → ℕ → Type 0) (set : TxSet) (most : ℕ) (moments earlier : List TxTurn) → ((number tick : ℕ) → P tick → number < most → Q number tick) → HasSent set (moments ++ earlier) → AllByRecursion (InTicks P) moments →
    (state_after tx_new (moments ++ earlier)).next ≤ most → Originates Q earlier → Originates Q (moments ++ earlier) × ((state_after tx_new earlier).next ≤ (state_after tx_new (moments ++ earlier)).next)
originates P Q set most [] earlier join happened ticks below so = (so, omega arith)
originates P Q set most (m ∷ moments) earlier join happened ticks below so =
    let old : TxState = state_after tx_new (moments ++ earlier) in
    let grows : old.next ≤ m.did.new.next = (own set old m.event m.did happened.1.1).next in
    let before = originates P Q set most moments earlier join happened.2 ticks.1 (omega (arith, grows, below)) so in
    let now : Holds Q set m.did = (step-by Q set old m before.0.live happened.1.1).1 (λ number from lt. join number m.did.tick ticks.0 (omega (arith, lt, below))) in
    (record { told = all-join (OfTold Q) (records_by (moments ++ earlier)) m.did.records before.0.told (all-weaker (IsToldBy Q set m.did) (OfTold Q) m.did.records (λ told is. is.of) now.0); live = now.1 }, omega (arith, before.1, grows))
