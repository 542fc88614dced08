-- A destination's session in its turn.
use Rattle.std.proofs.Common.{◌≡◌, ℕ, ◌+◌, ◌<◌, ◌≤◌, Bool, List, [], refl, sym, subst, ◌∙◌, arith}
use Rattle.tp_sender.specs.declared.transmission.Phase.{Phase}
use Rattle.tp_sender.specs.declared.transmission.Phase.TheVariants.{Start, Bytes, Box, Fc, Gap}
use Rattle.tp_unit.specs.Box.{Answer}
use Rattle.tp_sender.specs.State.{Transmission, TxDid}
use Rattle.std.specs.Prelude.{drop}
use Rattle.std.specs.List.{AllByRecursion}
use Rattle.hub_core.specs.View.{Event}
use Rattle.hub_core.specs.declared.port.Seen.{Seen as Look}
use Rattle.hub_core.specs.declared.record.DestResult.TheVariants.{AsTimeout, SourceEnded, BsTimeout, CsTimeout}
use Rattle.tp_sender.specs.declared.set.TxSet.{TxSet}
use Rattle.tp_sender.specs.Table.{InBytes, InGap, InStart, InTurn, InWait, Lacks, fetched, in_phase, next_part, revoked}
use Rattle.tp_sender.specs.Table.{Due, Enough, GapLasts, GapOver, MayCome, NeverReached, NotDue, NotReached, Reached, Short, TooLate, WriterGone}
use Rattle.tp_unit.specs.Unit.{Keeps}
use Rattle.sender_law.specs.Runs.{HasLimits}
use Rattle.sender_law.specs.TransmissionCauses.{AwaitsSince, IsAllowed, left_up_to}
use Rattle.sender_law.proofs.causes.TxCausesLists.{Splits, asked, left-all, pace-now}
use Rattle.sender_law.proofs.causes.TxCausesSteps.{Comes, InBoxNow, InGapNow, MayFrom, Opens, PhaseIn, Stands, Turned, Waits, Goes, allowed-now, at-phase, ends, waits-anew}
use Rattle.gw_base.proofs.Lists.{all-weaker}

-- all that left stands up to the tick
pub up-to-now : (tick : ℕ) (ticks : List ℕ) → AllByRecursion (λ (at : ℕ). at < tick) ticks → left_up_to tick ticks ≡ ticks
up-to-now tick ticks past = left-all tick ticks (all-weaker (λ (at : ℕ). at < tick) (λ (at : ℕ). at ≤ tick) ticks (λ at lt. omega (arith, lt)) past)

of-lacks : (full : ℕ → Bool) (tx : TxSet) (all so_far : List Answer) (last : ℕ) (ticks : List ℕ) (s : Transmission) (look : Look) (calls : List Event) (did : TxDid) → s.phase ≡ Bytes → Splits all so_far did.tick (did.tick + 1) → Stands full tx all did.tick ticks s.begin s.sent s.since →
    MayFrom tx all so_far s.begin ticks s.block s.gap s.since → Lacks tx s look calls did → Comes full tx all last (Turned full tx all so_far did.tick) ticks did.records did.new.live
of-lacks full tx all so_far last ticks s look calls did phase splits stands from (WriterGone gone row) =
    ends full tx all last (Turned full tx all so_far did.tick) ticks s Keeps SourceEnded calls did row (allowed-now tx all so_far did.tick s.begin ticks s.block s.gap s.since did.tick splits stands.waits from) stands.counted stands.in_time
of-lacks full tx all so_far last ticks s look calls did phase splits stands from (TooLate there late row) =
    let allowed : IsAllowed (asked tx all) s.begin ticks did.tick s.since = allowed-now tx all so_far did.tick s.begin ticks s.block s.gap s.since s.since splits (omega arith) from in
    ends full tx all last (Turned full tx all so_far did.tick) ticks s Keeps (CsTimeout look.bytes) calls did row (record { from = allowed.from; allowed = allowed.allowed; late = omega (arith, late, allowed.by_is) }) stands.counted stands.in_time
of-lacks full tx all so_far last ticks s look calls did phase splits stands from (MayCome there early row) =
    Goes s row.records row.live (record { stands = stands; phase = at-phase (PhaseIn full tx all so_far (did.tick + 1) did.tick s.begin ticks s.block s.gap s.since) s.phase Bytes phase (from, omega (arith, early)) })

of-bytes : (full : ℕ → Bool) (tx : TxSet) (all so_far : List Answer) (last : ℕ) (ticks : List ℕ) (s : Transmission) (calls : List Event) (did : TxDid) → HasLimits tx → s.phase ≡ Bytes → Splits all so_far did.tick (did.tick + 1) → Stands full tx all did.tick ticks s.begin s.sent s.since →
    MayFrom tx all so_far s.begin ticks s.block s.gap s.since → InBytes tx s calls did → Comes full tx all last (Turned full tx all so_far did.tick) ticks did.records did.new.live
of-bytes full tx all so_far last ticks s calls did limits phase splits stands from (Enough look cells fetches row) =
    Goes (in_phase Box did.tick (record (fetched cells s) { carried = drop (next_part tx (fetched cells s)) (fetched cells s).carried })) row.records row.live
    (record {
      stands = waits-anew full tx all did.tick ticks s.begin s.sent s.since did.tick (omega arith) stands;
      phase = record { may = record { from = s.since; may = from; by_is = stands.waits }; blocked = λ tick le lt. absurd (omega (arith, le, lt)); in_time = omega (arith, limits.n_as) };
    })
of-bytes full tx all so_far last ticks s calls did limits phase splits stands from (Short look cells more fetches short lacks) = of-lacks full tx all so_far last ticks (fetched cells s) look more did phase splits stands from lacks

pub of-start : (full : ℕ → Bool) (tx : TxSet) (all so_far : List Answer) (last : ℕ) (ticks : List ℕ) (s : Transmission) (calls : List Event) (did : TxDid) → HasLimits tx → s.phase ≡ Start → Splits all so_far did.tick (did.tick + 1) → Stands full tx all did.tick ticks s.begin s.sent s.since → ticks ≡ [] → s.since ≡ s.begin →
    InStart tx s calls did → Comes full tx all last (Turned full tx all so_far did.tick) ticks did.records did.new.live
of-start full tx all so_far last ticks s calls did limits phase splits stands none since (Reached look more are reached bytes) =
    let P : List ℕ → Type 0 = λ l. MayFrom tx all so_far s.begin l s.block s.gap did.tick in
    of-bytes full tx all so_far last ticks (in_phase Bytes did.tick s) more did limits refl splits (waits-anew full tx all did.tick ticks s.begin s.sent s.since did.tick (omega arith) stands) (subst P (sym none) stands.began) bytes
of-start full tx all so_far last ticks s calls did limits phase splits stands none since (NeverReached look more are reached gone row) =
    let P : List ℕ → Type 0 = λ l. MayFrom tx all so_far s.begin l s.block s.gap did.tick in
    let from : MayFrom tx all so_far s.begin ticks s.block s.gap did.tick = subst P (sym none) stands.began in
    ends full tx all last (Turned full tx all so_far did.tick) ticks s Keeps SourceEnded more did row (allowed-now tx all so_far did.tick s.begin ticks s.block s.gap did.tick did.tick splits (omega arith) from) stands.counted stands.in_time
of-start full tx all so_far last ticks s calls did limits phase splits stands none since (NotReached look more are reached there row) =
    Goes s row.records row.live (record { stands = stands; phase = at-phase (PhaseIn full tx all so_far (did.tick + 1) did.tick s.begin ticks s.block s.gap s.since) s.phase Start phase (none, since) })

-- a flow control is awaited
of-wait : (full : ℕ → Bool) (tx : TxSet) (all so_far : List Answer) (last : ℕ) (ticks : List ℕ) (s : Transmission) (calls : List Event) (did : TxDid) → s.phase ≡ Fc → Splits all so_far did.tick (did.tick + 1) → Stands full tx all did.tick ticks s.begin s.sent s.since →
    Waits tx all so_far did.tick ticks s.since → InWait tx s tx.n_bs BsTimeout calls did → Comes full tx all last (Turned full tx all so_far did.tick) ticks did.records did.new.live
of-wait full tx all so_far last ticks s calls did phase splits stands waits (Due late row) =
    let A : List ℕ → Type 0 = λ l. AwaitsSince (asked tx all) l did.tick s.since in
    ends full tx all last (Turned full tx all so_far did.tick) ticks s (revoked s.phase) BsTimeout calls did row
    (record {
      since = s.since;
      awaits = subst A (sym (up-to-now did.tick ticks stands.past)) (subst A (sym waits.are) (waits.left, pace-now tx all so_far did.tick waits.first waits.later splits ∙ waits.pace));
      due = omega (arith, late, waits.in_time);
    }) stands.counted stands.in_time
of-wait full tx all so_far last ticks s calls did phase splits stands waits (NotDue early row) =
    Goes s row.records row.live (record {
      stands = stands;
      phase = at-phase (PhaseIn full tx all so_far (did.tick + 1) did.tick s.begin ticks s.block s.gap s.since) s.phase Fc phase
          (record { first = waits.first; later = waits.later; are = waits.are; left = waits.left; pace = waits.pace; before = omega (arith, waits.before); in_time = omega (arith, early) });
    })

-- a frame lies in the box
of-box : (full : ℕ → Bool) (tx : TxSet) (all so_far : List Answer) (last : ℕ) (ticks : List ℕ) (s : Transmission) (calls : List Event) (did : TxDid) → s.phase ≡ Box → Splits all so_far did.tick (did.tick + 1) → Stands full tx all did.tick ticks s.begin s.sent s.since →
    InBoxNow full tx all so_far did.tick did.tick s.begin ticks s.block s.gap s.since → InWait tx s tx.n_as AsTimeout calls did → Comes full tx all last (Turned full tx all so_far did.tick) ticks did.records did.new.live
of-box full tx all so_far last ticks s calls did phase splits stands box (Due late row) =
    ends full tx all last (Turned full tx all so_far did.tick) ticks s (revoked s.phase) AsTimeout calls did row
    (record {
      since = s.since;
      allowed = allowed-now tx all so_far did.tick s.begin ticks s.block s.gap box.may.from s.since splits box.may.by_is box.may.may;
      blocked = box.blocked;
      over = omega (arith, late, box.in_time);
    }) stands.counted stands.in_time
of-box full tx all so_far last ticks s calls did phase splits stands box (NotDue early row) =
    Goes s row.records row.live (record {
      stands = stands;
      phase = at-phase (PhaseIn full tx all so_far (did.tick + 1) did.tick s.begin ticks s.block s.gap s.since) s.phase Box phase (record { may = box.may; blocked = box.blocked; in_time = omega (arith, early) });
    })

of-gap : (full : ℕ → Bool) (tx : TxSet) (all so_far : List Answer) (last : ℕ) (ticks : List ℕ) (s : Transmission) (phase : Phase) (until : ℕ) (calls : List Event) (did : TxDid) → HasLimits tx → s.phase ≡ phase →
    (InGapNow tx all so_far (did.tick + 1) s.begin ticks s.block s.gap s.since until → PhaseIn full tx all so_far (did.tick + 1) did.tick s.begin ticks s.block s.gap s.since phase) → Splits all so_far did.tick (did.tick + 1) → Stands full tx all did.tick ticks s.begin s.sent s.since →
    InGapNow tx all so_far did.tick s.begin ticks s.block s.gap s.since until → InGap tx s until calls did → Comes full tx all last (Turned full tx all so_far did.tick) ticks did.records did.new.live
of-gap full tx all so_far last ticks s phase until calls did limits same on splits stands gap (GapOver over bytes) =
    let now : until ≡ did.tick = omega (arith, over, gap.in_time) in
    let P : ℕ → Type 0 = λ t. MayFrom tx all so_far s.begin ticks s.block s.gap t in
    of-bytes full tx all so_far last ticks (in_phase Bytes did.tick s) calls did limits refl splits (waits-anew full tx all did.tick ticks s.begin s.sent s.since did.tick (omega arith) stands) (subst P now gap.may) bytes
of-gap full tx all so_far last ticks s phase until calls did limits same on splits stands gap (GapLasts before row) =
    Goes s row.records row.live (record { stands = stands; phase = at-phase (PhaseIn full tx all so_far (did.tick + 1) did.tick s.begin ticks s.block s.gap s.since) s.phase phase same (on (record { may = gap.may; some = gap.some; last = gap.last; in_time = omega (arith, before) })) })

turns-by : (full : ℕ → Bool) (tx : TxSet) (all so_far : List Answer) (last : ℕ) (ticks : List ℕ) (s : Transmission) (phase : Phase) (calls : List Event) (did : TxDid) → HasLimits tx → s.phase ≡ phase → Splits all so_far did.tick (did.tick + 1) → Stands full tx all did.tick ticks s.begin s.sent s.since →
    PhaseIn full tx all so_far did.tick did.tick s.begin ticks s.block s.gap s.since phase → InTurn tx s phase calls did → Comes full tx all last (Turned full tx all so_far did.tick) ticks did.records did.new.live
turns-by full tx all so_far last ticks s Start calls did limits same splits stands is row = of-start full tx all so_far last ticks s calls did limits same splits stands is.0 is.1 row
turns-by full tx all so_far last ticks s Bytes calls did limits same splits stands is row = of-bytes full tx all so_far last ticks s calls did limits same splits stands is.0 row
turns-by full tx all so_far last ticks s Box calls did limits same splits stands is row = of-box full tx all so_far last ticks s calls did same splits stands is row
turns-by full tx all so_far last ticks s Fc calls did limits same splits stands is row = of-wait full tx all so_far last ticks s calls did same splits stands is row
turns-by full tx all so_far last ticks s (Gap until) calls did limits same splits stands is row = of-gap full tx all so_far last ticks s (Gap until) until.0 calls did limits same (λ gap. gap) splits stands is row

pub turns : (full : ℕ → Bool) (tx : TxSet) (all so_far : List Answer) (last : ℕ) (ticks : List ℕ) (s : Transmission) (calls : List Event) (did : TxDid) → HasLimits tx → Splits all so_far did.tick (did.tick + 1) → Opens full tx all so_far did.tick ticks s → InTurn tx s s.phase calls did →
    Comes full tx all last (Turned full tx all so_far did.tick) ticks did.records did.new.live
turns full tx all so_far last ticks s calls did limits splits opens row = turns-by full tx all so_far last ticks s s.phase calls did limits refl splits opens.stands opens.phase row
