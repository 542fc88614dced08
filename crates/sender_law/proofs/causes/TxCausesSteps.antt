-- A destination's session in a tick, step by step: since when it waits, and why it ends.
use Rattle.std.proofs.Common.{◌≡◌, ℕ, ◌+◌, ◌<◌, ◌≤◌, Bool, Option, Some, None, List, [], ◌∷◌, ◌++◌, length, zero, suc, refl, ap, sym, subst, ◌∙◌, arith}
use Rattle.flow_plan.specs.Pace.{Awaits, May, Refused, answered_by, block_of}
use Rattle.tp_sender.specs.declared.transmission.Phase.{Phase}
use Rattle.tp_sender.specs.declared.transmission.Phase.TheVariants.{Start, Bytes, Box, Fc, Gap}
use Rattle.tp_unit.specs.Box.{Answer}
use Rattle.tp_sender.specs.State.{Transmission, TxDid}
use Rattle.std.specs.List.{AllByRecursion}
use Rattle.hub_core.specs.View.{Event}
use Rattle.hub_core.specs.declared.record.DestRecord.{DestRecord}
use Rattle.hub_core.specs.declared.record.DestResult.{DestResult}
use Rattle.hub_core.specs.declared.record.DestResult.TheVariants.{FcOverflow, InvalidFs}
use Rattle.tp_sender.specs.declared.set.TxSet.{TxSet}
use Rattle.tp_sender.specs.Table.{Answered, Ends, GoesOn, InAnswer, continued, in_phase}
use Rattle.tp_sender.specs.Table.{AsksToWait, Continues, IsInvalid, Overflows}
use Rattle.tp_unit.specs.Unit.{BoxMeaning, Keeps}
use Rattle.sender_law.specs.Pacing.{control_of}
use Rattle.sender_law.specs.Runs.{HasLimits}
use Rattle.sender_law.specs.TransmissionCauses.{AllowedFrom, CauseOf, IsAllowed, IsCaused, IsFullFrom, IsInTime, IsRefused, LeftIn}
use Rattle.sender_law.proofs.causes.TxCausesLists.{Splits, asked, pace-counted, pace-may, pace-now, pace-refused, pace_by}

-- frames left exactly where bytes were sent
pub record Counted (sent : ℕ) (ticks : List ℕ) : Type 0 where
  pub none : sent ≡ 0 → ticks ≡ []
  pub some : 0 < sent → 0 < length ticks

-- by the flow controls so far the next frame may leave from that tick on, and after the first one each at least a tick after the other
abbrev pub MayFrom : TxSet → (all so_far : List Answer) → (begin : ℕ) → List ℕ → (block gap from : ℕ) → Type 0
MayFrom tx all so_far begin [] block gap from = begin ≤ from
MayFrom tx all so_far begin (first ∷ later) block gap from = (1 ≤ gap) × (pace_by tx all so_far first later ≡ May from gap (block_of block))

-- from a tick that isn't after that one
pub record MayBy (tx : TxSet) (all so_far : List Answer) (begin : ℕ) (ticks : List ℕ) (block gap by : ℕ) : Type 0 where
  pub from : ℕ
  pub may : MayFrom tx all so_far begin ticks block gap from
  pub by_is : from ≤ by

-- a flow control is awaited, and the limit isn't over below the next tick
pub record Waits (tx : TxSet) (all so_far : List Answer) (next : ℕ) (ticks : List ℕ) (since : ℕ) : Type 0 where
  pub first : ℕ
  pub later : List ℕ
  pub are : ticks ≡ first ∷ later
  pub left : ℕ
  pub pace : pace_by tx all so_far first later ≡ Awaits left since
  pub before : left < next
  pub in_time : next ≤ since + tx.n_bs

-- the gap isn't over below the next tick
pub record InGapNow (tx : TxSet) (all so_far : List Answer) (next begin : ℕ) (ticks : List ℕ) (block gap since until : ℕ) : Type 0 where
  pub may : MayFrom tx all so_far begin ticks block gap until
  pub some : 0 < length ticks
  pub last : LeftIn ticks since
  pub in_time : next ≤ until

-- the next frame lies in the box, the bus is full for it since it was offered, and the limit isn't over below the next tick
pub record InBoxNow (full : ℕ → Bool) (tx : TxSet) (all so_far : List Answer) (next to begin : ℕ) (ticks : List ℕ) (block gap since : ℕ) : Type 0 where
  pub may : MayBy tx all so_far begin ticks block gap since
  pub blocked : IsFullFrom full since to
  pub in_time : next ≤ since + tx.n_as

-- by the phase, below the next tick: `to` is the tick up to which a frame in the box didn't leave
abbrev pub PhaseIn : (full : ℕ → Bool) → TxSet → (all so_far : List Answer) → (next to begin : ℕ) → List ℕ → (block gap since : ℕ) → Phase → Type 0
PhaseIn full tx all so_far next to begin ticks block gap since Start = (ticks ≡ []) × (since ≡ begin)
PhaseIn full tx all so_far next to begin ticks block gap since Bytes = MayFrom tx all so_far begin ticks block gap since × (next ≤ since + tx.n_cs)
PhaseIn full tx all so_far next to begin ticks block gap since Box = InBoxNow full tx all so_far next to begin ticks block gap since
PhaseIn full tx all so_far next to begin ticks block gap since Fc = Waits tx all so_far next ticks since
PhaseIn full tx all so_far next to begin ticks block gap since (Gap until) = InGapNow tx all so_far next begin ticks block gap since until.0

-- the session so far: all of it below the next tick, and no limit was passed
pub record Stands (full : ℕ → Bool) (tx : TxSet) (all : List Answer) (next : ℕ) (ticks : List ℕ) (begin sent since : ℕ) : Type 0 where
  pub began : begin ≤ next
  pub waits : since ≤ next
  pub counted : Counted sent ticks
  pub past : AllByRecursion (λ (at : ℕ). at < next) ticks
  pub in_time : (tick : ℕ) → begin ≤ tick → tick < next → IsInTime full tx (asked tx all) begin ticks tick

-- before the turn of the next tick, and after the turn of a tick
pub record Opens (full : ℕ → Bool) (tx : TxSet) (all so_far : List Answer) (next : ℕ) (ticks : List ℕ) (s : Transmission) : Type 0 where
  pub stands : Stands full tx all next ticks s.begin s.sent s.since
  pub phase : PhaseIn full tx all so_far next next s.begin ticks s.block s.gap s.since s.phase

pub record Turned (full : ℕ → Bool) (tx : TxSet) (all so_far : List Answer) (tick : ℕ) (ticks : List ℕ) (s : Transmission) : Type 0 where
  pub stands : Stands full tx all tick ticks s.begin s.sent s.since
  pub phase : PhaseIn full tx all so_far (tick + 1) tick s.begin ticks s.block s.gap s.since s.phase

-- a record that is caused, and that counts its frames
pub record Tells (full : ℕ → Bool) (tx : TxSet) (all : List Answer) (last : ℕ) (ticks : List ℕ) (told : DestRecord) : Type 0 where
  pub caused : IsCaused full tx (asked tx all) last ticks told
  pub counted : Counted told.sent ticks

-- what a step comes to: the session goes on, or it ends with its cause, or none is sent
pub data Comes (full : ℕ → Bool) (tx : TxSet) (all : List Answer) (last : ℕ) (P : List ℕ → Transmission → Type 0) (ticks : List ℕ) (ended : List DestRecord) (live : Option Transmission) : Type 0 where
  Goes : (s : Transmission) → ended ≡ [] → live ≡ Some s → P ticks s → Comes full tx all last P ticks ended live
  Closes : (told : DestRecord) → ended ≡ told ∷ [] → live ≡ None → Tells full tx all last ticks told → Comes full tx all last P ticks ended live
  Rests : ended ≡ [] → live ≡ None → ticks ≡ [] → Comes full tx all last P ticks ended live

pub ends : (full : ℕ → Bool) (tx : TxSet) (all : List Answer) (last : ℕ) (P : List ℕ → Transmission → Type 0) (ticks : List ℕ) (s : Transmission) (act : BoxMeaning) (result : DestResult) (calls : List Event) (did : TxDid) → Ends tx s act result calls did →
    CauseOf full tx (asked tx all) last s.begin ticks did.tick s.sent result → Counted s.sent ticks → ((tick : ℕ) → s.begin ≤ tick → tick < did.tick → IsInTime full tx (asked tx all) s.begin ticks tick) → Comes full tx all last P ticks did.records did.new.live
ends full tx all last P ticks s act result calls did row cause counted in_time =
    Closes (record { path = tx.path; dest = tx.dest; seq = s.seq; begin = record { 0 = s.begin }; sent = s.sent; end = record { 0 = did.tick }; result = result }) row.records row.live
    (record { caused = record { cause = cause; in_time = in_time }; counted = counted })

pub waits-anew : (full : ℕ → Bool) (tx : TxSet) (all : List Answer) (next : ℕ) (ticks : List ℕ) (begin sent since anew : ℕ) → anew ≤ next → Stands full tx all next ticks begin sent since → Stands full tx all next ticks begin sent anew
waits-anew full tx all next ticks begin sent since anew le is = record { began = is.began; waits = le; counted = is.counted; past = is.past; in_time = is.in_time }

-- the next frame is allowed by a tick, by all that came up to now
pub allowed-now : (tx : TxSet) (all so_far : List Answer) (now begin : ℕ) (ticks : List ℕ) (block gap from by : ℕ) → Splits all so_far now (now + 1) → from ≤ by → MayFrom tx all so_far begin ticks block gap from → IsAllowed (asked tx all) begin ticks now by
allowed-now tx all so_far now begin [] block gap from by splits le may = record { from = begin; allowed = refl; by_is = omega (arith, le, may) }
allowed-now tx all so_far now begin (first ∷ later) block gap from by splits le may = record { from = from; allowed = (gap, block_of block, pace-now tx all so_far now first later splits ∙ may.1); by_is = le }

pub allowed-some : (tx : TxSet) (all so_far : List Answer) (now begin : ℕ) (ticks : List ℕ) (block gap from : ℕ) → Splits all so_far now (now + 1) → 0 < length ticks → MayFrom tx all so_far begin ticks block gap from → AllowedFrom (asked tx all) begin ticks now from
allowed-some tx all so_far now begin [] block gap from splits some may = absurd (omega (arith, some))
allowed-some tx all so_far now begin (first ∷ later) block gap from splits some may = (gap, block_of block, pace-now tx all so_far now first later splits ∙ may.1)

-- a flow control came in this tick
abbrev pub came : TxDid → (fs bs st : ℕ) → Answer
came did fs bs st = record { tick = did.tick; status = fs; block_size = bs; separation = st }

-- where none is awaited it changes nothing
pub may-more : (tx : TxSet) (all so_far : List Answer) (a : Answer) (begin : ℕ) (ticks : List ℕ) (block gap from : ℕ) → MayFrom tx all so_far begin ticks block gap from → MayFrom tx all (so_far ++ a ∷ []) begin ticks block gap from
may-more tx all so_far a begin [] block gap from may = may
may-more tx all so_far a begin (first ∷ later) block gap from may = (may.0, pace-may tx all so_far a first later from gap block may.1)

refused : (tx : TxSet) (all so_far : List Answer) (next : ℕ) (ticks : List ℕ) (since fs bs st : ℕ) (did : TxDid) (status : ℕ) → next ≤ did.tick → fs ≡ status → Splits all (so_far ++ came did fs bs st ∷ []) did.tick did.tick → (waits : Waits tx all so_far next ticks since) →
    answered_by (control_of tx.period (came did fs bs st)) waits.left status ≡ Refused did.tick status → IsRefused (asked tx all) ticks did.tick did.tick status
refused tx all so_far next ticks since fs bs st did status le is splits waits by =
    let a : Answer = came did fs bs st in
    let P : List ℕ → Type 0 = λ l. IsRefused (asked tx all) l did.tick did.tick status in
    subst P (sym waits.are) (pace-refused tx all (so_far ++ a ∷ []) did.tick waits.first waits.later did.tick status splits
    (pace-counted tx all so_far a waits.first waits.later waits.left since (omega (arith, waits.before, le)) waits.pace ∙ ap (λ n. answered_by (control_of tx.period a) waits.left n) is ∙ by))

invalid : (tx : TxSet) (a : Answer) (left status : ℕ) → 1 < status → answered_by (control_of tx.period a) left status ≡ Refused a.tick status
invalid tx a left zero more = absurd (omega (arith, more))
invalid tx a left (suc zero) more = absurd (omega (arith, more))
invalid tx a left (suc (suc status)) more = refl

awaited : (full : ℕ → Bool) (tx : TxSet) (all so_far : List Answer) (last : ℕ) (ticks : List ℕ) (s : Transmission) (fs bs st : ℕ) (calls : List Event) (did : TxDid) → HasLimits tx → Splits all (so_far ++ came did fs bs st ∷ []) did.tick did.tick →
    Stands full tx all did.tick ticks s.begin s.sent s.since → Waits tx all so_far did.tick ticks s.since → Answered tx s fs bs st calls did → Comes full tx all last (Opens full tx all (so_far ++ came did fs bs st ∷ []) did.tick) ticks did.records did.new.live
awaited full tx all so_far last ticks s fs bs st calls did limits splits stands waits (Continues is row) =
    let a : Answer = came did fs bs st in
    let P : List ℕ → Type 0 = λ l. MayFrom tx all (so_far ++ a ∷ []) s.begin l bs (continued tx bs st s).gap did.tick in
    Goes (in_phase Bytes did.tick (continued tx bs st s)) row.records row.live (record {
      stands = waits-anew full tx all did.tick ticks s.begin s.sent s.since did.tick (omega arith) stands;
      phase = (subst P (sym waits.are) (omega arith, pace-counted tx all so_far a waits.first waits.later waits.left s.since waits.before waits.pace ∙ ap (λ n. answered_by (control_of tx.period a) waits.left n) is), omega arith);
    })
awaited full tx all so_far last ticks s fs bs st calls did limits splits stands waits (AsksToWait is row) =
    let a : Answer = came did fs bs st in
    Goes (in_phase Fc did.tick s) row.records row.live (record {
      stands = waits-anew full tx all did.tick ticks s.begin s.sent s.since did.tick (omega arith) stands;
      phase = record {
        first = waits.first;
        later = waits.later;
        are = waits.are;
        left = waits.left;
        pace = pace-counted tx all so_far a waits.first waits.later waits.left s.since waits.before waits.pace ∙ ap (λ n. answered_by (control_of tx.period a) waits.left n) is;
        before = waits.before;
        in_time = omega arith;
      };
    })
awaited full tx all so_far last ticks s fs bs st calls did limits splits stands waits (Overflows is row) =
    ends full tx all last (Opens full tx all (so_far ++ came did fs bs st ∷ []) did.tick) ticks s Keeps FcOverflow calls did row
    (refused tx all so_far did.tick ticks s.since fs bs st did 2 (omega arith) is splits waits (invalid tx (came did fs bs st) waits.left 2 (omega arith))) stands.counted stands.in_time
awaited full tx all so_far last ticks s fs bs st calls did limits splits stands waits (IsInvalid more row) =
    ends full tx all last (Opens full tx all (so_far ++ came did fs bs st ∷ []) did.tick) ticks s Keeps (InvalidFs fs) calls did row
    (refused tx all so_far did.tick ticks s.since fs bs st did fs (omega arith) refl splits waits (invalid tx (came did fs bs st) waits.left fs (omega (arith, more))), more) stands.counted stands.in_time

-- a phase in which none is awaited goes on
phase-more : (full : ℕ → Bool) (tx : TxSet) (all so_far : List Answer) (a : Answer) (next begin : ℕ) (ticks : List ℕ) (block gap since : ℕ) (phase : Phase) → (phase ≡ Fc → ⊥) →
    PhaseIn full tx all so_far next next begin ticks block gap since phase → PhaseIn full tx all (so_far ++ a ∷ []) next next begin ticks block gap since phase
phase-more full tx all so_far a next begin ticks block gap since Start out is = is
phase-more full tx all so_far a next begin ticks block gap since Bytes out is = (may-more tx all so_far a begin ticks block gap since is.0, is.1)
phase-more full tx all so_far a next begin ticks block gap since Box out is = record {
  may = record { from = is.may.from; may = may-more tx all so_far a begin ticks block gap is.may.from is.may.may; by_is = is.may.by_is };
  blocked = is.blocked;
  in_time = is.in_time;
}
phase-more full tx all so_far a next begin ticks block gap since Fc out is = absurd (out refl)
phase-more full tx all so_far a next begin ticks block gap since (Gap until) out is = record { may = may-more tx all so_far a begin ticks block gap until.0 is.may; some = is.some; last = is.last; in_time = is.in_time }

pub at-phase : (P : Phase → Type 0) (phase is : Phase) → phase ≡ is → P is → P phase
at-phase P phase is same held = subst P (sym same) held

goes-on : (full : ℕ → Bool) (tx : TxSet) (all so_far : List Answer) (a : Answer) (last next : ℕ) (ticks : List ℕ) (s : Transmission) (phase : Phase) (calls : List Event) (did : TxDid) → s.phase ≡ phase → (phase ≡ Fc → ⊥) → Stands full tx all next ticks s.begin s.sent s.since →
    PhaseIn full tx all so_far next next s.begin ticks s.block s.gap s.since phase → GoesOn s calls did → Comes full tx all last (Opens full tx all (so_far ++ a ∷ []) next) ticks did.records did.new.live
goes-on full tx all so_far a last next ticks s phase calls did same out stands is row =
    let Q : Phase → Type 0 = λ p. PhaseIn full tx all (so_far ++ a ∷ []) next next s.begin ticks s.block s.gap s.since p in
    Goes s row.records row.live (record { stands = stands; phase = at-phase Q s.phase phase same (phase-more full tx all so_far a next s.begin ticks s.block s.gap s.since phase out is) })

answers-by : (full : ℕ → Bool) (tx : TxSet) (all so_far : List Answer) (last : ℕ) (ticks : List ℕ) (s : Transmission) (phase : Phase) (fs bs st : ℕ) (calls : List Event) (did : TxDid) → s.phase ≡ phase → HasLimits tx → Splits all (so_far ++ came did fs bs st ∷ []) did.tick did.tick →
    Stands full tx all did.tick ticks s.begin s.sent s.since → PhaseIn full tx all so_far did.tick did.tick s.begin ticks s.block s.gap s.since phase → InAnswer tx s phase fs bs st calls did →
    Comes full tx all last (Opens full tx all (so_far ++ came did fs bs st ∷ []) did.tick) ticks did.records did.new.live
answers-by full tx all so_far last ticks s Start fs bs st calls did same limits splits stands is row = goes-on full tx all so_far (came did fs bs st) last did.tick ticks s Start calls did same (λ e. cc) stands is row
answers-by full tx all so_far last ticks s Bytes fs bs st calls did same limits splits stands is row = goes-on full tx all so_far (came did fs bs st) last did.tick ticks s Bytes calls did same (λ e. cc) stands is row
answers-by full tx all so_far last ticks s Box fs bs st calls did same limits splits stands is row = goes-on full tx all so_far (came did fs bs st) last did.tick ticks s Box calls did same (λ e. cc) stands is row
answers-by full tx all so_far last ticks s Fc fs bs st calls did same limits splits stands is row = awaited full tx all so_far last ticks s fs bs st calls did limits splits stands is row
answers-by full tx all so_far last ticks s (Gap until) fs bs st calls did same limits splits stands is row = goes-on full tx all so_far (came did fs bs st) last did.tick ticks s (Gap until) calls did same (λ e. cc) stands is row

pub answers : (full : ℕ → Bool) (tx : TxSet) (all so_far : List Answer) (last : ℕ) (ticks : List ℕ) (s : Transmission) (fs bs st : ℕ) (calls : List Event) (did : TxDid) → HasLimits tx → Splits all (so_far ++ came did fs bs st ∷ []) did.tick did.tick →
    Opens full tx all so_far did.tick ticks s → InAnswer tx s s.phase fs bs st calls did → Comes full tx all last (Opens full tx all (so_far ++ came did fs bs st ∷ []) did.tick) ticks did.records did.new.live
answers full tx all so_far last ticks s fs bs st calls did limits splits opens row = answers-by full tx all so_far last ticks s s.phase fs bs st calls did refl limits splits opens.stands opens.phase row
