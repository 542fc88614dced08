-- After a step the phase lasts since its tick at most, and its act says whether a frame lies in the box.
use Rattle.std.proofs.Common.{◌≡◌, ℕ, ◌≤◌, Option, None, Some, refl, ap, subst, arith}
use Rattle.tp_sender.specs.declared.transmission.Transmission.{Transmission as HeldTransmission}
use Rattle.tp_sender.specs.declared.transmission.Phase.{Phase}
use Rattle.tp_sender.specs.declared.transmission.Phase.TheVariants.{Start, Bytes, Box, Fc, Gap}
use Rattle.tp_sender.specs.Port.{StepOver, did_by}
use Rattle.std.specs.Prelude.{option_map}
use Rattle.hub_core.specs.Floors.{Floors}
use Rattle.hub_core.specs.View.{View}
use Rattle.hub_core.specs.declared.port.Seen.{Seen as Look}
use Rattle.hub_core.specs.declared.record.DestResult.{DestResult}
use Rattle.tp_unit.specs.Unit.{BoxMeaning, Keeps, Offers as OffersUnit, Revokes}
use Rattle.tp_sender.specs.declared.event.TxActs.{TxActs}
use Rattle.tp_sender.specs.declared.event.TxEvent.{TxEvent}
use Rattle.tp_sender.specs.declared.event.TxEvent.TheVariants.{Turn, Fc as CameFc, Left, RunEnd}
use Rattle.tp_sender.specs.declared.set.TxSet.{TxSet}
use Rattle.tp_sender.specs.Effects.{AwaitsNext, IsSettled, MayBe, MayEnd, MayWait, TxStage, TxDone, TxEffect, act_then, done_by, found_by}
use Rattle.tp_sender.specs.Effects.{Misses, Joins, Looks, Reads, Offers, Leaves, Waits, Ends, AfterBlock, AfterFirst, AfterNext, IsReached, GapIsOver, IsContinued, IsPaused, IsWhole, IsCut}
use Rattle.tp_sender.specs.State.{HasFrame, IsInBox, TxState, StillHasFrame, in_box, since_of, Transmission, transmission_of, TxDid}
use Rattle.tp_sender.specs.Table.{LiveRow, TxRow, TxStep, revoked}
use Rattle.tp_sender.proofs.Effects.{HoldsOf, IsDoneLaw, of-step}
use Rattle.tp_sender.proofs.Made.{amid}

-- the phase of the session that goes on lasts since that tick at most; was says whether a frame lay in the box
pub record Settles (was : Type 0) (did : TxDid) : Type 0 where
  pub time : since_of did.new.live ≤ did.tick
  pub box : IsInBox did.act was did.new.live

-- a frame lies in the box, and none that has left
abbrev Lies : TxStage → Type 0
Lies p = (p.event ≡ Some Left → ⊥) × HasFrame p.live

-- what an act with the box says of that before and after it
abbrev Tells : BoxMeaning → (was now : Type 0) → Type 0
Tells Keeps was now = (was → now) × (now → was)
Tells (OffersUnit unit) was now = now
Tells Revokes was now = now → ⊥

-- what is done settles the phase and the box
record Settling (tick : ℕ) (p : TxStage) (d : TxDone) : Type 0 where
  time : since_of p.live ≤ tick → since_of d.new.live ≤ tick
  box : Tells d.act (Lies p) (Lies d.new)

tells-then : (first later : BoxMeaning) (was mid now : Type 0) → Tells first was mid → Tells later mid now → Tells (act_then first later) was now
tells-then Keeps Keeps was mid now one two = (λ w. two.0 (one.0 w), λ n. one.1 (two.1 n))
tells-then Keeps (OffersUnit unit) was mid now one two = two
tells-then Keeps Revokes was mid now one two = two
tells-then (OffersUnit unit) Keeps was mid now one two = two.0 one
tells-then (OffersUnit unit) (OffersUnit later) was mid now one two = two
tells-then (OffersUnit unit) Revokes was mid now one two = two
tells-then Revokes Keeps was mid now one two = λ n. one (two.1 n)
tells-then Revokes (OffersUnit later) was mid now one two = two
tells-then Revokes Revokes was mid now one two = two

-- a phase without a frame in the box
out-of : (phase is : Phase) → phase ≡ is → (in_box is → ⊥) → in_box phase → ⊥
out-of phase is same out b = out (let P : Phase → Type 0 = λ p. in_box p in subst P same b)

tells-revoked : (phase : Phase) (was now : Type 0) → (was → in_box phase) → (now → ⊥) → Tells (revoked phase) was now
tells-revoked Start was now out gone = (λ w. absurd (out w), λ n. absurd (gone n))
tells-revoked Bytes was now out gone = (λ w. absurd (out w), λ n. absurd (gone n))
tells-revoked Box was now out gone = gone
tells-revoked Fc was now out gone = (λ w. absurd (out w), λ n. absurd (gone n))
tells-revoked (Gap until) was now out gone = (λ w. absurd (out w), λ n. absurd (gone n))

waits-out : (set : TxSet) (tick : ℕ) (event : TxEvent) (s : Transmission) (phase : Phase) (block gap : ℕ) → MayWait set tick event s phase block gap → (in_box s.phase → ⊥) × (in_box phase → ⊥)
waits-out set tick event s phase block gap (IsReached at is now kept) = (out-of s.phase Start is (λ b. b), out-of phase Bytes now (λ b. b))
waits-out set tick event s phase block gap (GapIsOver until at is le now kept) = (out-of s.phase (Gap until) is (λ b. b), out-of phase Bytes now (λ b. b))
waits-out set tick event s phase block gap (IsContinued bs st at is now size gap_is) = (out-of s.phase Fc is (λ b. b), out-of phase Bytes now (λ b. b))
waits-out set tick event s phase block gap (IsPaused bs st at is now kept) = (out-of s.phase Fc is (λ b. b), out-of phase Fc now (λ b. b))

awaits-out : {set : TxSet} {tick : ℕ} {s : Transmission} {sent number block : ℕ} (phase : Phase) → AwaitsNext set tick s sent number block phase → in_box phase → ⊥
awaits-out phase (AfterFirst none more same kept is) = out-of phase Fc is (λ b. b)
awaits-out phase (AfterBlock more one is) = out-of phase Fc is (λ b. b)
awaits-out phase (AfterNext more out is) = out-of phase (Gap _) is (λ b. b)

ends-tells : (set : TxSet) (event : TxEvent) (look : Option Look) (s : Transmission) (sent : ℕ) (act : BoxMeaning) (result : DestResult) (now : Type 0) → MayEnd set event look s sent act result → (now → ⊥) → Tells act ((Some event ≡ Some Left → ⊥) × in_box s.phase) now
ends-tells set event look s sent act result now (IsWhole left box whole all keeps is) gone = rw keeps (λ was. absurd (was.0 (ap (λ e. Some e) left)), λ n. absurd (gone n))
ends-tells set event look s sent act result now (IsCut told other all is shows) gone = rw is (tells-revoked s.phase ((Some event ≡ Some Left → ⊥) × in_box s.phase) now (λ was. was.1) gone)

each : (set : TxSet) (tick : ℕ) (event : TxEvent) (look : Option Look) (next : ℕ) (effect : TxEffect) → MayBe set tick event look effect → Settling tick (amid event look next (found_by effect)) (done_by set tick (amid event look next (found_by effect)) effect)
each set tick event look next Misses may = record { time = λ le. le; box = (λ was. absurd was.1, λ now. absurd now.1) }
each set tick event look next (Joins buf len) may = record { time = λ le. omega arith; box = (λ was. absurd was.1, λ now. absurd now.1) }
each set tick event look next (Looks s seen) may = record { time = λ le. le; box = (λ was. was, λ now. now) }
each set tick event look next (Reads s cells) may = record { time = λ le. le; box = (λ was. was, λ now. now) }
each set tick event look next (Offers s) may = record { time = λ le. omega arith; box = (λ e. cc, tt) }
each set tick event look next (Leaves s sent number block phase) may = record { time = λ le. omega arith; box = (λ was. absurd (was.0 (ap (λ e. Some e) may.left)), λ now. absurd (awaits-out phase may.next now.1)) }
each set tick event look next (Waits s phase block gap) may =
    let out = waits-out set tick event s phase block gap may in
    record { time = λ le. omega arith; box = (λ was. absurd (out.0 was.1), λ now. absurd (out.1 now.1)) }
each set tick event look next (Ends s sent act result left) may = record { time = λ le. omega arith; box = ends-tells set event look s sent act result _ may (λ now. now.1) }

law : (set : TxSet) (tick : ℕ) → IsDoneLaw set tick (Settling tick)
law set tick = record {
  none = λ p. record { time = λ le. le; box = (λ was. was, λ now. now) };
  then = λ p first later one two. record {
    time = λ le. two.time (one.time le);
    box = tells-then first.act later.act (Lies p) (Lies first.new) (Lies later.new) one.box two.box;
  };
  each = each set tick;
}

-- the event, as it came
still-has : (event : TxEvent) (live : Option Transmission) → StillHasFrame event live → (Some event ≡ Some Left → ⊥) × HasFrame live
still-has Turn live has = (λ e. cc, has)
still-has (CameFc fs bs st) live has = (λ e. cc, has)
still-has Left live has = absurd has
still-has RunEnd live has = (λ e. cc, has)

had-still : (event : TxEvent) (live : Option Transmission) → (Some event ≡ Some Left → ⊥) × HasFrame live → StillHasFrame event live
had-still Turn live has = has.1
had-still (CameFc fs bs st) live has = has.1
had-still Left live has = absurd (has.0 refl)
had-still RunEnd live has = has.1

not-left : (left : Option TxEvent) (live : Option Transmission) → IsSettled left live → left ≡ Some Left → ⊥
not-left left live settled is = let P : Option TxEvent → Type 0 = λ l. IsSettled l live in subst P is settled

box-is : (act : BoxMeaning) (was has : Type 0) (left : Option TxEvent) (live : Option Transmission) → (has → was) → (was → has) → (left ≡ Some Left → ⊥) → Tells act was ((left ≡ Some Left → ⊥) × HasFrame live) → IsInBox act has live
box-is Keeps was has left live from to out tells = (λ h. (tells.0 (from h)).1, λ now. to (tells.1 (out, now)))
box-is (OffersUnit unit) was has left live from to out tells = tells.1
box-is Revokes was has left live from to out tells = λ now. tells (out, now)

-- every step
settled-by : (set : TxSet) (old : TxState) (event : TxEvent) (did : TxDid) → TxStep set old event did → HoldsOf (Settling did.tick) old event did
settled-by set old event did row = of-step set (Settling did.tick) old event did (law set did.tick) row

pub box-settles : (set : TxSet) (old : TxState) (event : TxEvent) (did : TxDid) → TxStep set old event did → IsInBox did.act (StillHasFrame event old.live) did.new.live
box-settles set old event did row =
    let is : HoldsOf (Settling did.tick) old event did = settled-by set old event did row in
    box-is did.act ((Some event ≡ Some Left → ⊥) × HasFrame old.live) (StillHasFrame event old.live) is.left did.new.live (still-has event old.live) (had-still event old.live) (not-left is.left did.new.live is.settled) is.holds.box

pub settles : (set : TxSet) (next : ℕ) (live : Option Transmission) (event : TxEvent) (did : TxDid) → since_of live ≤ did.tick → TxRow set next live event did → Settles (StillHasFrame event live) did
settles set next live event did le row =
    let old : TxState = record { next = next; live = live } in
    record { time = (settled-by set old event did row).holds.time le; box = box-settles set old event did row }

-- where a sender sends nothing, and where it sends a session
pub settles-none : {f : Floors} (set : TxSet) (next : ℕ) (old taken : Option HeldTransmission) (new : TxState) (event : TxEvent) (tick : ℕ) (u v : View) (acts : TxActs) → old ≡ None → taken ≡ None →
    (step : StepOver set (record { next = next; live = option_map transmission_of taken }) new event tick f u v acts) → Settles (StillHasFrame event (option_map transmission_of old)) (did_by tick step.calls acts new)
settles-none set next old taken new event tick u v acts is gone step =
    let did : TxDid = did_by tick step.calls acts new in
    let P : Option HeldTransmission → Type 0 = λ live. TxRow set next (option_map transmission_of live) event did in
    rw is (settles set next None event did (omega arith) (subst P gone step.row))

pub settles-some : (set : TxSet) (old : Option HeldTransmission) (live : HeldTransmission) (event : TxEvent) (did : TxDid) → old ≡ Some live → since_of (option_map transmission_of old) ≤ did.tick → LiveRow set (transmission_of live) event did.calls did →
    Settles (StillHasFrame event (option_map transmission_of old)) did
settles-some set old live event did is le row =
    let at : live.since.0 ≤ did.tick = rw is at le in
    rw is (settles set did.new.next (Some (transmission_of live)) event did at (row, refl))
