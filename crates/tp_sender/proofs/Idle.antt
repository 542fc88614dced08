-- A step where nothing is sent: the next session is joined, or none stands.
use Rattle.std.proofs.Common.{◌≡◌, ℕ, ◌+◌, Option, None, Some, [], ◌∷◌, refl, ap, subst}
use Rattle.tp_sender.specs.declared.transmission.Transmission.{Transmission as HeldTransmission}
use Rattle.tp_sender.specs.declared.transmission.Outcome.{Outcome}
use Rattle.tp_sender.specs.Port.{JoinsLive, OverRow, StepOver, did_by, did_of}
use Rattle.std.specs.Prelude.{List, option_map, option_to_list}
use Rattle.hub_core.proofs.Turns.{over-after}
use Rattle.hub_core.specs.declared.record.DestResult.{DestResult}
use Rattle.hub_core.specs.Floors.{Floors, Rise, IsFresh}
use Rattle.hub_core.specs.View.{View, Event, Joining, Missed, grow}
use Rattle.hub_core.specs.declared.record.DestResult.TheVariants.{RunEnd as EndOfRun}
use Rattle.hub_core.specs.declared.record.TxWait.TheVariants.{Turn as ForTurn}
use Rattle.tp_unit.specs.Unit.{Keeps, box_meaning_of}
use Rattle.tp_sender.specs.declared.event.TxActs.{TxActs}
use Rattle.tp_sender.specs.declared.event.TxEvent.TheVariants.{Turn, RunEnd}
use Rattle.tp_sender.specs.declared.set.TxSet.{TxSet}
use Rattle.tp_sender.specs.State.{TxState, Transmission, transmission_of}
use Rattle.tp_sender.specs.Table.{Ends, InStart, TxStep}
use Rattle.tp_sender.specs.Table.{NothingToSend, Joins, NothingStands, FindsOne}

-- a state by its parts
abbrev pub state_with : ℕ → Option HeldTransmission → TxState
state_with next live = record { next = next; live = option_map transmission_of live }

pub turn-none : {f : Floors} (set : TxSet) (next tick : ℕ) (live : Option HeldTransmission) (acts : TxActs) (u v : View) → live ≡ None → v ≡ grow (Missed set.group.0 set.path.0 set.dest.0 next) u → IsFresh u f (Missed set.group.0 set.path.0 set.dest.0 next) →
    box_meaning_of acts.boxed ≡ Keeps → acts.ended ≡ None → acts.moved ≡ None → StepOver set (state_with next live) (state_with next live) Turn tick f u v acts
turn-none set next tick None acts u v is grown fresh boxed ended moved =
    record { calls = Missed set.group.0 set.path.0 set.dest.0 next ∷ []; grown = grown; fresh = (fresh, tt); moves_are = ap option_to_list moved; row = NothingToSend (record { calls_are = refl; act = boxed; records = ap option_to_list ended; live = refl; next_is = refl }) }
turn-none set next tick (Some live) acts u v is grown fresh boxed ended moved = cc

pub end-none : {f : Floors} (set : TxSet) (next tick : ℕ) (live : Option HeldTransmission) (acts : TxActs) (u v : View) → live ≡ None → v ≡ grow (Missed set.group.0 set.path.0 set.dest.0 next) u → IsFresh u f (Missed set.group.0 set.path.0 set.dest.0 next) →
    box_meaning_of acts.boxed ≡ Keeps → acts.ended ≡ None → acts.moved ≡ None → StepOver set (state_with next live) (state_with next live) RunEnd tick f u v acts
end-none set next tick None acts u v is grown fresh boxed ended moved =
    record { calls = Missed set.group.0 set.path.0 set.dest.0 next ∷ []; grown = grown; fresh = (fresh, tt); moves_are = ap option_to_list moved; row = NothingStands (record { calls_are = refl; act = boxed; records = ap option_to_list ended; live = refl; next_is = refl }) }
end-none set next tick (Some live) acts u v is grown fresh boxed ended moved = cc

pub turn-joined : {low high : Floors} (set : TxSet) (next tick : ℕ) (old : Option HeldTransmission) (live : HeldTransmission) (outcome : Outcome) (u v w : View) → old ≡ None → JoinsLive set next tick u v live → Rise low high →
    OverRow (InStart set (transmission_of live)) high v w tick (live.at.seq + 1) outcome → StepOver set (state_with next old) (state_with (next + 1) outcome.live) Turn tick low u w outcome.acts
turn-joined set next tick None live outcome u v w is joins rise over =
    let P : Transmission → List Event → List Event → Type 0 = λ s calls all. InStart set s calls (did_by tick all outcome.acts (state_with (next + 1) outcome.live)) in
    over-after (Joining set.path.0 set.dest.0 next live.at.buf.0 live.at.len ∷ []) [] (option_to_list outcome.acts.moved) (λ calls. (all : List Event) → InStart set (transmission_of live) calls (did_of tick (live.at.seq + 1) all outcome))
    (λ calls. TxStep set (state_with next None) Turn (did_by tick calls outcome.acts (state_with (next + 1) outcome.live))) joins.view rise (tt, tt) refl over
    (λ calls row. Joins live.at.buf.0 live.at.len calls (record { calls_are = refl; some = joins.some; next_is = refl })
    (subst (λ (s : Transmission). P s calls (Joining set.path.0 set.dest.0 next live.at.buf.0 live.at.len ∷ calls)) joins.state
    (subst (λ (n : ℕ). InStart set (transmission_of live) calls (did_by tick (Joining set.path.0 set.dest.0 next live.at.buf.0 live.at.len ∷ calls) outcome.acts (state_with n outcome.live))) joins.knows.seq (row (Joining set.path.0 set.dest.0 next live.at.buf.0 live.at.len ∷ calls)))))
turn-joined set next tick (Some first) live outcome u v w is joins rise over = cc

pub end-joined : {low high : Floors} (set : TxSet) (next tick : ℕ) (old : Option HeldTransmission) (live : HeldTransmission) (outcome : Outcome) (u v w : View) → old ≡ None → JoinsLive set next tick u v live → Rise low high →
    OverRow (Ends set (transmission_of live) Keeps (EndOfRun ForTurn (record { 0 = tick }))) high v w tick (live.at.seq + 1) outcome →
    StepOver set (state_with next old) (state_with (next + 1) outcome.live) RunEnd tick low u w outcome.acts
end-joined set next tick None live outcome u v w is joins rise over =
    let how : DestResult = EndOfRun ForTurn (record { 0 = tick }) in
    let P : Transmission → List Event → List Event → Type 0 = λ s calls all. Ends set s Keeps how calls (did_by tick all outcome.acts (state_with (next + 1) outcome.live)) in
    over-after (Joining set.path.0 set.dest.0 next live.at.buf.0 live.at.len ∷ []) [] (option_to_list outcome.acts.moved) (λ calls. (all : List Event) → Ends set (transmission_of live) Keeps how calls (did_of tick (live.at.seq + 1) all outcome))
    (λ calls. TxStep set (state_with next None) RunEnd (did_by tick calls outcome.acts (state_with (next + 1) outcome.live))) joins.view rise (tt, tt) refl over
    (λ calls row. FindsOne live.at.buf.0 live.at.len calls (record { calls_are = refl; some = joins.some; next_is = refl })
    (subst (λ (s : Transmission). P s calls (Joining set.path.0 set.dest.0 next live.at.buf.0 live.at.len ∷ calls)) joins.state
    (subst (λ (n : ℕ). Ends set (transmission_of live) Keeps how calls (did_by tick (Joining set.path.0 set.dest.0 next live.at.buf.0 live.at.len ∷ calls) outcome.acts (state_with n outcome.live))) joins.knows.seq (row (Joining set.path.0 set.dest.0 next live.at.buf.0 live.at.len ∷ calls)))))
end-joined set next tick (Some first) live outcome u v w is joins rise over = cc
