-- Whose calls a receiver's steps make, when their records end, and what they offer: by the effects that each step is made of.
use Rattle.std.proofs.Common.{ℕ, Option, List, arith, [], ◌∷◌, ◌++◌, map, refl, sym, subst}
use Rattle.std.specs.List.{AllByRecursion}
use Rattle.gw_base.proofs.Lists.{all-join}
use Rattle.hub_core.specs.View.{Event, Put, Published}
use Rattle.hub_core.specs.declared.record.OpenedAt.{OpenedAt}
use Rattle.hub_core.specs.declared.record.RxWait.{RxWait}
use Rattle.hub_core.specs.declared.record.RxWait.TheVariants.{Box, Room, Cf}
use Rattle.hub_core.specs.declared.record.SessionRecord.{SessionRecord}
use Rattle.tp_receiver.proofs.Blocks.{KeepsToLimit, keeps-to-limit}
use Rattle.flow_plan.specs.declared.block.Grant.{Grant}
use Rattle.flow_plan.specs.declared.block.Grant.TheVariants.{All, Block, Wait}
use Rattle.tp_receiver.specs.Grant.{control_of}
use Rattle.tp_receiver.specs.declared.set.RxSet.{RxSet}
use Rattle.tp_receiver.specs.State.{Reception, RxDid, RxEvent, RxState}
use Rattle.tp_receiver.specs.Table.{Opens as OpensSession, RxStep, later_act, revoking}
use Rattle.tp_receiver.specs.Effects.{AreEffects, Because, IsControl, IsControlAct, IsForgotten, IsOwnStep, IsMade, IsMadeNow, OfWriter, RxDone, RxEffect, RxStage, act_of, calls_of, first_stage, records_of, refusal_act, AsksToWait, Continues, Ends, Forgets, HasLeft, LayTooLong, Looks, Opens, Puts, Refuses, TellsOverflow, Waits}
use Rattle.tp_unit.specs.Unit.{BoxMeaning, Keeps, Offers, Revokes, Meaning, SingleFrame, FirstFrame, ConsecutiveFrame, FlowControl, NoUnit}
use Rattle.tp_receiver.proofs.Made.{made}

-- what holds of an effect
record IsOwn (set : RxSet) (tick : ℕ) (calls : List Event) (act : BoxMeaning) (records : List SessionRecord) : Type 0 where
  writes : AllByRecursion (OfWriter set.path.0 set.group.0) calls
  ends : AllByRecursion (IsMadeNow set tick) records
  control : IsControlAct set act

put : (path group seq count : ℕ) (cells : List ℕ) → AllByRecursion (OfWriter path group) (map (λ cell. Put path seq cell) cells ++ Published path seq count ∷ [])
put path group seq count [] = (refl, tt)
put path group seq count (cell ∷ cells) = (refl, put path group seq count cells)

refuses : (set : RxSet) (meaning : Meaning) → IsControlAct set (refusal_act meaning)
refuses set (SingleFrame bytes) = tt
refuses set (FirstFrame len bytes) = TellsOverflow refl
refuses set (ConsecutiveFrame number bytes) = tt
refuses set (FlowControl status block_size separation) = tt
refuses set (NoUnit why) = tt

revokes : (set : RxSet) (wait : RxWait) → IsControlAct set (revoking wait)
revokes set Box = tt
revokes set Room = tt
revokes set Cf = tt

-- the flow control of a grant
control : (set : RxSet) (grant : Grant) → KeepsToLimit set grant → IsControl set (control_of set grant)
control set All free = Continues 0 (record { most = omega arith; some = λ limit. absurd (omega (arith, limit, free)) }) refl
control set (Block frames) block = Continues frames block refl
control set Wait so = AsksToWait refl

waits : (set : RxSet) (event : RxEvent) (tick : ℕ) (old : RxStage) (busy : Reception) (act : BoxMeaning) (wait : RxWait) (left : Option ℕ) (count : ℕ) (refusing : Option ℕ) → Because set event tick old busy act wait left count refusing → IsControlAct set act
waits set event tick old busy act Box left count refusing because = rw because.act_is (control set because.grant (keeps-to-limit set busy because.seen.look.cells because.grant because.seen.grant_is))
waits set event tick old busy act Room left count refusing because = rw because.act_is tt
waits set event tick old busy act Cf left count refusing because = rw because.act_is tt

forgets : (set : RxSet) (event : RxEvent) (tick : ℕ) (old : RxStage) (act : BoxMeaning) → IsForgotten set event tick old act → IsControlAct set act
forgets set event tick old act (HasLeft told is) = rw is tt
forgets set event tick old act (LayTooLong since told lies late is) = rw is tt

opens : (set : RxSet) (seq size len : ℕ) (bytes : List ℕ) (opened : OpenedAt) (calls : List Event) → OpensSession set seq size len bytes opened calls → AllByRecursion (OfWriter set.path.0 set.group.0) calls
opens set seq size len bytes opened calls row = rw row.calls_are (refl, (refl, put set.path.0 set.group.0 seq _ row.cells))

-- each effect
own-effect : (set : RxSet) (event : RxEvent) (tick : ℕ) (old : RxStage) (done : RxDone) → RxEffect set event tick old done → IsOwn set tick done.calls done.act done.records
own-effect set event tick old done (Refuses e) = record { writes = rw e.calls (refl, tt); ends = rw e.records ((refl, refl), tt); control = rw e.act (refuses set e.meaning) }
own-effect set event tick old done (Opens e) = record { writes = opens set _ _ _ _ e.opened done.calls e.opens; ends = rw e.records tt; control = rw e.act tt }
own-effect set event tick old done (Looks e) = record { writes = rw e.calls (refl, tt); ends = rw e.records tt; control = rw e.act tt }
own-effect set event tick old done (Puts e) = record { writes = rw e.calls (put set.path.0 set.group.0 e.busy.opened.seq _ e.cells); ends = rw e.records tt; control = rw e.act tt }
own-effect set event tick old done (Waits e) = record { writes = rw e.calls tt; ends = rw e.records tt; control = waits set event tick old e.busy done.act e.wait e.left e.waits e.refusing e.because }
own-effect set event tick old done (Forgets e) = record { writes = rw e.calls tt; ends = rw e.records tt; control = forgets set event tick old done.act e.because }
own-effect set event tick old done (Ends e) = record { writes = rw e.calls (refl, tt); ends = rw e.records ((refl, refl), tt); control = rw e.act (revokes set e.busy.wait) }

later-control : (set : RxSet) (earlier later : BoxMeaning) → IsControlAct set earlier → IsControlAct set later → IsControlAct set (later_act earlier later)
later-control set earlier Keeps one two = one
later-control set earlier (Offers meaning) one two = two
later-control set earlier Revokes one two = tt

own-effects : (set : RxSet) (event : RxEvent) (tick : ℕ) (old last : RxStage) (effects : List RxDone) → AreEffects set event tick old effects last → IsOwn set tick (calls_of effects) (act_of effects) (records_of effects)
own-effects set event tick old last [] are = record { writes = tt; ends = tt; control = tt }
own-effects set event tick old last (done ∷ rest) are =
    let one : IsOwn set tick done.calls done.act done.records = own-effect set event tick old done are.0 in
    let more : IsOwn set tick (calls_of rest) (act_of rest) (records_of rest) = own-effects set event tick done.new last rest are.1 in
    record {
      writes = all-join (OfWriter set.path.0 set.group.0) done.calls (calls_of rest) one.writes more.writes;
      ends = all-join (IsMadeNow set tick) done.records (records_of rest) one.ends more.ends;
      control = later-control set done.act (act_of rest) one.control more.control;
    }

-- each step
pub own-step : (set : RxSet) (old : RxState) (event : RxEvent) (m : RxDid) → RxStep set old event m → IsOwnStep set m
own-step set old event m row =
    let so : IsMade set event (first_stage old) m = made set old event m row in
    let all : IsOwn set m.tick (calls_of so.effects) (act_of so.effects) (records_of so.effects) = own-effects set event m.tick (first_stage old) so.last so.effects so.are in
    record {
      writes = subst (λ (c : List Event). AllByRecursion (OfWriter set.path.0 set.group.0) c) (sym so.calls) all.writes;
      ends = subst (λ (r : List SessionRecord). AllByRecursion (IsMadeNow set m.tick) r) (sym so.records) all.ends;
      control = subst (IsControlAct set) (sym so.act) all.control;
    }
