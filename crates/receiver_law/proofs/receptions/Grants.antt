-- What a flow control that is asked for grants, and where none is.
use Rattle.std.proofs.Common.{◌≡◌, ◌≢◌, ℕ, ◌+◌, ◌-◌, ◌<◌, ◌≤◌, suc, zero, min, Bool, inl, inr, Option, Some, None, List, [], refl, sym, subst, arith, append-nil}
use Rattle.std.proofs.lemmas.Bool.Decides.{eqb_tells}
use Rattle.flow_plan.specs.Cells.{cells_for, cells_left}
use Rattle.flow_plan.specs.Grant.{granted_of, most_of, with_room}
use Rattle.flow_plan.specs.declared.block.Grant.{Grant}
use Rattle.flow_plan.specs.declared.block.Grant.TheVariants.{All, Block, Wait as NoFrames}
use Rattle.hub_core.specs.declared.record.RxWait.TheVariants.{Box, Room}
use Rattle.tp_attempts.specs.Cuts.{Cut}
use Rattle.tp_attempts.specs.Seen.{Seen}
use Rattle.tp_receiver.specs.Grant.{ask_to_wait, continue_to_send, frames_for, full_part, grant_in}
use Rattle.tp_receiver.specs.State.{Reception}
use Rattle.tp_receiver.specs.declared.set.RxSet.{RxSet}
use Rattle.tp_receiver.proofs.Blocks.{keeps-to-limit}
use Rattle.tp_unit.specs.Unit.{Meaning}
use Rattle.receiver_law.specs.FlowControls.{IsOfSession, MayFollow}
use Rattle.receiver_law.specs.ReceptionCauses.{AfterPause}
use Rattle.receiver_law.specs.Receptions.{ControlKind, Continue, ControlLeft, Wait, control_of, waits_in}
use Rattle.receiver_law.proofs.receptions.Frames.{all-left}
use Rattle.receiver_law.proofs.receptions.Going.{IsAsking, IsForRoom, IsGoing, LetsYet, WaitsFor, WaitsSo}

-- a flow control is put into the box
offers : (full : ℕ → Bool) (set : RxSet) (tick due : ℕ) (busy : Reception) (attempt : Cut Seen) (controls : List ControlLeft) (kind : ControlKind) (left : Option ℕ) (waits : ℕ) (so : IsAsking full set tick busy attempt controls) →
    IsOfSession set kind → LetsYet tick tick kind left waits so.frames → WaitsSo kind waits (waits_in tick so.frames controls) → waits ≤ set.wft_max → due ≤ tick + set.n_ar →
    IsGoing full set tick due (Some (control_of set kind)) (record busy { wait = Box; since = tick; left = left; waits = waits }) attempt controls
offers full set tick due busy attempt controls kind left waits so of lets many few in_time = record {
  start = so.start;
  frames = so.frames;
  under = record { pieces = so.under.pieces; begin = so.under.begin; by = so.under.by; early = so.under.early; answers = so.under.answers; waits = few };
  waits_for = record {
    kind = kind;
    lies_is = refl;
    of = of;
    lets = lets;
    kept = λ at from below. absurd (omega (arith, from, below));
    from = so.under.by;
    by = omega arith;
    early = all-left full set so.frames busy.begin tick controls so.under.answers;
    may = so.may;
    waits = many;
    in_time = in_time;
  };
}

-- a block that is granted has a frame at least
most-some : (bs : ℕ) → 0 < most_of bs
most-some bs = elim (eqb_tells bs 0) [ inl none ↦ rw none.0 (omega arith) | inr some ↦ rw some.0 (omega (arith, some.1)) ]

least : (n m : ℕ) → n ≢ 0 → 0 < m → 0 < min n m
least n m some more = omega (arith, some, more)

abbrev HasFrame : Grant → Type 0
HasFrame All = Unit {0}
HasFrame (Block frames) = 0 < frames
HasFrame NoFrames = Unit {0}

granted-some : (bs frames left : ℕ) → HasFrame (granted_of bs frames left)
granted-some bs frames left = elim (eqb_tells bs 0) [
  | inl free ↦ elim (eqb_tells frames left) [
    | inl all ↦ rw (free.0, all.0) tt
    | inr fewer ↦ elim (eqb_tells frames 0) [ inl none ↦ rw (free.0, fewer.0, none.0) tt | inr some ↦ let it : 0 < min frames (most_of bs) = least frames (most_of bs) some.1 (most-some bs) in rw (free.0, fewer.0, some.0) (simp (free.0) at it) ]
  ]
  | inr limit ↦ elim (eqb_tells frames 0) [ inl none ↦ rw (limit.0, none.0) tt | inr some ↦ let it : 0 < min frames (most_of bs) = least frames (most_of bs) some.1 (most-some bs) in rw (limit.0, some.0) (simp (limit.0) at it) ]
]

block-some : (set : RxSet) (busy : Reception) (room frames : ℕ) → grant_in set busy room ≡ Block frames → 0 < frames
block-some set busy room frames is =
    let part : ℕ = full_part set.a busy.size in
    let left : ℕ = busy.len - busy.bytes in
    subst HasFrame is (granted-some set.bs (with_room room (cells_for part) (cells_left part left) (frames_for part left)) (frames_for part left))

-- all frames that remain
pub grants-all : (full : ℕ → Bool) (set : RxSet) (tick due room : ℕ) (busy : Reception) (attempt : Cut Seen) (controls : List ControlLeft) → grant_in set busy room ≡ All → due ≤ tick + set.n_ar → IsAsking full set tick busy attempt controls →
    IsGoing full set tick due (Some (continue_to_send set 0)) (record busy { wait = Box; since = tick; left = None; waits = 0 }) attempt controls
grants-all full set tick due room busy attempt controls is in_time so =
    let free : set.bs ≡ 0 = keeps-to-limit set busy room All is in
    offers full set tick due busy attempt controls (Continue 0) None 0 so (record { most = omega arith; some = λ below. absurd (omega (arith, below, free)) }) (refl, refl) tt (omega arith) in_time

-- a block
pub grants-block : (full : ℕ → Bool) (set : RxSet) (tick due room frames : ℕ) (busy : Reception) (attempt : Cut Seen) (controls : List ControlLeft) → grant_in set busy room ≡ Block frames → due ≤ tick + set.n_ar → IsAsking full set tick busy attempt controls →
    IsGoing full set tick due (Some (continue_to_send set frames)) (record busy { wait = Box; since = tick; left = Some frames; waits = 0 }) attempt controls
grants-block full set tick due room frames busy attempt controls is in_time so =
    offers full set tick due busy attempt controls (Continue frames) (Some frames) 0 so (keeps-to-limit set busy room (Block frames) is) (of frames (block-some set busy room frames is)) tt (omega arith) in_time
  where
    of : (n : ℕ) → 0 < n → LetsYet tick tick (Continue n) (Some n) 0 so.frames
    of zero some = absurd (omega (arith, some))
    of (suc n) some = (record { rest = suc n; left_is = refl; some = some; before = so.frames; after = []; are = sym (append-nil so.frames); early = so.under.early; late = tt; sum = omega arith }, refl)

-- none yet
pub grants-none : (full : ℕ → Bool) (set : RxSet) (tick due : ℕ) (busy : Reception) (attempt : Cut Seen) (controls : List ControlLeft) → busy.waits < set.wft_max → due ≤ tick + set.n_ar → IsAsking full set tick busy attempt controls →
    IsGoing full set tick due (Some ask_to_wait) (record busy { wait = Box; since = tick; left = Some 0; waits = busy.waits + 1 }) attempt controls
grants-none full set tick due busy attempt controls below in_time so =
    offers full set tick due busy attempt controls Wait (Some 0) (busy.waits + 1) so tt refl (so.few, omega (arith, so.many)) (omega (arith, below)) in_time

-- room is looked for again
pub pause-asks : (full : ℕ → Bool) (set : RxSet) (tick : ℕ) (lies : Option Meaning) (busy : Reception) (attempt : Cut Seen) (controls : List ControlLeft) → busy.wait ≡ Room → busy.since + set.n_br ≤ tick → IsGoing full set tick tick lies busy attempt controls →
    IsAsking full set tick busy attempt controls
pause-asks full set tick lies busy attempt controls is late so =
    let room : IsForRoom set tick tick lies busy so.frames controls = subst (WaitsFor full set tick tick lies busy so.start so.frames controls) is so.waits_for in
    record {
      start = so.start;
      frames = so.frames;
      under = so.under;
      may = subst (λ (c : List ControlLeft). MayFollow full set so.frames c tick) (sym room.newest) late;
      few = room.few;
      many = room.many;
      asked = AfterPause (record { tick = busy.since; kind = Wait }) room.earlier room.newest refl (omega (arith, late, room.in_time));
    }
