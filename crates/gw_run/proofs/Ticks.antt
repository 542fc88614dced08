-- From step to step within a tick's work.
use Rattle.std.proofs.Common.{◌≡◌, ℕ, Option, Some, None, List, [], ◌∷◌, ◌++◌, length, refl, sym, subst, ap, ◌∙◌, append-nil, append_assoc, arith}
use Rattle.tp_unit.specs.Box.{Answer, Written, written_of}
use Rattle.tp_sender.specs.State.{TxTurn}
use Rattle.tp_receiver.specs.State.{RxEvent, Came, Timer, FcLeft, RxTurn}
use Rattle.hub_core.specs.Turns.{AreFreshTurns, Turn, calls_by, came_by}
use Rattle.tp_receiver.specs.Runs.{frames_in}
use Rattle.can_frame.specs.Frame.{CanFrame}
use Rattle.hub_core.specs.Floors.{AreFresh, floors_of}
use Rattle.hub_core.specs.Joint.{Joint}
use Rattle.hub_core.specs.View.{Event, View, grows}
use Rattle.hub_core.proofs.Hubs.{is-joint}
use Rattle.receiver_law.specs.Parts.{ControlLeaves}
use Rattle.gw_run.specs.Works.{IsJoint, moments_of, turns_of, view_of}
use Rattle.tp_receiver.specs.Runs.{control_after}
use Rattle.tp_attempts.specs.Seen.{Seen, seen_frame}
use Rattle.tp_unit.specs.Reading.{unit_of}
use Rattle.tp_unit.specs.Unit.{Meaning}
use Rattle.gw_run.specs.Standing.{groups_in, InDestination, InSource, Stands, lying, view_in}
use Rattle.gw_run.specs.Telling.{LeavesControl, TellsReceiver}
use Rattle.gw_run.specs.declared.gateway.Gateway.{Gateway}
use Rattle.gw_run.proofs.RxTurns.{turn-stands}
use Rattle.hub_core.proofs.Growing.{grows-append}
use Rattle.hub_core.proofs.Turns.{calls-append}

-- the hub is joint at every moment
pub stands-joint : (sizes : List ℕ) (g : Gateway) (t : ℕ) (turns : List RxTurn) (moments : List TxTurn) (view : View) → Stands sizes g t turns moments view → IsJoint sizes view
stands-joint sizes g t turns moments view s =
    let P : View → Type 0 = λ v. IsJoint sizes v in
    let Q : List (List ℕ) → Type 0 = λ groups. Joint groups (view_in g.hub) in
    subst P s.pool.view_is (subst Q s.pool.groups (is-joint g.hub))

-- the same step, with the flow controls that had left written otherwise
abbrev pub told-with : (g h : Gateway) (event : RxEvent) (tick : ℕ) (lies : Option Meaning) (controls other : List Written) → controls ≡ other → TellsReceiver g h event tick lies controls → TellsReceiver g h event tick lies other
told-with g h event tick lies controls other is told = record { did = told.did; stepped = told.stepped; lies_is = told.lies_is; controls_are = told.controls_are ∙ is; sessions = told.sessions; moves = told.moves; rest = told.rest }

abbrev pub told-same : (g h : Gateway) (event : RxEvent) (tick : ℕ) (lies : Option Meaning) → TellsReceiver g h event tick lies g.controls → TellsReceiver g h event tick lies (g.controls ++ [])
told-same g h event tick lies told = told-with g h event tick lies g.controls (g.controls ++ []) (sym (append-nil g.controls)) told

-- what a step saw stands in the view before it
pub fresh-at : (sizes : List ℕ) (g : Gateway) (t : ℕ) (turns : List RxTurn) (moments : List TxTurn) (view : View) (calls : List Event) → Stands sizes g t turns moments view → AreFresh (floors_of (groups_in g.hub) (view_in g.hub)) (view_in g.hub) calls → AreFresh (floors_of (sizes ∷ []) view) view calls
fresh-at sizes g t turns moments view calls s fresh =
    let P : List (List ℕ) → Type 0 = λ l. AreFresh (floors_of l (view_in g.hub)) (view_in g.hub) calls in
    let Q : View → Type 0 = λ v. AreFresh (floors_of (sizes ∷ []) v) v calls in
    subst Q s.pool.view_is (subst P s.pool.groups fresh)

-- a frame of the source channel came
pub received : (sizes : List ℕ) (g h : Gateway) (seen : List Seen) (answers : List Answer) (a tick : ℕ) (frame : CanFrame) → InSource sizes g seen answers tick →
    TellsReceiver g h (Came (length frame.bytes) (unit_of a frame)) tick (lying g.control) g.controls → InSource sizes h (seen ++ seen_frame a tick frame ∷ []) answers tick
received sizes g h seen answers a tick frame at told =
    let event = Came (length frame.bytes) (unit_of a frame) in
    let turn : RxTurn = record { event = event; did = told.did } in
    let view = grows (calls_by at.turns) (view_of at.earlier) in
    let told_so = told-same g h event tick (lying g.control) told in
    let stands = turn-stands sizes g h tick tick (at.turns ++ turns_of at.earlier) (moments_of at.earlier) view event at.stands (omega arith) told_so in
    let V : View → Type 0 = λ v. Stands sizes h tick (turn ∷ (at.turns ++ turns_of at.earlier)) (moments_of at.earlier) v in
    record {
      earlier = at.earlier;
      turns = turn ∷ at.turns;
      ticks = at.ticks;
      later = at.later;
      next = at.next;
      came = (told.stepped.tick_is, at.came);
      looks = (fresh-at sizes g tick _ _ view told.did.calls at.stands told.stepped.fresh, at.looks);
      stands = subst V (sym (grows-append (calls_by at.turns) told.did.calls (view_of at.earlier))) stands;
      clear = at.clear;
      seen_is = ap (λ (k : ℕ). came_by frames_in (at.turns ++ turns_of at.earlier) ++ (record { at = k; size = length frame.bytes; meaning = unit_of a frame } ∷ [])) told.stepped.tick_is
          ∙ ap (λ (l : List Seen). l ++ seen_frame a tick frame ∷ []) at.seen_is;
      answers_is = at.answers_is;
    }

-- what lay in the receiver's box left
record ControlLeft (sizes : List ℕ) (h : Gateway) (tick : ℕ) (turns : List RxTurn) (moments : List TxTurn) (view : View) : Type 0 where
  left : List RxTurn
  left_is : ControlLeaves tick (control_after turns) left
  none_seen : came_by frames_in (left ++ turns) ≡ came_by frames_in turns
  looks : AreFreshTurns (sizes ∷ []) view left
  stands : Stands sizes h tick (left ++ turns) moments (grows (calls_by left) view)

control-left : (sizes : List ℕ) (g h : Gateway) (tick : ℕ) (turns : List RxTurn) (moments : List TxTurn) (view : View) (lies : Option Meaning) → lying g.control ≡ lies → Stands sizes g tick turns moments view → LeavesControl lies g h tick → ControlLeft sizes h tick turns moments view
control-left sizes g h tick turns moments view None is s same =
    let P : Option Meaning → Type 0 = λ l. ControlLeaves tick l [] in
    let H : Gateway → Type 0 = λ x. Stands sizes x tick turns moments view in
    record { left = []; left_is = subst P (sym is ∙ s.receives.lies_is) refl; none_seen = refl; looks = tt; stands = subst H (sym same) s }
control-left sizes g h tick turns moments view (Some meaning) is s told =
    let turn : RxTurn = record { event = FcLeft; did = told.did } in
    let P : Option Meaning → Type 0 = λ l. ControlLeaves tick l (turn ∷ []) in
    let same = ap (λ l. g.controls ++ written_of g.machines.shape tick l) (sym is) in
    record {
      left = turn ∷ [];
      left_is = subst P (sym is ∙ s.receives.lies_is) (refl, told.stepped.tick_is, refl);
      none_seen = append-nil (came_by frames_in turns);
      looks = (fresh-at sizes g tick turns moments view told.did.calls s told.stepped.fresh, tt);
      stands = turn-stands sizes g h tick tick turns moments view FcLeft s (omega arith) (told-with g h FcLeft tick None _ _ same told);
    }

grows-join : (left rest : List RxTurn) (view : View) → grows (calls_by (left ++ rest)) view ≡ grows (calls_by left) (grows (calls_by rest) view)
grows-join left rest view = ap (λ c. grows c view) (calls-append left rest) ∙ grows-append (calls_by rest) (calls_by left) view

pub fresh-join : {E A R S : Type 0} (sizes : List ℕ) (left rest : List (Turn E Event A R S)) (view : View) → AreFreshTurns (sizes ∷ []) (grows (calls_by rest) view) left → AreFreshTurns (sizes ∷ []) view rest → AreFreshTurns (sizes ∷ []) view (left ++ rest)
fresh-join sizes [] rest view one other = other
fresh-join sizes (turn ∷ left) rest view one other =
    let P : View → Type 0 = λ v. AreFresh (floors_of (sizes ∷ []) v) v turn.did.calls in
    (subst P (sym (ap (λ c. grows c view) (calls-append left rest) ∙ grows-append (calls_by rest) (calls_by left) view)) one.0, fresh-join sizes left rest view one.1 other)

-- the receiver's timer
pub timer-stands : (sizes : List ℕ) (g k : Gateway) (seen : List Seen) (answers : List Answer) (tick : ℕ) → (at : InSource sizes g seen answers tick) → (told : TellsReceiver g k Timer tick (lying g.control) g.controls) →
    Stands sizes k tick (record { event = Timer; did = told.did } ∷ (at.turns ++ turns_of at.earlier)) (moments_of at.earlier) (grows told.did.calls (grows (calls_by at.turns) (view_of at.earlier)))
timer-stands sizes g k seen answers tick at told =
    turn-stands sizes g k tick tick (at.turns ++ turns_of at.earlier) (moments_of at.earlier) (grows (calls_by at.turns) (view_of at.earlier)) Timer at.stands (omega arith) (told-same g k Timer tick (lying g.control) told)

-- the source's part of a tick ends
pub source-ends : (sizes : List ℕ) (g k h : Gateway) (seen : List Seen) (answers : List Answer) (tick : ℕ) → InSource sizes g seen answers tick → TellsReceiver g k Timer tick (lying g.control) g.controls →
    LeavesControl (lying k.control) k h tick → InDestination sizes h seen answers tick
source-ends sizes g k h seen answers tick at told leaves =
    let timer : RxTurn = record { event = Timer; did = told.did } in
    let view = grows (calls_by at.turns) (view_of at.earlier) in
    let stands = timer-stands sizes g k seen answers tick at told in
    let out = control-left sizes k h tick (timer ∷ (at.turns ++ turns_of at.earlier)) (moments_of at.earlier) (grows told.did.calls view) (lying k.control) refl stands leaves in
    let mid : grows (calls_by (timer ∷ at.turns)) (view_of at.earlier) ≡ grows told.did.calls view = grows-append (calls_by at.turns) told.did.calls (view_of at.earlier) in
    let all : grows (calls_by (out.left ++ timer ∷ at.turns)) (view_of at.earlier) ≡ grows (calls_by out.left) (grows told.did.calls view) =
    grows-join out.left (timer ∷ at.turns) (view_of at.earlier) ∙ ap (λ v. grows (calls_by out.left) v) mid in
    let turns_are : (out.left ++ timer ∷ at.turns) ++ turns_of at.earlier ≡ out.left ++ timer ∷ (at.turns ++ turns_of at.earlier) = append_assoc out.left (timer ∷ at.turns) (turns_of at.earlier) in
    let L : List RxTurn → Type 0 = λ l. Stands sizes h tick l (moments_of at.earlier) (grows (calls_by out.left) (grows told.did.calls view)) in
    let V : View → Type 0 = λ v. Stands sizes h tick ((out.left ++ timer ∷ at.turns) ++ turns_of at.earlier) (moments_of at.earlier) v in
    let now : Stands sizes h tick ((out.left ++ timer ∷ at.turns) ++ turns_of at.earlier) (moments_of at.earlier) (grows (calls_by (out.left ++ timer ∷ at.turns)) (view_of at.earlier)) =
    subst V (sym all) (subst L (sym turns_are) out.stands) in
    let looks_left : AreFreshTurns (sizes ∷ []) (grows (calls_by (timer ∷ at.turns)) (view_of at.earlier)) out.left = (let P : View → Type 0 = λ v. AreFreshTurns (sizes ∷ []) v out.left in subst P (sym mid) out.looks) in
    record {
      earlier = at.earlier;
      turns = out.left ++ timer ∷ at.turns;
      moments = [];
      ticks = at.ticks;
      later = at.later;
      next = at.next;
      receives = record { came = at.turns; timer = timer; left = out.left; turns_are = refl; came_only = at.came; timer_is = refl; timer_tick = told.stepped.tick_is; left_is = out.left_is };
      looks = fresh-join sizes out.left (timer ∷ at.turns) (view_of at.earlier) looks_left (fresh-at sizes g tick _ _ view told.did.calls at.stands told.stepped.fresh, at.looks);
      between = stands-joint sizes h tick _ _ _ now;
      only = tt;
      sees = tt;
      stands = now;
      clear = at.clear;
      seen_is = ap (came_by frames_in) turns_are ∙ out.none_seen ∙ append-nil (came_by frames_in (at.turns ++ turns_of at.earlier)) ∙ at.seen_is;
      answers_is = at.answers_is;
    }
