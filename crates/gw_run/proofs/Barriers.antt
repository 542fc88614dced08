-- From the source's part of a tick's work over the destination's part to the barrier after it.
use Rattle.std.proofs.Common.{◌≡◌, ℕ, ◌+◌, ◌-◌, ◌≤◌, Option, Some, None, List, [], ◌∷◌, ◌++◌, refl, sym, subst, ap, ◌∙◌, append-nil, append_assoc, arith}
use Rattle.tp_unit.specs.Box.{Answer, written_of, Written}
use Rattle.tp_sender.specs.Runs.{controls_in, after_left, box_after, clear_from}
use Rattle.tp_sender.specs.State.{TxTurn}
use Rattle.tp_receiver.specs.State.{RxTurn}
use Rattle.hub_core.specs.Turns.{AreFreshTurns, calls_by, came_by}
use Rattle.hub_core.specs.View.{View, grows}
use Rattle.sender_law.specs.Parts.{FrameLeaves}
use Rattle.gw_run.specs.Works.{Work, moments_of, turns_of, view_of}
use Rattle.tp_attempts.specs.Seen.{Seen}
use Rattle.tp_sender.specs.declared.event.TxEvent.{TxEvent}
use Rattle.tp_sender.specs.declared.event.TxEvent.TheVariants.{Turn, Fc, Left}
use Rattle.tp_unit.specs.Unit.{Meaning}
use Rattle.sender_law.specs.Parts.{AnswersIn}
use Rattle.gw_run.specs.Standing.{AtBarrier, InDestination, Stands, lying}
use Rattle.gw_run.specs.Telling.{LeavesFrame, TellsSender}
use Rattle.gw_run.specs.declared.gateway.Gateway.{Gateway}
use Rattle.gw_run.proofs.Ticks.{fresh-at, fresh-join, stands-joint}
use Rattle.gw_run.proofs.TxMoments.{moment-stands}
use Rattle.hub_core.proofs.Growing.{grows-append}
use Rattle.hub_core.proofs.Turns.{calls-append}

-- the same step, with the frames that had left written otherwise
abbrev pub frames-with : (g h : Gateway) (event : TxEvent) (tick : ℕ) (lies : Option Meaning) (frames other : List Written) → frames ≡ other → TellsSender g h event tick lies frames → TellsSender g h event tick lies other
frames-with g h event tick lies frames other is told = record { turn = told.turn; stepped = told.stepped; lies_is = told.lies_is; frames_are = told.frames_are ∙ is; dests = told.dests; moves = told.moves; rest = told.rest }

abbrev pub frames-same : (g h : Gateway) (event : TxEvent) (tick : ℕ) (lies : Option Meaning) → TellsSender g h event tick lies g.frames → TellsSender g h event tick lies (g.frames ++ [])
frames-same g h event tick lies told = frames-with g h event tick lies g.frames (g.frames ++ []) (sym (append-nil g.frames)) told

pub calls-join : (left rest : List TxTurn) (view : View) → grows (calls_by (left ++ rest)) view ≡ grows (calls_by left) (grows (calls_by rest) view)
calls-join left rest view = ap (λ c. grows c view) (calls-append left rest) ∙ grows-append (calls_by rest) (calls_by left) view

-- the view after the destination's part so far
abbrev pub view_at : (earlier : List Work) → (turns : List RxTurn) → (moments : List TxTurn) → View
view_at earlier turns moments = grows (calls_by moments) (grows (calls_by turns) (view_of earlier))

-- a flow control came
pub answered : (sizes : List ℕ) (g h : Gateway) (seen : List Seen) (answers : List Answer) (tick fs bs st : ℕ) → InDestination sizes g seen answers tick → TellsSender g h (Fc fs bs st) tick (lying g.frame) g.frames →
    InDestination sizes h seen (answers ++ record { tick = tick; status = fs; block_size = bs; separation = st } ∷ []) tick
answered sizes g h seen answers tick fs bs st at told =
    let turn = told.turn in
    let step = told.stepped in
    let moments = at.moments ++ moments_of at.earlier in
    let view = view_at at.earlier at.turns at.moments in
    let stands = moment-stands sizes g h tick tick (at.turns ++ turns_of at.earlier) moments view (Fc fs bs st) at.stands (omega arith) at.clear (frames-same g h (Fc fs bs st) tick (lying g.frame) told) in
    let V : View → Type 0 = λ v. Stands sizes h tick (at.turns ++ turns_of at.earlier) (turn ∷ moments) v in
    let A : TxEvent → Type 0 = λ e. AnswersIn tick e turn.did.tick in
    let C : TxEvent → Type 0 = λ e. after_left e turn.did.tick (clear_from moments) ≤ tick in
    record {
      earlier = at.earlier;
      turns = at.turns;
      moments = turn ∷ at.moments;
      ticks = at.ticks;
      later = at.later;
      next = at.next;
      receives = at.receives;
      looks = at.looks;
      between = at.between;
      only = (subst A (sym step.event_is) step.tick_is, at.only);
      sees = (fresh-at sizes g tick (at.turns ++ turns_of at.earlier) moments view turn.did.calls at.stands step.fresh, at.sees);
      stands = subst V (sym (grows-append (calls_by at.moments) turn.did.calls (grows (calls_by at.turns) (view_of at.earlier)))) stands;
      clear = subst C (sym step.event_is) at.clear;
      seen_is = at.seen_is;
      answers_is = ap (λ (e : TxEvent). came_by controls_in moments ++ controls_in turn.did.tick e) step.event_is
          ∙ ap (λ (k : ℕ). came_by controls_in moments ++ (record { tick = k; status = fs; block_size = bs; separation = st } ∷ [])) step.tick_is
          ∙ ap (λ (l : List Answer). l ++ record { tick = tick; status = fs; block_size = bs; separation = st } ∷ []) at.answers_is;
    }

-- what lay in the sender's box left
record FrameLeft (sizes : List ℕ) (h : Gateway) (tick : ℕ) (turns : List RxTurn) (moments : List TxTurn) (view : View) : Type 0 where
  left : List TxTurn
  left_is : FrameLeaves tick (box_after moments) left
  answers : came_by controls_in (left ++ moments) ≡ came_by controls_in moments
  clear : clear_from moments ≤ tick + 1 → clear_from (left ++ moments) ≤ tick + 1
  sees : AreFreshTurns (sizes ∷ []) view left
  stands : Stands sizes h tick turns (left ++ moments) (grows (calls_by left) view)

frame-left : (sizes : List ℕ) (g h : Gateway) (tick : ℕ) (turns : List RxTurn) (moments : List TxTurn) (view : View) (lies : Option Meaning) → lying g.frame ≡ lies → Stands sizes g tick turns moments view → LeavesFrame lies g h tick → FrameLeft sizes h tick turns moments view
frame-left sizes g h tick turns moments view None is s same =
    let P : Option Meaning → Type 0 = λ l. FrameLeaves tick l [] in
    let H : Gateway → Type 0 = λ x. Stands sizes x tick turns moments view in
    record { left = []; left_is = subst P (sym is ∙ s.sends.lies_is) refl; answers = refl; clear = λ clear. clear; sees = tt; stands = subst H (sym same) s }
frame-left sizes g h tick turns moments view (Some meaning) is s told =
    let turn = told.turn in
    let step = told.stepped in
    let P : Option Meaning → Type 0 = λ l. FrameLeaves tick l (turn ∷ []) in
    let same = ap (λ l. g.frames ++ written_of g.machines.tx.shape tick l) (sym is) in
    let C : TxEvent → Type 0 = λ e. after_left e turn.did.tick (clear_from moments) ≤ tick + 1 in
    record {
      left = turn ∷ [];
      left_is = subst P (sym is ∙ s.sends.lies_is) ((step.event_is, step.tick_is), refl);
      answers = ap (λ (e : TxEvent). came_by controls_in moments ++ controls_in turn.did.tick e) step.event_is ∙ append-nil (came_by controls_in moments);
      clear = λ clear. subst C (sym step.event_is) (omega (arith, step.tick_is));
      sees = (fresh-at sizes g tick turns moments view turn.did.calls s step.fresh, tt);
      stands = moment-stands sizes g h tick tick turns moments view Left s (omega arith) tt (frames-with g h Left tick None _ _ same told);
    }

-- the sender's turn
pub turn-stands : (sizes : List ℕ) (g k : Gateway) (seen : List Seen) (answers : List Answer) (tick : ℕ) → (at : InDestination sizes g seen answers tick) → (told : TellsSender g k Turn tick (lying g.frame) g.frames) →
    Stands sizes k tick (at.turns ++ turns_of at.earlier) (told.turn ∷ (at.moments ++ moments_of at.earlier)) (grows told.turn.did.calls (view_at at.earlier at.turns at.moments))
turn-stands sizes g k seen answers tick at told =
    moment-stands sizes g k tick tick (at.turns ++ turns_of at.earlier) (at.moments ++ moments_of at.earlier) (view_at at.earlier at.turns at.moments) Turn at.stands (omega arith) tt (frames-same g k Turn tick (lying g.frame) told)

-- the destination's part of a tick ends
pub destination-ends : (sizes : List ℕ) (g k h : Gateway) (seen : List Seen) (answers : List Answer) (tick : ℕ) → InDestination sizes g seen answers tick → TellsSender g k Turn tick (lying g.frame) g.frames →
    LeavesFrame (lying k.frame) k h tick → AtBarrier sizes h seen answers (tick + 1)
destination-ends sizes g k h seen answers tick at told leaves =
    let turn = told.turn in
    let step = told.stepped in
    let start = grows (calls_by at.turns) (view_of at.earlier) in
    let all = at.turns ++ turns_of at.earlier in
    let old = at.moments ++ moments_of at.earlier in
    let stands = turn-stands sizes g k seen answers tick at told in
    let out = frame-left sizes k h tick all (turn ∷ old) (grows turn.did.calls (view_at at.earlier at.turns at.moments)) (lying k.frame) refl stands leaves in
    let done = out.left ++ turn ∷ at.moments in
    let done_are : done ++ moments_of at.earlier ≡ out.left ++ turn ∷ old = append_assoc out.left (turn ∷ at.moments) (moments_of at.earlier) in
    let view_is : grows (calls_by done) start ≡ grows (calls_by out.left) (grows turn.did.calls (view_at at.earlier at.turns at.moments)) =
    calls-join out.left (turn ∷ at.moments) start ∙ ap (λ v. grows (calls_by out.left) v) (grows-append (calls_by at.moments) turn.did.calls start) in
    let L : List TxTurn → Type 0 = λ l. Stands sizes h tick all l (grows (calls_by out.left) (grows turn.did.calls (view_at at.earlier at.turns at.moments))) in
    let V : View → Type 0 = λ v. Stands sizes h tick all (done ++ moments_of at.earlier) v in
    let now : Stands sizes h tick all (done ++ moments_of at.earlier) (grows (calls_by done) start) = subst V (sym view_is) (subst L (sym done_are) out.stands) in
    let mid : grows (calls_by (turn ∷ at.moments)) start ≡ grows turn.did.calls (view_at at.earlier at.turns at.moments) = grows-append (calls_by at.moments) turn.did.calls start in
    let sees_left : AreFreshTurns (sizes ∷ []) (grows (calls_by (turn ∷ at.moments)) start) out.left = (let P : View → Type 0 = λ v. AreFreshTurns (sizes ∷ []) v out.left in subst P (sym mid) out.sees) in
    let work : Work = record { tick = tick; turns = at.turns; moments = done } in
    let K : ℕ → Type 0 = λ k. Stands sizes h k all (done ++ moments_of at.earlier) (grows (calls_by done) start) in
    let M : List TxTurn → Type 0 = λ l. clear_from l ≤ tick + 1 in
    let C : TxEvent → Type 0 = λ e. after_left e turn.did.tick (clear_from old) ≤ tick + 1 in
    let one : tick ≡ tick + 1 - 1 = omega arith in
    record {
      works = work ∷ at.earlier;
      ticks = (
        record {
          later = at.later;
          next = at.next;
          receives = at.receives;
          looks = at.looks;
          between = at.between;
          sends = record { answers = at.moments; turn = turn; left = out.left; moments_are = refl; answers_only = at.only; turn_is = step.event_is; turn_tick = step.tick_is; left_is = out.left_is };
          sees = fresh-join sizes out.left (turn ∷ at.moments) start sees_left (fresh-at sizes g tick all old (view_at at.earlier at.turns at.moments) turn.did.calls at.stands step.fresh, at.sees);
          after = stands-joint sizes h tick _ _ _ now;
        },
        at.ticks,
      );
      next_is = refl;
      stands = subst K one now;
      clear = subst M (sym done_are) (out.clear (subst C (sym step.event_is) (omega (arith, at.clear))));
      seen_is = at.seen_is;
      answers_is = ap (came_by controls_in) done_are ∙ out.answers ∙ ap (λ (e : TxEvent). came_by controls_in old ++ controls_in turn.did.tick e) step.event_is ∙ append-nil (came_by controls_in old) ∙ at.answers_is;
    }
