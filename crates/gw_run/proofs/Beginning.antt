-- From the barrier before a tick into its work, and the gateway as it begins.
use Rattle.std.proofs.Common.{◌≡◌, ◌⊎◌, inl, inr, ℕ, ◌-◌, ◌≤◌, List, [], refl, sym, subst, ap, ◌∙◌, arith}
use Rattle.tp_unit.specs.Box.{Answer}
use Rattle.tp_receiver.specs.State.{RxState, RxTurn}
use Rattle.hub_core.specs.View.{View}
use Rattle.gw_run.specs.Works.{IsIdle, Work, moments_of, turns_of, view_of}
use Rattle.tp_attempts.specs.Seen.{Seen}
use Rattle.tp_sender.specs.State.{TxState, TxTurn}
use Rattle.gw_run.specs.declared.gateway.Gateway.{Gateway}
use Rattle.gw_run.specs.Standing.{AtBarrier, InSource, IsQuiet, Stands}
use Rattle.gw_run.proofs.RxTurns.{sender-stays}
use Rattle.gw_run.proofs.TxMoments.{receiver-stays}

-- all stands in a later tick too
pub stands-later : (sizes : List ℕ) (g : Gateway) (t tick : ℕ) (turns : List RxTurn) (moments : List TxTurn) (view : View) → t ≤ tick → Stands sizes g t turns moments view → Stands sizes g tick turns moments view
stands-later sizes g t tick turns moments view by s = record {
  receives = receiver-stays g.machines.rx g.machines.shape t tick turns view view g.receiver _ g.controls g.sessions refl by s.receives;
  sends = sender-stays g.machines.tx t tick moments view view g.sender _ g.frames g.dests refl by s.sends;
  pool = s.pool;
}

-- where nothing goes on, all is idle
pub quiet-idle : (sizes : List ℕ) (g : Gateway) (t : ℕ) (works : List Work) → Stands sizes g t (turns_of works) (moments_of works) (view_of works) → IsQuiet g → IsIdle works
quiet-idle sizes g t works s quiet = record {
  receiver = ap (λ (r : RxState). r.busy) (sym s.receives.state) ∙ quiet.receiver;
  sender = ap (λ (x : TxState). x.live) (sym s.sends.state) ∙ quiet.sender;
}

pub idle-or : (sizes : List ℕ) (g : Gateway) (t : ℕ) (works : List Work) (one other : ℕ) → Stands sizes g t (turns_of works) (moments_of works) (view_of works) → IsQuiet g ⊎ (one ≡ other) → IsIdle works ⊎ (one ≡ other)
idle-or sizes g t works one other s (inl quiet) = inl (quiet-idle sizes g t works s quiet)
idle-or sizes g t works one other s (inr is) = inr is

-- a tick begins at the barrier before it
pub begins-tick : (sizes : List ℕ) (g : Gateway) (seen : List Seen) (answers : List Answer) (next tick : ℕ) → next ≤ tick → IsQuiet g ⊎ (tick ≡ next) → AtBarrier sizes g seen answers next → InSource sizes g seen answers tick
begins-tick sizes g seen answers next tick later idle at =
    let P : ℕ → Type 0 = λ n. IsIdle at.works ⊎ (tick ≡ n) in
    record {
      earlier = at.works;
      turns = [];
      ticks = at.ticks;
      later = omega (arith, at.next_is);
      next = subst P (sym at.next_is) (idle-or sizes g (next - 1) at.works tick next at.stands idle);
      came = tt;
      looks = tt;
      stands = stands-later sizes g (next - 1) tick (turns_of at.works) (moments_of at.works) (view_of at.works) (omega arith) at.stands;
      clear = omega (arith, at.clear);
      seen_is = at.seen_is;
      answers_is = at.answers_is;
    }
