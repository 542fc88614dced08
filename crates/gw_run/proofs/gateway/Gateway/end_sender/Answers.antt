use Rattle.std.proofs.Common.{ℕ, Bool, List, ◌<◌, ◌≤◌, length, subst, ap, ◌∙◌, arith}
use Rattle.std.specs.Bool.{MatchBool}
use Rattle.tp_sender.specs.declared.event.TxEvent.TheVariants.{RunEnd}
use Rattle.gw_run.specs.declared.gateway.Gateway.{Gateway}
use Rattle.gw_run.proofs.CanTell.{can-tell-sender}
use Rattle.gw_run.proofs.Endings.{ends-more, is-over, less-remains}
use Rattle.gw_run.proofs.gateway.Gateway.end_sender.Goals as goal

pub end_once-requires : goal.end_once-requires
end_once-requires c =
    let at = c.requires.at in
    can-tell-sender at.3 c.loop.self c.args.last.0 c.args.last.0 _ _ _ RunEnd (c.loop.invariant.ends at.3 at.0 at.1 at.2 at.4).stands (omega arith) c.requires.tick (λ e. cc)

pub loop-smaller : goal.loop-smaller
loop-smaller c =
    let B : Bool → Type 0 = λ b. MatchBool b (length c.loop.self.dests < length c.end_once.new.self.dests) (length c.end_once.new.self.dests ≤ length c.loop.self.dests) in
    less-remains c.loop.self c.end_once.new.self c.args.last.0 _ _ c.in_ok-end_once.ensures.told (subst B c.if-branch.true c.in_ok-end_once.ensures.more)

pub loop-preserved : goal.loop-preserved
loop-preserved c = record {
  machines = ap (λ (x : Gateway). x.machines) c.in_ok-end_once.ensures.told.rest ∙ c.loop.invariant.machines;
  ends = λ sizes turns moments view stands. ends-more sizes c.loop.self c.end_once.new.self c.args.last.0 turns moments view (c.loop.invariant.ends sizes turns moments view stands) c.in_ok-end_once.ensures.told;
}

pub returns-clause-ends : goal.returns-clause-ends
returns-clause-ends c = λ sizes turns moments view stands.
    ends-more sizes c.loop.self c.end_once.new.self c.args.last.0 turns moments view (c.loop.invariant.ends sizes turns moments view stands) c.in_ok-end_once.ensures.told

pub returns-clause-over : goal.returns-clause-over
returns-clause-over c =
    let B : Bool → Type 0 = λ b. MatchBool b (length c.loop.self.dests < length c.end_once.new.self.dests) (length c.end_once.new.self.dests ≤ length c.loop.self.dests) in
    let at = c.requires.at in
    let stands = (c.loop.invariant.ends at.3 at.0 at.1 at.2 at.4).stands in
    let can = can-tell-sender at.3 c.loop.self c.args.last.0 c.args.last.0 _ _ _ RunEnd stands (omega arith) c.requires.tick (λ e. cc) in
    is-over c.loop.self c.end_once.new.self c.args.last.0 (ap (λ (l : List (List ℕ)). length l) stands.pool.groups) can.dest can.group c.in_ok-end_once.ensures.told (subst B c.if-branch.false c.in_ok-end_once.ensures.more)
