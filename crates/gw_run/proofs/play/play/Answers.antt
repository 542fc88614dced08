-- All frames are still to come at first, and none is after the last tick.
use Rattle.std.proofs.Common.{[], ◌∷◌, ◌<◌, arith, ap, ◌∙◌}
use Rattle.std.proofs.lemmas.Result.{IfOk-weaker}
use Rattle.gw_run.proofs.Onward.{ends, goes_on, starts, tells, works_on_destination, works_on_source}
use Rattle.gw_run.proofs.play.play.Goals as goal

pub loop-tick-init : goal.loop-tick-init
loop-tick-init c = (
  omega arith,
  rw (c.new-source_coming.ensures, c.new-destination_coming.ensures)
      (starts c.in_ok-gateway.gateway c.args.machines.now c.args.clock.now.start.0 c.args.clock.now.period c.args.last.0 c.args.source.now c.args.destination.now
      c.requires.few c.requires.source c.requires.destination c.in_ok-gateway.ensures.machines c.in_ok-gateway.ensures.barrier),
)

pub work_on_source-requires-clause-address : goal.work_on_source-requires-clause-address
work_on_source-requires-clause-address c = ap (λ m. m.rx.a) c.loop-tick.invariant.1.machines ∙ c.args.machines.now.are.address

pub work_on_source-requires-clause-at : goal.work_on_source-requires-clause-at
work_on_source-requires-clause-at c = (c.args.machines.now.cells ∷ [], works_on_source c.loop-tick.gateway c.args.machines.now _ _ c.loop-tick.tick.0 c.args.last.0 c.loop-tick.source_coming c.loop-tick.destination_coming c.loop-tick.invariant.1)

pub work_on_destination-requires-clause-at : goal.work_on_destination-requires-clause-at
work_on_destination-requires-clause-at c = (
  c.args.machines.now.cells ∷ [],
  works_on_destination c.loop-tick.gateway c.work_on_source.new.gateway c.args.machines.now _ _ c.loop-tick.tick.0 c.args.last.0
      c.loop-tick.source_coming c.loop-tick.destination_coming c.work_on_source.new.coming c.loop-tick.invariant.1 (c.in_ok-work_on_source.ensures.works (c.args.machines.now.cells ∷ [])),
)

pub loop-tick-preserved : goal.loop-tick-preserved
loop-tick-preserved c =
    let on = goes_on c.loop-tick.gateway c.work_on_source.new.gateway c.work_on_destination.new.gateway c.args.machines.now _ _ c.is_live.result c.loop-tick.tick.0 c.args.last.0 c.next_tick-tick.result.0
    c.loop-tick.source_coming c.loop-tick.destination_coming c.work_on_source.new.coming c.work_on_destination.new.coming c.loop-tick.invariant.1
    (c.in_ok-work_on_source.ensures.works (c.args.machines.now.cells ∷ [])) (c.in_ok-work_on_destination.ensures.works (c.args.machines.now.cells ∷ [])) c.in_ok-work_on_source.ensures.machines c.in_ok-work_on_destination.ensures.machines
    c.is_live.ensures c.next_tick-tick.ensures in
    (on.0, on.1)

pub loop-tick-smaller : goal.loop-tick-smaller
loop-tick-smaller c =
    let on = goes_on c.loop-tick.gateway c.work_on_source.new.gateway c.work_on_destination.new.gateway c.args.machines.now _ _ c.is_live.result c.loop-tick.tick.0 c.args.last.0 c.next_tick-tick.result.0
    c.loop-tick.source_coming c.loop-tick.destination_coming c.work_on_source.new.coming c.work_on_destination.new.coming c.loop-tick.invariant.1
    (c.in_ok-work_on_source.ensures.works (c.args.machines.now.cells ∷ [])) (c.in_ok-work_on_destination.ensures.works (c.args.machines.now.cells ∷ [])) c.in_ok-work_on_source.ensures.machines c.in_ok-work_on_destination.ensures.machines
    c.is_live.ensures c.next_tick-tick.ensures in
    let later : c.loop-tick.tick.0 < c.next_tick-tick.result.0 = on.2 in
    omega arith

pub finish-requires-clause-at : goal.finish-requires-clause-at
finish-requires-clause-at c =
    ends c.loop-tick.gateway c.args.machines.now _ _ c.loop-tick.tick.0 c.args.last.0 c.loop-tick.source_coming c.loop-tick.destination_coming
    c.loop-tick.invariant.0 c.loop-tick-test.false c.loop-tick.invariant.1

pub returns : goal.returns
returns c =
    IfOk-weaker c.finish.result _ _ (λ told tell.
    tells c.loop-tick.gateway c.args.machines.now c.args.clock.now c.loop-tick.tick.0 c.args.last.0 c.args.source.now c.args.destination.now c.loop-tick.source_coming c.loop-tick.destination_coming told
    c.loop-tick.invariant.0 c.loop-tick-test.false c.loop-tick.invariant.1 tell) c.finish.ensures
