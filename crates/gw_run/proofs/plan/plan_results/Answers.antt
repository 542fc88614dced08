-- What the machines tell keeps the laws, and is what is printed.
use Rattle.std.proofs.Common.{◌≡◌, ◌+◌, refl}
use Rattle.gw_run.specs.Forwarded.{last_of}
use Rattle.gw_run.proofs.Outputs.{written-log}
use Rattle.gw_run.proofs.Telling.{controls-within, frames-within, lawful_of, tells_of, told-controls, told-frames}
use Rattle.gw_run.proofs.plan.plan_results.Goals as goal

pub print_all-requires-clause-controls : goal.print_all-requires-clause-controls
print_all-requires-clause-controls c =
    controls-within c.machines-machines.result c.start_of.result.0 c.period.result (c.max.result + c.from.result) c.args.source.now c.args.destination.now c.in-Ok.played c.if-last-gt-MOST_TICKS.false
    (lawful_of c.machines-machines.result _ (c.max.result + c.from.result) c.args.source.now c.args.destination.now c.in-Ok.played c.machines-machines.result.are c.in-Ok.ensures)

pub print_all-requires-clause-frames : goal.print_all-requires-clause-frames
print_all-requires-clause-frames c =
    frames-within c.machines-machines.result c.start_of.result.0 c.period.result (c.max.result + c.from.result) c.args.source.now c.args.destination.now c.in-Ok.played c.if-last-gt-MOST_TICKS.false
    (lawful_of c.machines-machines.result _ (c.max.result + c.from.result) c.args.source.now c.args.destination.now c.in-Ok.played c.machines-machines.result.are c.in-Ok.ensures)

pub returns-clause-planned : goal.returns-clause-planned
returns-clause-planned c =
    let last_is : c.max.result + c.from.result ≡ last_of c.args.setup.now c.start_of.result.0 c.args.source.now c.args.destination.now =
    rw (c.max.ensures, c.greatest_tick.ensures.tick, c.greatest_tick-2.ensures.tick, c.period.ensures.period, c.from.ensures, c.linger.ensures.linger) refl in
    record {
      start = c.start_of.result.0;
      ticks = record { begins = c.start_of.ensures.start; in_time = rw (← last_is) c.if-last-gt-MOST_TICKS.false };
      told = c.in-Ok.played;
      tells = tells_of c.args.setup.now c.machines-machines.result _ (c.max.result + c.from.result) c.args.source.now c.args.destination.now c.in-Ok.played c.machines-machines.ensures.are c.period.ensures.period last_is
          (lawful_of c.machines-machines.result _ (c.max.result + c.from.result) c.args.source.now c.args.destination.now c.in-Ok.played c.machines-machines.result.are c.in-Ok.ensures)
          c.in-Ok.ensures;
      prints = c.in-Ok-print_all.ensures;
      source_log = written-log c.start_of.result.0 c.args.setup.now.period c.args.setup.now.source.interface c.args.setup.now.source.fd c.in-Ok.played.controls c.in-Ok-print_all.ensures.source_lines
          (told-controls _ c.machines-machines.result _ _ c.args.source.now c.args.destination.now c.in-Ok.played (rw c.machines-machines.ensures.are.shape c.machines-machines.ensures.source) c.in-Ok.ensures);
      log = written-log c.start_of.result.0 c.args.setup.now.period c.args.setup.now.destination.interface c.args.setup.now.destination.fd c.in-Ok.played.frames c.in-Ok-print_all.ensures.lines
          (told-frames _ c.machines-machines.result _ _ c.args.source.now c.args.destination.now c.in-Ok.played (rw c.machines-machines.ensures.are.tx c.machines-machines.ensures.destination) c.in-Ok.ensures);
    }
