-- What a run tells keeps the laws.
use Rattle.std.proofs.Common.{◌≡◌, ℕ, ◌+◌, ◌≤◌, Bool, List, ◌∷◌, ◌∙◌, subst, ap, arith}
use Rattle.tp_unit.specs.Box.{Written}
use Rattle.std.specs.Prelude.{All}
use Rattle.std.specs.List.{AllByRecursion}
use Rattle.std.proofs.lemmas.List.Elements.{All-from_recursion, All-weaker}
use Rattle.gw_law.proofs.Laws.{laws}
use Rattle.gw_law.specs.Lawful.{Lawful}
use Rattle.gw_run.specs.Works.{RunTold, moments_of, turns_of, view_of}
use Rattle.gw_run.proofs.works.Runs.{Played, account, is-run, run_of}
use Rattle.gw_run.proofs.works.SerialRun.{works_of}
use Rattle.gw_run.proofs.works.Windows.{deeds_of, windows_of}
use Rattle.tick_clock.specs.declared.clock.Clock.{Clock}
use Rattle.candump_log.specs.declared.log.Stamped.{Stamped}
use Rattle.gw_run.specs.declared.machines.Machines.{Machines}
use Rattle.gw_run.specs.Forwarded.{Tells, last_of}
use Rattle.gw_run.specs.Machines.{AreMachines}
use Rattle.gw_run.specs.Played.{Plays, Told, account_of}
use Rattle.gw_run.proofs.Outputs.{FitsBus, controls-fits, frames-fits}
use Rattle.gw_run.specs.Output.{IsOnBus}
use Rattle.gw_run.specs.Setup.{AreMachinesOf, Setup}

-- what a run tells keeps the laws
pub lawful_of : (m : Machines) (clock : Clock) (last : ℕ) (source destination : List Stamped) (told : Told) → AreMachines m.rx m.shape m.tx m.source →
    Plays m clock last source destination told → Lawful (account_of m clock.start.0 clock.period last source destination told)
lawful_of m clock last source destination told are plays =
    let p : Played = record { m = m; clock = clock; last = last; source = source; destination = destination; told = told; are = are; plays = plays } in
    laws (account p) (deeds_of (run_of p)) (windows_of plays.ticks) (view_of (works_of (run_of p))) (is-run p)

-- and what was sent left within the run's ticks
pub controls-within : (m : Machines) (start period last : ℕ) (source destination : List Stamped) (told : Told) → last + 1 ≤ 10_000_000 → Lawful (account_of m start period last source destination told) →
    All (λ (sent : Written). sent.tick ≤ 10_000_000) told.controls
controls-within m start period last source destination told less lawful =
    All-weaker (λ (sent : Written). sent.tick ≤ last) (λ (sent : Written). sent.tick ≤ 10_000_000) (λ sent le. omega (arith, le, less)) told.controls
    (All-from_recursion (λ (sent : Written). sent.tick ≤ last) told.controls (lawful.buses 0).end)

pub frames-within : (m : Machines) (start period last : ℕ) (source destination : List Stamped) (told : Told) → last + 1 ≤ 10_000_000 → Lawful (account_of m start period last source destination told) →
    All (λ (sent : Written). sent.tick ≤ 10_000_000) told.frames
frames-within m start period last source destination told less lawful =
    All-weaker (λ (sent : Written). sent.tick ≤ last) (λ (sent : Written). sent.tick ≤ 10_000_000) (λ sent le. omega (arith, le, less)) told.frames
    (All-from_recursion (λ (sent : Written). sent.tick ≤ last) told.frames (lawful.buses 1).end)

pub tells_of : (setup : Setup) (m : Machines) (clock : Clock) (last : ℕ) (source destination : List Stamped) (told : Told) → AreMachinesOf setup m → clock.period ≡ setup.period →
    last ≡ last_of setup clock.start.0 source destination → Lawful (account_of m clock.start.0 clock.period last source destination told) → Plays m clock last source destination told → Tells setup source destination clock.start.0 told
tells_of setup m clock last source destination told are period last_is lawful plays = record {
  machines = m;
  are = are;
  lawful = subst (λ n. Lawful (account_of m clock.start.0 setup.period n source destination told)) last_is (subst (λ n. Lawful (account_of m clock.start.0 n last source destination told)) period lawful);
  start_is = ap (λ (c : Clock). c.start.0) plays.clock_is;
  period_is = ap (λ (c : Clock). c.period) plays.clock_is ∙ period;
  buffers = plays.buffers;
}

-- and all that was sent is of its bus
pub told-controls : (fd : Bool) (m : Machines) (clock : Clock) (last : ℕ) (source destination : List Stamped) (told : Told) → FitsBus fd m.shape → Plays m clock last source destination told →
    AllByRecursion (IsOnBus fd) told.controls
told-controls fd m clock last source destination told fits plays =
    subst (AllByRecursion (IsOnBus fd)) (ap (λ (r : RunTold). r.controls) plays.tells) (controls-fits fd m.shape (turns_of (plays.end ∷ plays.ticks)) fits)

pub told-frames : (fd : Bool) (m : Machines) (clock : Clock) (last : ℕ) (source destination : List Stamped) (told : Told) → FitsBus fd m.tx.shape → Plays m clock last source destination told →
    AllByRecursion (IsOnBus fd) told.frames
told-frames fd m clock last source destination told fits plays =
    subst (AllByRecursion (IsOnBus fd)) (ap (λ (r : RunTold). r.frames) plays.tells) (frames-fits fd m.tx.shape (moments_of (plays.end ∷ plays.ticks)) fits)
