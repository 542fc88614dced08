-- What a run is going to leave behind, by the frames of both logs.
use Rattle.std.specs.Prelude.{◌≡◌, ℕ, List, All}
use Rattle.session_report.specs.Lines.{report_text}
use Rattle.candump_log.specs.declared.log.Stamped.{Stamped}
use Rattle.gw_run.specs.declared.plan.Plan.{Plan}
use Rattle.gw_run.specs.Forwarded.{Counts, HasLawfulTicks, Tells}
use Rattle.gw_run.specs.Output.{IsLogWhereDated, IsOneLine, output_text}
use Rattle.gw_run.specs.Played.{Told}
use Rattle.gw_run.specs.Setup.{Setup}

-- the outputs, the report and the summary are those of what was sent and is told
pub record Prints (start : ℕ) (setup : Setup) (told : Told) (plan : Plan) : Type 0 where
  pub source_output : plan.source_output ≡ output_text start setup.period setup.source.interface told.controls
  pub output : plan.output ≡ output_text start setup.period setup.destination.interface told.frames
  pub source_lines : All (IsOneLine start setup.period setup.source.interface) told.controls
  pub lines : All (IsOneLine start setup.period setup.destination.interface) told.frames
  pub report : plan.report ≡ report_text told.report
  pub counted : Counts told.report plan.summary

-- and so of what a run over the frames has sent and tells
pub record IsPlan (setup : Setup) (source destination : List Stamped) (plan : Plan) : Type 0 where
  pub start : ℕ
  pub ticks : HasLawfulTicks setup source destination start
  pub told : Told
  pub tells : Tells setup source destination start told
  pub prints : Prints start setup told plan
  pub source_log : IsLogWhereDated start setup.period setup.source.interface setup.source.fd told.controls
  pub log : IsLogWhereDated start setup.period setup.destination.interface setup.destination.fd told.frames
