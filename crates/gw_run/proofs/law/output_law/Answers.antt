use Rattle.gw_run.proofs.Outputs.{output-log}
use Rattle.gw_run.proofs.law.output_law.Goals as goal

pub returns : goal.returns
returns c start period interface fd written name all = output-log start period interface fd name written all
