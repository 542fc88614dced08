use Rattle.std.proofs.Common.{◌≡◌, drop, option_map}
use Rattle.gw_run.specs.Config.{first_named}
use Rattle.gw_run.proofs.config.first_named.Given as goal

abbrev pub invariant-loop-index : goal.invariant-loop-index
invariant-loop-index l =
    first_named l.files.config.now (option_map (λ r. r.now) l.files.report) 0 l.buses ≡ first_named l.files.config.now (option_map (λ r. r.now) l.files.report) l.index (drop l.index l.buses)
