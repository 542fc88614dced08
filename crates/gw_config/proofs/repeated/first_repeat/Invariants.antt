use Rattle.std.proofs.Common.{◌≡◌, [], take, drop}
use Rattle.gw_config.specs.Repeated.{first_repeat}
use Rattle.gw_config.proofs.repeated.first_repeat.Given as goal

abbrev pub invariant-loop-index : goal.invariant-loop-index
invariant-loop-index g l =
    first_repeat (g.E.Distinct.repeats l.entries) l.table 0 [] l.entries ≡ first_repeat (g.E.Distinct.repeats l.entries) l.table l.index (take l.index l.entries) (drop l.index l.entries)
