use Rattle.std.proofs.Common.{◌∙◌}
use Rattle.route_table.proofs.MatchLemmas.{channel_found}
use Rattle.route_table.proofs.table.Table.channel_of.Goals as goal

pub returns : goal.returns
returns c = λ channels paths is.
    rw c.channel_among.ensures (channel_found c.args.bus c.args.id c.args.first channels c.on.result.now is.apart (c.on.ensures ∙ is.by_bus c.args.bus.0))
