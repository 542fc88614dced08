use Rattle.hub_core.proofs.HubGroups.{first-there}
use Rattle.gw_run.proofs.gateway.Gateway.is_live.Goals as goal

pub word-requires : goal.word-requires
word-requires c = first-there c.args.self.now.hub
