use Rattle.std.proofs.Common.{refl}
use Rattle.hub_core.proofs.HubGroups.{first-there}
use Rattle.gw_run.proofs.gateway.Gateway.told.Goals as goal

pub word-word-requires : goal.word-word-requires
word-word-requires c = first-there c.args.self.hub

pub returns : goal.returns
returns c = record {
  controls = refl;
  frames = refl;
  sessions = refl;
  dests = refl;
  moves = refl;
  clock_is = refl;
  buffers = refl;
  joint = c.word-word.ensures.joint;
  word = c.word-word.ensures.word;
  in_order = c.word-word.ensures.in_order;
}
