use Rattle.gw_law.proofs.deliveries.EachSession.{each_session_of}
use Rattle.gw_law.proofs.each.each_session_law.Goals as goal

pub returns : goal.returns
returns c = each_session_of
