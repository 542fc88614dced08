use Rattle.receiver_law.proofs.sessions.Sessions.{stored_in}
use Rattle.receiver_law.proofs.stored.stored_law.Goals as goal

pub returns : goal.returns
returns c = stored_in
