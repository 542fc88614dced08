use Rattle.receiver_law.proofs.runs.RxLaws.{reception_law_of}
use Rattle.receiver_law.proofs.reception.reception_law.Goals as goal

pub returns : goal.returns
returns c = reception_law_of
