use Rattle.receiver_law.proofs.records.SourceLaws.{source_law_of, stored_law_of}
use Rattle.receiver_law.proofs.runs.RxLaws.{source_law_of_run}
use Rattle.receiver_law.proofs.source.source_law.Goals as goal

pub returns-clause-law : goal.returns-clause-law
returns-clause-law c = source_law_of

pub returns-clause-stored : goal.returns-clause-stored
returns-clause-stored c = stored_law_of

pub returns-clause-run : goal.returns-clause-run
returns-clause-run c = source_law_of_run
