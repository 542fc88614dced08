use Rattle.sender_law.proofs.records.DestRecords.{dest_records}
use Rattle.sender_law.proofs.Emission.{emission}
use Rattle.sender_law.proofs.frames.emission_law.Goals as goal

pub returns-clause-frames : goal.returns-clause-frames
returns-clause-frames c = emission

pub returns-clause-records : goal.returns-clause-records
returns-clause-records c = dest_records
