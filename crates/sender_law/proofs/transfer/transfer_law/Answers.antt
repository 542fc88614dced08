use Rattle.sender_law.specs.Runs.{turns_in}
use Rattle.sender_law.proofs.transfers.OtherFrames.{others-pass}
use Rattle.sender_law.proofs.transfers.TxLaw.{law}
use Rattle.sender_law.proofs.transfers.TxSources.{sources}
use Rattle.sender_law.proofs.transfers.TxStarts.{starts}
use Rattle.sender_law.specs.Transfer.{transfer_of}
use Rattle.sender_law.proofs.transfer.transfer_law.Goals as goal

pub returns-clause-run : goal.returns-clause-run
returns-clause-run c = λ run is. law run.set (turns_in run) is.shape is.happened

pub returns-clause-starts : goal.returns-clause-starts
returns-clause-starts c = λ run is. starts run.set (turns_in run) is.happened

pub returns-clause-sources : goal.returns-clause-sources
returns-clause-sources c = λ run is. sources run.set (turns_in run) is.happened

pub returns-clause-own : goal.returns-clause-own
returns-clause-own c = law

pub returns-clause-channel : goal.returns-clause-channel
returns-clause-channel c = λ set turns frames sound happened are. others-pass (transfer_of set turns) frames (law set turns sound happened) are
