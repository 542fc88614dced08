use Rattle.sender_law.proofs.transfers.OtherFrames.{others-caused}
use Rattle.sender_law.proofs.causes.TransmissionCauses.{causes}
use Rattle.sender_law.proofs.transfers.TxBoxed.{boxed}
use Rattle.sender_law.specs.Runs.{leg_of, turns_in}
use Rattle.sender_law.proofs.transmission.transmission_law.Goals as goal

pub returns-clause-own : goal.returns-clause-own
returns-clause-own c = λ run budget is limits. causes run budget is limits

pub returns-clause-boxed : goal.returns-clause-boxed
returns-clause-boxed c = λ run is. boxed run.set (turns_in run) is.shape is.happened

pub returns-clause-channel : goal.returns-clause-channel
returns-clause-channel c = λ run budget out is limits are. others-caused run.full (leg_of budget run) out (causes run budget is limits) are
