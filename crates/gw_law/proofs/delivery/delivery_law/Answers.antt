use Rattle.gw_law.proofs.deliveries.Deliveries.{delivery_law_of}
use Rattle.gw_law.proofs.deliveries.OtherFrames.{others-deliver}
use Rattle.gw_law.specs.Delivery.{delivery_of}
use Rattle.gw_law.proofs.delivery.delivery_law.Goals as goal

pub returns-clause-own : goal.returns-clause-own
returns-clause-own c = delivery_law_of

pub returns-clause-channel : goal.returns-clause-channel
returns-clause-channel c = λ rx turns tx moments v frames runs are. others-deliver (delivery_of rx turns tx moments) frames (delivery_law_of rx turns tx moments v runs) are
