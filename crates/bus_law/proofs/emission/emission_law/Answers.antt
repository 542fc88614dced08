use Rattle.bus_law.proofs.Sending.{bus-sends}
use Rattle.bus_law.proofs.emission.emission_law.Goals as goal

pub returns : goal.returns
returns c = bus-sends
