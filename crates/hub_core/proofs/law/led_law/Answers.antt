use Rattle.hub_core.proofs.Led.{led}
use Rattle.hub_core.proofs.law.led_law.Goals as goal

pub returns : goal.returns
returns c = led
