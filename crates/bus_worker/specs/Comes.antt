-- Which frames come to a channel.
use Rattle.gw_law.specs.Plan.{Address}
use Rattle.bus_worker.specs.declared.comes.Comes.{Comes}

-- the same as the laws have it
abbrev pub address_of : Comes → Address
address_of comes = record { id = comes.id; byte = comes.byte }
