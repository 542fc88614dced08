-- The law, as its lemmas say it.
use Rattle.candump_log.proofs.Fronts.{gives_front, stays_given, stops_at_none}
use Rattle.candump_log.proofs.law.pieces_law.Goals as goal

pub returns-clause-front : goal.returns-clause-front
returns-clause-front c = gives_front

pub returns-clause-through : goal.returns-clause-through
returns-clause-through c = stops_at_none

pub returns-clause-stays : goal.returns-clause-stays
returns-clause-stays c = stays_given
