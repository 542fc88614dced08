-- The law is a lemma on lists.
use Rattle.tp_attempts.proofs.Segments.{attempts_of-segments}
use Rattle.tp_attempts.proofs.laws.segments_are_one_attempt.Goals as goal

pub returns : goal.returns
returns c = attempts_of-segments
