-- Each call has one digit less to write.
use Rattle.candump_line.proofs.spell.+put_number.Given as goal

abbrev pub decreases-put_number : goal.decreases-put_number
decreases-put_number l = l.width
