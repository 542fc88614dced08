use Rattle.gw_config.proofs.HexLemmas.{ReadDigits}
use Rattle.gw_config.proofs.words.hex_value.Given as goal

abbrev pub invariant-loop-digit : goal.invariant-loop-digit
invariant-loop-digit l = ReadDigits l.digits l.digit-index l.value
