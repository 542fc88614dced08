use Rattle.config_text.proofs.PrintLemmas.{hex-utf8}
use Rattle.config_text.proofs.values.hex.Goals as goal

pub text-requires : goal.text-requires
text-requires c = rw (c.items.ensures, c.in_ok-push_hex.ensures, c.new-digits_text.ensures) (hex-utf8 c.args.digits c.args.number)
