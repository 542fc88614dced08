use Rattle.std.proofs.Common.{◌++◌, List, ℕ, append-nil, append_assoc, sym, ap, ◌∙◌, arith}
use Rattle.candump_line.proofs.Digits.{bytes-small, encode_upper-none, encode_upper-more}
use Rattle.candump_line.proofs.spell.put_bytes.Goals as goal

pub loop-byte-init : goal.loop-byte-init
loop-byte-init c = (rw encode_upper-none (sym (append-nil c.args.text.now.items)), omega arith)

pub loop-byte-preserved : goal.loop-byte-preserved
loop-byte-preserved c = (
  c.put_digit-in-loop-byte.ensures.text
      ∙ rw (c.put_digit.ensures.text, c.loop-byte.invariant.0, append_assoc, append_assoc)
      (ap (λ (digits : List ℕ). c.args.text.now.items ++ digits) (sym (encode_upper-more c.args.bytes.now c.loop-byte.byte-index c.loop-byte-test.true))),
  omega arith,
)

pub returns-clause-small : goal.returns-clause-small
returns-clause-small c = bytes-small c.args.bytes.now (λ i. omega (arith, c.type_inv.bytes i))
