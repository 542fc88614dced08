-- The digits end the field, and what stands before them is zeros.
use Rattle.std.proofs.Common.{◌≡◌, ◌-◌, take, drop, length-drop, ◌∙◌, append-nil, arith}
use Rattle.std.specs.Prelude.{decimal}
use Rattle.gw_base.specs.Decimal.{padded_decimal}
use Rattle.std.proofs.lemmas.Fmt.{length-decimal-le}
use Rattle.gw_base.proofs.Padding.{drop-field, take-whole}
use Rattle.gw_base.proofs.digits.decimal.Goals as goal

pub write_digits-start-requires : goal.write_digits-start-requires
write_digits-start-requires c = (length-decimal-le 20 c.args.value (omega arith) (omega arith) (omega arith), omega arith)

pub returns : goal.returns
returns c =
    let after : drop c.write_digits-start.result c.write_digits-start.new.buf ≡ decimal c.args.value =
    c.write_digits-start.ensures.written ∙ append-nil (decimal c.args.value) in
    let whole : drop c.min-first.result c.write_digits-start.new.buf ≡ padded_decimal c.args.width c.args.value =
    rw c.min-first.ensures (drop-field c.write_digits-start.new.buf (decimal c.args.value) c.write_digits-start.result c.args.width 20 c.requires c.write_digits-start.ensures.start c.write_digits-start.ensures.before after) in
    let items : c.in-Ok.text.items ≡ take (20 - c.min-first.result) (drop c.min-first.result c.write_digits-start.new.buf) = c.in-Ok.ensures.0 in
    items ∙ take-whole (20 - c.min-first.result) (drop c.min-first.result c.write_digits-start.new.buf) (rw length-drop (omega arith)) ∙ whole
