-- No digit is left after the pairs, or there is no room for them.
use Rattle.std.proofs.Common.{◌≤◌, ◌≡◌, ◌%◌, Err, ap, ◌∙◌, sym, arith}
use Rattle.std.specs.List.{prefix_len}
use Rattle.candump_line.specs.Reading.{is_hex}
use Rattle.candump_line.proofs.Room.{data_held, data_over}
use Rattle.candump_line.proofs.data.read_data.Goals as goal

pub returns-then-not-begins_with_hex-clause-read : goal.returns-then-not-begins_with_hex-clause-read
returns-then-not-begins_with_hex-clause-read g c =
    let taken = c.take_pairs-count.ensures in
    data_held _ _ _ _ g.row.N _ taken.digits taken.bytes taken.rest taken.most c.requires.room taken.size c.if-not-begins_with_hex.ensures

pub returns-clause-read : goal.returns-clause-read
returns-clause-read g c =
    let taken = c.take_pairs-count.ensures in
    let left = c.take_pairs-count.result.1.now in
    let pairs : prefix_len is_hex left % 2 ≡ 0 = omega (arith, c.count_hex-digits.ensures.count, c.if-digits-eq1.false) in
    let two : 2 ≤ prefix_len is_hex left = omega (arith, pairs, c.if-not-begins_with_hex.ensures) in
    data_over _ _ _ left g.row.N _ taken.digits taken.bytes (taken.full two) taken.size (omega (arith, c.count_hex-digits.ensures.count, c.count_hex-digits.ensures.fits)) two pairs
    ∙ ap Err (sym c.fault_at-2.ensures)
