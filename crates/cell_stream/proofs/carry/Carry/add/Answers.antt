use Rattle.std.proofs.Common.{◌≡◌, ◌++◌, arith, rules, ap, length, length-append}
use Rattle.gw_base.specs.Cell.{cell_bytes}
use Rattle.gw_base.proofs.Cells.{length-cell_bytes}
use Rattle.cell_stream.proofs.carry.Carry.add.Goals as goal

pub returns-clause-len : goal.returns-clause-len
unfolding cell_bytes
returns-clause-len c =
    let added : c.try_extend_from_slice.new.self.items ≡ c.args.self.now ++ cell_bytes c.args.cell = search rules in
    omega (arith, ap length added, length-append c.args.self.now (cell_bytes c.args.cell), length-cell_bytes c.args.cell c.requires.cell)
