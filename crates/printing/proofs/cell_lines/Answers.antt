use native.Mathlib.Omega.{arith}
use lib.ListN.{length-take}
use Rattle.printing.proofs.NumberedLaws.{no_line, one_line}
use Rattle.printing.proofs.LineLaws.{cells_numbered, cells_end}
use Rattle.printing.proofs.cell_lines.Goals as goal

pub loop-number-init : goal.loop-number-init
loop-number-init c = no_line (cells_numbered c.args.word.now) c.args.cells.now _ _

pub cell_line-next-requires : goal.cell_line-next-requires
cell_line-next-requires c = omega (arith, cells_end _ _ c.loop-number.invariant (omega arith), length-take c.loop-number.number c.args.cells.now)

pub loop-number-preserved : goal.loop-number-preserved
loop-number-preserved c =
    one_line (cells_numbered c.args.word.now) c.args.cells.now c.loop-number.number (omega arith) c.loop-number.invariant c.cell_line-next.ensures
