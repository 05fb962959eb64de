use mathlib.Core.Path.{◌∙◌}
use native.Mathlib.Omega.{arith}
use Rattle.word.proofs.ScanLaws.{each_gather, each_gathered}
use Rattle.stores.specs.Valid.{cell_fits}
use Rattle.stores.proofs.cells.cells_fit.Goals as goal

pub loop-cell-preserved : goal.loop-cell-preserved
loop-cell-preserved c =
    each_gather (cell_fits c.args.used) _ _ c.args.cells.now 0 _ c.loop-cell.invariant (omega arith) ∙ rw c.cell_fits-fit.ensures

pub returns : goal.returns
returns c = each_gathered (cell_fits c.args.used) _ _ c.args.cells.now 0 _ c.loop-cell.invariant (omega arith)
