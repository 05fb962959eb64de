-- Up to the cell the set ones are known.
use Rattle.knowing.proofs.CellLaws.{KnownBelow}
use Rattle.knowing.proofs.cells.set_cells.Given as goal

abbrev pub invariant-loop-cell : goal.invariant-loop-cell
invariant-loop-cell l = KnownBelow l.cells l.mask l.cell-index
