-- Up to the cell the set ones are known.
use native.Mathlib.Omega.{arith}
use Rattle.knowing.proofs.CellLaws.{known_none, known_room, known_more, known_all}
use Rattle.knowing.proofs.cells.set_cells.Goals as goal

pub loop-cell-preserved : goal.loop-cell-preserved
loop-cell-preserved c = known_more c.loop-cell.invariant (omega arith) c.with_cell-mask.ensures

pub returns : goal.returns
returns c = known_all c.loop-cell.invariant (omega arith) c.requires
