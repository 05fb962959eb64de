use mathlib.Core.Path.{◌≡◌}
use mathlib.Core.Bool.{◌&&◌}
use lib.ListN.{drop}
use Rattle.word.specs.Lowest.{each}
use Rattle.stores.specs.Valid.{cell_fits}
use Rattle.stores.proofs.cells.cells_fit.Given as goal

abbrev pub invariant-loop-cell : goal.invariant-loop-cell
invariant-loop-cell l = each (cell_fits l.used) l.cells ≡ (l.fit && each (cell_fits l.used) (drop l.cell-index l.cells))
