use mathlib.Core.Path.{◌∙◌}
use native.Mathlib.Omega.{arith}
use Rattle.bundles.proofs.CellLaws.{cells_read}
use Rattle.bundles.proofs.read_cells.Goals as goal

pub returns : goal.returns
returns c =
    let args = c.args in
    c.unpack_pairs.ensures
    ∙ cells_read args.bytes.now args.from 16 (omega arith) (λ place. (c.type_inv.bytes place).fits) args.cells.now
