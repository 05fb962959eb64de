use native.Mathlib.Omega.{arith}
use Rattle.bundles.proofs.BundleLaws.{fields}
use Rattle.bundles.proofs.object_cells.Goals as goal

pub read_cells-requires : goal.read_cells-requires
read_cells-requires c = omega (arith, fields _ _ c.requires.0)

pub returns : goal.returns
returns c =
    rw ((fields _ _ c.requires.0).objects, ← c.kinds_at-from.ensures) c.read_cells.ensures
