use native.Mathlib.Omega.{arith}
use Rattle.stores.specs.Cells.{unset}
use Rattle.bundles.specs.Opening.{bundle_in}
use Rattle.bundles.proofs.BundleLaws.{fields}
use Rattle.bundles.proofs.FillLaws.{rest_filled}
use Rattle.bundles.proofs.message_cells.Goals as goal

pub read_cells-requires : goal.read_cells-requires
read_cells-requires c = omega (arith, fields _ _ c.requires.0)

pub returns : goal.returns
returns c =
    let named = (fields _ _ c.requires.0).named in
    rest_filled unset 64 (bundle_in c.args.bytes.now).named c.args.cells.now {middle = c.read_cells.new.cells} (omega arith)
    (rw (named, ← c.kinds_at-from.ensures) c.read_cells.ensures) c.read_cells.auto.cells (c.fill.ensures.after (λ y e. e))
