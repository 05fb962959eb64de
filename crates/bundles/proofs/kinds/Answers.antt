use native.Mathlib.Omega.{arith}
use Rattle.bundles.proofs.BundleLaws.{fields}
use Rattle.bundles.proofs.kinds.Goals as goal

pub read_kinds-requires : goal.read_kinds-requires
read_kinds-requires c = omega (arith, fields _ _ c.requires.0)

pub returns : goal.returns
returns c =
    rw ((fields _ _ c.requires.0).kinds, ← c.kinds_at-from.ensures) c.read_kinds.ensures
