use native.Mathlib.Omega.{arith}
use Rattle.bundles.proofs.BundleLaws.{fields}
use Rattle.bundles.proofs.certificates.Goals as goal

pub read_words-requires : goal.read_words-requires
read_words-requires c = omega (arith, fields _ _ c.requires.0)

pub returns : goal.returns
returns c =
    rw ((fields _ _ c.requires.0).certificates, ← c.kinds_at-from.ensures) c.read_words.ensures
