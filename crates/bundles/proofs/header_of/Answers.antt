use mathlib.Core.Path.{refl}
use Rattle.bundles.specs.Bundle.{header_of}
use Rattle.bundles.proofs.header_of.Goals as goal

pub returns : goal.returns
unfolding header_of
returns c = refl
