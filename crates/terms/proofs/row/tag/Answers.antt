-- What stands above the other fields is below 16 by itself.
use native.Mathlib.Omega.{arith}
use Rattle.terms.specs.Row.{tag_of}
use Rattle.terms.proofs.row.tag.Goals as goal

pub returns : goal.returns
unfolding tag_of
returns c = omega arith
