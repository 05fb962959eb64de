-- The body stands in the first of the four parts.
use native.Mathlib.Omega.{arith}
use Rattle.terms.specs.Row.{row_of}
use Rattle.terms.proofs.row.hashed_word.Goals as goal

pub returns : goal.returns
unfolding row_of
returns c = omega arith
