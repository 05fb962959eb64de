-- The tag stands above 44 zero bits and the number.
use native.Mathlib.Omega.{arith}
use Rattle.terms.specs.Row.{row_of}
use Rattle.terms.proofs.row.atom_word.Goals as goal

pub returns : goal.returns
unfolding row_of
returns c = omega arith
