-- Key and body stand in the first two of the four parts.
use native.Mathlib.Omega.{arith}
use Rattle.terms.specs.Row.{row_of}
use Rattle.terms.proofs.row.encrypted_word.Goals as goal

pub returns : goal.returns
unfolding row_of
returns c = omega arith
