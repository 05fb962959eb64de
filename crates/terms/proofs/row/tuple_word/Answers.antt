-- The word of a tuple, part by part.
use native.Mathlib.Omega.{arith}
use Rattle.terms.proofs.FieldLaws.{tuple_fields}
use Rattle.terms.proofs.row.tuple_word.Goals as goal

pub returns : goal.returns
returns c = rw tuple_fields (omega arith)
