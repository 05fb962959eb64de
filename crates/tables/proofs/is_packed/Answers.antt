-- The word made of the fields by each shape.
use native.Mathlib.Omega.{arith}
use Rattle.terms.proofs.FieldLaws.{tag_below}
use Rattle.tables.proofs.RuleLaws.{packed-ways}
use Rattle.tables.proofs.is_packed.Goals as goal

pub atom_word-requires : goal.atom_word-requires
atom_word-requires c = omega (arith, tag_below c.args.word)

pub returns-in-7 : goal.returns-in-7
returns-in-7 c = search packed-ways

pub returns-in-8 : goal.returns-in-8
returns-in-8 c = search packed-ways

pub returns-in-9 : goal.returns-in-9
returns-in-9 c = search packed-ways

pub returns-in-10 : goal.returns-in-10
returns-in-10 c = search packed-ways

pub returns-in_default : goal.returns-in_default
returns-in_default c = search packed-ways
