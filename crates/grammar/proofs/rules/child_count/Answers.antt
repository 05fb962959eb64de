use native.Mathlib.Omega.{arith}
use Rattle.patterns.proofs.RowLaws.{children_count}
use Rattle.grammar.proofs.rules.child_count.Goals as goal

pub returns : goal.returns
returns c = omega (arith, c.count.ensures, children_count c.args.word)
