use native.Mathlib.Omega.{arith}
use lib.Dec.{eqb}
use Rattle.patterns.proofs.SlotLaws.{back_more, back_all}
use Rattle.grammar.proofs.rules.rest_zero.Goals as goal

pub loop-slot-preserved : goal.loop-slot-preserved
loop-slot-preserved c = back_more (eqb 0) c.args.count c.args.slots _ _ c.loop-slot.invariant (omega arith)

pub returns : goal.returns
returns c = back_all (eqb 0) c.args.count c.args.slots _ _ c.loop-slot.invariant (omega arith)
