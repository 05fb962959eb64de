use native.Mathlib.Omega.{arith}
use lib.Dec.{ltb}
use Rattle.patterns.proofs.SlotLaws.{front_more, front_all}
use Rattle.grammar.proofs.rules.all_below.Goals as goal

pub loop-slot-preserved : goal.loop-slot-preserved
loop-slot-preserved c = front_more (λ child. ltb child c.args.place) c.args.count c.args.slots _ _ c.loop-slot.invariant (omega arith)

pub returns : goal.returns
returns c = front_all (λ child. ltb child c.args.place) c.args.count c.args.slots _ _ c.loop-slot.invariant (omega arith)
