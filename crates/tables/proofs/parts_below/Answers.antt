-- Part after part.
use native.Mathlib.Omega.{arith}
use Rattle.tables.proofs.RuleLaws.{below_stop, below_more, below_end}
use Rattle.tables.proofs.parts_below.Goals as goal

pub returns-then-row-other : goal.returns-then-row-other
returns-then-row-other c = below_stop _ _ c.loop-slot.slot _ (omega arith) c.loop-slot.invariant c.part-other.ensures c.if-row-other.true

pub loop-slot-preserved : goal.loop-slot-preserved
loop-slot-preserved c = below_more _ _ c.loop-slot.slot _ (omega arith) c.loop-slot.invariant c.part-other.ensures c.if-row-other.false

pub returns : goal.returns
returns c = below_end _ _ c.loop-slot.slot (omega arith) c.loop-slot.invariant
