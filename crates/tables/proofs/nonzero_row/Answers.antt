-- The rows passed leave the same answer.
use mathlib.Core.Path.{sym}
use native.Mathlib.Omega.{arith}
use Rattle.finder.proofs.BlockLaws.{nonzero_here, nonzero_next, nonzero_none}
use Rattle.tables.proofs.nonzero_row.Goals as goal

pub returns-then-rows-row-ne0 : goal.returns-then-rows-row-ne0
returns-then-rows-row-ne0 c = sym (nonzero_here _ _ c.loop-row.invariant (omega arith) c.if-rows-row-ne0.true)

pub loop-row-preserved : goal.loop-row-preserved
loop-row-preserved c = nonzero_next _ _ c.loop-row.invariant (omega arith) c.if-rows-row-ne0.false

pub returns : goal.returns
returns c = sym (nonzero_none _ _ c.loop-row.invariant (omega arith))
