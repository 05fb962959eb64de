-- Row after row, the newest first.
use mathlib.Core.Path.{sym}
use native.Mathlib.Omega.{arith}
use Rattle.finder.proofs.BlockLaws.{left_here, left_lower, left_none}
use Rattle.finder.proofs.equal_row.Goals as goal

pub returns-then-rows-row : goal.returns-then-rows-row
returns-then-rows-row c = sym (left_here c.args.rows.now c.args.word c.loop-row.invariant (omega arith) c.if-rows-row.true)

pub loop-row-preserved : goal.loop-row-preserved
loop-row-preserved c = left_lower c.args.rows.now c.args.word c.loop-row.invariant (omega arith) c.if-rows-row.false

pub returns : goal.returns
returns c = sym (left_none c.args.rows.now c.args.word c.loop-row.invariant (omega arith))
