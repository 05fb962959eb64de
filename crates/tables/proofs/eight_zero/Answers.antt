-- Each row of the block is looked at.
use native.Mathlib.Omega.{arith}
use lib.Dec.{eqb}
use Rattle.word.proofs.ScanLaws.{each_gather, each_gathered}
use Rattle.tables.proofs.eight_zero.Goals as goal

pub loop-row-preserved : goal.loop-row-preserved
loop-row-preserved c = each_gather (λ word. eqb word 0) _ _ c.args.block.now 0 _ c.loop-row.invariant (omega arith)

pub returns : goal.returns
returns c = each_gathered (λ word. eqb word 0) _ _ c.args.block.now 0 _ c.loop-row.invariant (omega arith)
