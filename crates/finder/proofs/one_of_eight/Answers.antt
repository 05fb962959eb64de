-- Each row of the block is compared.
use native.Mathlib.Omega.{arith}
use Rattle.finder.proofs.BlockLaws.{one_gather, one_gathered}
use Rattle.finder.proofs.one_of_eight.Goals as goal

pub loop-row-preserved : goal.loop-row-preserved
loop-row-preserved c = one_gather _ c.args.block.now c.args.word _ c.loop-row.invariant (omega arith)

pub returns : goal.returns
returns c = one_gathered _ c.args.block.now c.args.word _ c.loop-row.invariant (omega arith)
