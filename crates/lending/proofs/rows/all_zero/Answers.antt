use native.Mathlib.Omega.{arith}
use lib.Dec.{eqb}
use Rattle.word.proofs.ScanLaws.{each_gather, each_gathered}
use Rattle.lending.proofs.rows.all_zero.Goals as goal

pub loop-byte-preserved : goal.loop-byte-preserved
loop-byte-preserved c = each_gather (λ byte. eqb byte 0) _ c.loop-byte.zero c.args.bytes.now 0 c.loop-byte.byte-index c.loop-byte.invariant (omega arith)

pub returns : goal.returns
returns c = each_gathered (λ byte. eqb byte 0) _ c.loop-byte.zero c.args.bytes.now 0 c.loop-byte.byte-index c.loop-byte.invariant (omega arith)
