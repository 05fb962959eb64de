use native.Mathlib.Omega.{arith}
use lib.Dec.{leb}
use Rattle.word.proofs.ScanLaws.{each_gather, each_gathered}
use Rattle.stores.specs.Valid.{kinds_fit}
use Rattle.stores.proofs.cells.kinds_fit.Goals as goal

pub loop-kind-preserved : goal.loop-kind-preserved
loop-kind-preserved c = each_gather (λ kind. leb kind 10) _ _ c.args.kinds.now 0 _ c.loop-kind.invariant (omega arith)

pub returns : goal.returns
unfolding kinds_fit
returns c = each_gathered (λ kind. leb kind 10) _ _ c.args.kinds.now 0 _ c.loop-kind.invariant (omega arith)
