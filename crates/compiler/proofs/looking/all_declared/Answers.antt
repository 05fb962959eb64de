-- What is gathered so far and what is left give the answer.
use mathlib.Core.Path.{◌∙◌}
use native.Mathlib.Omega.{arith}
use Rattle.knowing.specs.Known.{known}
use Rattle.compiler.proofs.LookLaws.{unknown_gather, unknown_gathered}
use Rattle.compiler.proofs.looking.all_declared.Goals as goal

pub loop-v-preserved : goal.loop-v-preserved
loop-v-preserved c =
    unknown_gather c.args.kinds.now (known c.args.objects) _ _ c.loop-v.invariant (omega arith) ∙ rw c.is_known.ensures

pub returns : goal.returns
returns c = unknown_gathered c.args.kinds.now (known c.args.objects) _ _ c.loop-v.invariant (omega arith)
