use native.Mathlib.Omega.{arith}
use Rattle.stores.proofs.LoopLaws.{certified_here, certified_next, certified_end}
use Rattle.certificates.proofs.certified.Goals as goal

pub returns-then-eq : goal.returns-then-eq
returns-then-eq c =
    rw (certified_here c.args.certificates.now c.args.agent.0 _ c.loop-word.invariant _ (omega arith) c.agent.ensures c.if-eq.ensures, ← c.key.ensures)

pub loop-word-preserved : goal.loop-word-preserved
loop-word-preserved c = certified_next c.args.certificates.now c.args.agent.0 _ c.loop-word.invariant _ (omega arith) c.agent.ensures c.if-eq.ensures

pub returns : goal.returns
returns c = rw (certified_end c.args.certificates.now c.args.agent.0 _ c.loop-word.invariant (omega arith))
