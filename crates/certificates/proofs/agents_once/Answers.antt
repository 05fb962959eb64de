use mathlib.Core.Path.{sym}
use native.Mathlib.Omega.{arith}
use Rattle.stores.proofs.LoopLaws.{once_stop, once_next, once_end}
use Rattle.certificates.proofs.agents_once.Goals as goal

pub returns-then-not-stands_nowhere : goal.returns-then-not-stands_nowhere
returns-then-not-stands_nowhere c = sym (once_stop _ _ c.loop-i.invariant _ (omega arith) c.agent.ensures c.if-not-stands_nowhere.ensures)

pub loop-i-preserved : goal.loop-i-preserved
loop-i-preserved c = once_next _ _ c.loop-i.invariant _ (omega arith) c.agent.ensures c.if-not-stands_nowhere.ensures

pub returns : goal.returns
returns c = sym (once_end _ _ c.loop-i.invariant (omega arith))
