-- `machine::tuples::spread` meets its contract: after i turns the first i parts are written.
use Rattle.machine.proofs.TupleLaws.{spread_none, spread_more}
use Rattle.machine.proofs.tuples.spread.Goals as goal

pub loop-i-init : goal.loop-i-init
loop-i-init c = spread_none _ _ _

pub loop-i-preserved : goal.loop-i-preserved
loop-i-preserved c = spread_more _ _ _ _ _ _ c.loop-i.invariant c.part.ensures
