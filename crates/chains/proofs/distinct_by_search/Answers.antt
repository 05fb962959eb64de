-- The invariant: none of the rows passed repeats an earlier one.
use mathlib.Core.Path.{refl}
use native.Mathlib.Omega.{arith}
use Rattle.chains.proofs.DistinctLaws.{distinct_stop, distinct_next, distinct_end}
use Rattle.chains.proofs.distinct_by_search.Goals as goal

pub loop-row-init : goal.loop-row-init
loop-row-init c = refl

pub returns-then-earlier_equal : goal.returns-then-earlier_equal
returns-then-earlier_equal c =
    let l = c.loop-row in
    distinct_stop c.args.rows.now c.args.used (omega arith) l.row l.invariant _ (omega arith) c.earlier_equal.ensures c.if-earlier_equal.true

pub loop-row-preserved : goal.loop-row-preserved
loop-row-preserved c =
    let l = c.loop-row in
    distinct_next c.args.rows.now c.args.used (omega arith) l.row l.invariant _ (omega arith) c.earlier_equal.ensures c.if-earlier_equal.false

pub returns : goal.returns
returns c =
    let l = c.loop-row in
    distinct_end c.args.rows.now c.args.used (omega arith) l.row l.invariant (omega arith)
