-- The invariant: the earlier rows that equal the word lie at the row come to or before it.
use native.Mathlib.Omega.{arith}
use Rattle.chains.proofs.DistinctLaws.{earlier_none, earlier_some}
use Rattle.chains.proofs.ChainLaws.{ahead_first, ahead_next, ahead_end}
use Rattle.chains.proofs.on_chain.Goals as goal

pub loop-at-init : goal.loop-at-init
loop-at-init c =
    let a = c.args in
    (omega arith, ahead_first a.rows.now a.older.now a.row a.word a.newest c.requires.newest.0)

pub returns-then-rows-at : goal.returns-then-rows-at
returns-then-rows-at c =
    let l = c.loop-at in
    earlier_some c.args.rows.now c.args.row c.args.word (omega arith) λ absent. absent l.at (omega arith) c.if-rows-at.true

pub overflow_cast-at-in-loop-at : goal.overflow_cast-at-in-loop-at
overflow_cast-at-in-loop-at c = omega (arith, c.type_inv.older c.loop-at.at)

pub loop-at-preserved : goal.loop-at-preserved
loop-at-preserved c =
    let a = c.args in
    let l = c.loop-at in
    let next = ahead_next a.rows.now a.older.now a.row a.word l.before l.at l.invariant.1 (omega arith) c.requires.newest.1 in
    (omega arith, next c.if-rows-at.false)

pub returns : goal.returns
returns c =
    let a = c.args in
    let l = c.loop-at in
    earlier_none a.rows.now a.row a.word (omega arith)
    (ahead_end a.rows.now a.older.now a.row a.word l.before l.at l.invariant.1 c.loop-at-test.false)
