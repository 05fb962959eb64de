-- The invariant: none of the rows passed equals the word.
use Prim.Native.Nat.{◌≤◌}
use mathlib.Core.Path.{sym, ◌∙◌}
use native.Mathlib.Omega.{arith}
use lib.ListN.{length}
use Rattle.terms.proofs.FinderLaws.{equal_absent}
use Rattle.finder.proofs.BlockLaws.{absent_block}
use Rattle.finder.proofs.rows_passed.Goals as goal

pub loop-i-init : goal.loop-i-init
loop-i-init c = (omega arith, λ row l. absurd (omega arith))

pub returns-then-one_of_eight : goal.returns-then-one_of_eight
returns-then-one_of_eight c =
    let l = c.loop-i in
    let within : l.i ≤ length c.args.rows.now = omega (arith, c.requires, l.invariant.0) in
    (l.invariant.0, (equal_absent c.args.rows.now l.i c.args.word within).1 l.invariant.1)

pub loop-i-preserved : goal.loop-i-preserved
loop-i-preserved c =
    let l = c.loop-i in
    (omega arith, absent_block c.args.rows.now c.args.word l.i _ (omega arith) l.invariant.1 (sym c.one_of_eight.ensures ∙ c.if-one_of_eight.false))

pub returns : goal.returns
returns c =
    let l = c.loop-i in
    let within : l.i ≤ length c.args.rows.now = omega (arith, c.requires, l.invariant.0) in
    (l.invariant.0, (equal_absent c.args.rows.now l.i c.args.word within).1 l.invariant.1)
