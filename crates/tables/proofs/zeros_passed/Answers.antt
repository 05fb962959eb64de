-- The invariant: the rows passed leave the same answer.
use mathlib.Core.Path.{refl, sym, ◌∙◌}
use native.Mathlib.Omega.{arith}
use Rattle.finder.proofs.BlockLaws.{nonzero_block}
use Rattle.tables.proofs.zeros_passed.Goals as goal

pub loop-i-init : goal.loop-i-init
loop-i-init c = (c.requires, refl)

pub returns-then-not-eight_zero : goal.returns-then-not-eight_zero
returns-then-not-eight_zero c = c.loop-i.invariant

pub loop-i-preserved : goal.loop-i-preserved
loop-i-preserved c =
    let l = c.loop-i in
    (omega arith, l.invariant.1 ∙ nonzero_block _ l.i _ (omega arith) (sym c.eight_zero.ensures ∙ c.if-not-eight_zero.false))

pub returns : goal.returns
returns c = c.loop-i.invariant
