-- The invariant: the search over all rows is the search over those that are left.
use Prim.Native.Nat.{◌-◌}
use mathlib.Core.Path.{refl, sym, ◌∙◌}
use native.Mathlib.Omega.{arith}
use Rattle.finder.proofs.BlockLaws.{passes_block}
use Rattle.finder.proofs.rows_left.Goals as goal

pub loop-left-init : goal.loop-left-init
loop-left-init c = (omega arith, refl)

pub returns-then-one_of_eight : goal.returns-then-one_of_eight
returns-then-one_of_eight c = c.loop-left.invariant

pub loop-left-preserved : goal.loop-left-preserved
loop-left-preserved c =
    let l = c.loop-left in
    let differ = sym c.one_of_eight.ensures ∙ c.if-one_of_eight.false in
    (omega arith, l.invariant.1 ∙ passes_block c.args.rows.now c.args.word (l.left - 8) l.left (omega arith) (omega (arith, l.invariant.0, c.requires)) differ)

pub returns : goal.returns
returns c = c.loop-left.invariant
