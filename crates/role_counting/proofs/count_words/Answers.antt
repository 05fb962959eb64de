-- The halves so far are counted, and the rest goes on from the cells that they set.
use mathlib.Core.Path.{refl}
use native.Mathlib.Omega.{arith}
use Rattle.calls.proofs.RoleLaws.{rows_inside}
use Rattle.role_counting.proofs.CountLaws.{part_of, counting_none, counting_small, counting_all, refused_half, done_few, done_more}
use Rattle.role_counting.proofs.count_words.Goals as goal

pub loop-half-init : goal.loop-half-init
loop-half-init g c = counting_none _ _ _ _ c.requires.2 refl

pub overflow_add-end : goal.overflow_add-end
overflow_add-end g c =
    omega (arith, rows_inside _ _ _ _ c.loop-half.invariant.reached c.loop-half-test.true, g.met.R.RowUnit.fewer c.args.rows.now, c.well_formed.0.1)

pub count_half-left-requires : goal.count_half-left-requires
count_half-left-requires g c = (omega arith, rows_inside _ _ _ _ c.loop-half.invariant.reached c.loop-half-test.true)

pub returns-in_default : goal.returns-in_default
returns-in_default g c =
    refused_half _ _ _ _ c.loop-half.invariant c.loop-half-test.true (rw (part_of c.loop-half.row _ _) at c.count_half-left.ensures) c.in_default.not-Done

pub overflow_add-words-in-loop-half : goal.overflow_add-words-in-loop-half
overflow_add-words-in-loop-half g c =
    omega (
      arith,
      counting_small _ _ _ _ c.loop-half.invariant,
      done_few _ _ _ _ c.loop-half.invariant c.loop-half-test.true (rw (part_of c.loop-half.row _ _) at c.count_half-left.ensures) c.in-Done.is,
      c.requires.1,
    )

pub loop-half-preserved : goal.loop-half-preserved
loop-half-preserved g c =
    done_more _ _ _ _ c.loop-half.invariant c.loop-half-test.true (rw (part_of c.loop-half.row _ _) at c.count_half-left.ensures) c.in-Done.is

pub returns : goal.returns
returns g c = counting_all _ _ _ _ c.loop-half.invariant c.loop-half-test.false (omega arith) c.requires.0
