use mathlib.Core.Path.{refl, sym, ◌∙◌}
use native.Mathlib.Omega.{arith}
use Rattle.patterns.proofs.CheckLaws.{good_none, good_end, good_stop, good_next}
use Rattle.grammar.proofs.rules.first_bad_pattern.Goals as goal

pub loop-place-init : goal.loop-place-init
loop-place-init c = good_none _

pub slice_bounds-take_children-end : goal.slice_bounds-take_children-end
slice_bounds-take_children-end c = sym c.loop-place.invariant.marked.long

pub take_children-again-requires : goal.take_children-again-requires
take_children-again-requires c = c.loop-place.invariant.marked.long

pub returns-then-row_fits-again : goal.returns-then-row_fits-again
returns-then-row_fits-again c =
    sym (good_stop _ _ _ c.loop-place.invariant _ _ _ _ (omega arith) refl c.row_fits.ensures c.take_children-again.ensures c.if-row_fits-again.true)

pub loop-place-preserved : goal.loop-place-preserved
loop-place-preserved c =
    good_next _ _ _ c.loop-place.invariant _ _ _ _ (omega arith) refl c.row_fits.ensures c.take_children-again.ensures c.if-row_fits-again.false

pub returns : goal.returns
returns c = c.first_unnamed.ensures ∙ sym (good_end _ _ _ c.loop-place.invariant (omega arith) c.requires)
