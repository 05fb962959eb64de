use mathlib.Core.Path.{refl, sym, ◌∙◌}
use lib.ListN.{length-set}
use Rattle.patterns.specs.Row.{children_of}
use Rattle.patterns.proofs.RowLaws.{child_below, children_taken}
use Rattle.patterns.proofs.MarkLaws.{take_next, take_end}
use Rattle.grammar.proofs.rules.take_children.Goals as goal

pub bounds-marks-child : goal.bounds-marks-child
bounds-marks-child c =
    let word = c.args.word in
    let taken = children_taken word _ c.slots-slots.ensures c.child_count.ensures in
    rw (taken, c.loop-slot.invariant.0) (child_below word c.loop-slot.slot-index (rw taken at c.loop-slot-test.true))

pub bounds-marks-child-in-loop-slot : goal.bounds-marks-child-in-loop-slot
bounds-marks-child-in-loop-slot c =
    let word = c.args.word in
    let taken = children_taken word _ c.slots-slots.ensures c.child_count.ensures in
    rw (taken, c.loop-slot.invariant.0) (child_below word c.loop-slot.slot-index (rw taken at c.loop-slot-test.true))

pub loop-slot-preserved : goal.loop-slot-preserved
loop-slot-preserved c =
    let word = c.args.word in
    let loop = c.loop-slot in
    let taken = children_taken word _ c.slots-slots.ensures c.child_count.ensures in (
      length-set loop.marks _ _ ∙ loop.invariant.0,
      rw taken (take_next _ _ (children_of word) loop.slot-index loop.invariant.1 _ (rw taken at c.loop-slot-test.true) refl),
    )

pub returns : goal.returns
returns c =
    let word = c.args.word in
    let taken = children_taken word _ c.slots-slots.ensures c.child_count.ensures in
    sym (take_end _ _ (children_of word) c.loop-slot.slot-index c.loop-slot.invariant.1 (rw taken at c.loop-slot-test.false))
