use Prim.Native.Nat.{◌+◌, ◌-◌}
use mathlib.Core.Bool.{not}
use mathlib.Core.Path.{ap}
use native.Mathlib.Omega.{arith}
use lib.ListN.{length, drop, length-take}
use Rattle.reading.proofs.RereadingLaws.{whole_says, not_whole, is_whole}
use Rattle.reading.proofs.lines.reread.Goals as goal

pub returns-then-not-is_whole : goal.returns-then-not-is_whole
returns-then-not-is_whole c = not_whole c.args.input.now c.is_whole.ensures (ap not c.if-not-is_whole.true) c.refused.ensures

pub word_at-requires : goal.word_at-requires
word_at-requires c = omega (arith, whole_says c.args.input.now c.is_whole.ensures (ap not c.if-not-is_whole.false))

pub overflow_add-end : goal.overflow_add-end
overflow_add-end c = omega (arith, whole_says c.args.input.now c.is_whole.ensures (ap not c.if-not-is_whole.false), c.word_at.ensures)

pub slice_bounds-bundle_again-end : goal.slice_bounds-bundle_again-end
slice_bounds-bundle_again-end c =
    omega (arith, whole_says c.args.input.now c.is_whole.ensures (ap not c.if-not-is_whole.false), c.word_at.ensures)

pub slice_bounds-bundle_again-count-2 : goal.slice_bounds-bundle_again-count-2
slice_bounds-bundle_again-count-2 c =
    omega (arith, whole_says c.args.input.now c.is_whole.ensures (ap not c.if-not-is_whole.false), c.word_at.ensures)

pub slice_bounds-bundle_again-start-2 : goal.slice_bounds-bundle_again-start-2
slice_bounds-bundle_again-start-2 c =
    omega (arith, whole_says c.args.input.now c.is_whole.ensures (ap not c.if-not-is_whole.false), c.word_at.ensures)

pub bundle_again-requires : goal.bundle_again-requires
bundle_again-requires c =
    let input = c.args.input.now in
    let from = 8 + c.word_at.result in
    omega (arith, whole_says input c.is_whole.ensures (ap not c.if-not-is_whole.false), length-take (length input - from) (drop from input))

pub returns : goal.returns
returns c = is_whole c.args.input.now c.is_whole.ensures c.word_at.ensures (ap not c.if-not-is_whole.false) c.bundle_again.ensures
