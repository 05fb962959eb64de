use mathlib.Core.Path.{◌≡◌}
use mathlib.Core.Bool.{false}
use lib.ListN.{length, drop}
use Rattle.patterns.specs.Row.{children_of}
use Rattle.patterns.specs.Marks.{taking, take_every}
use Rattle.grammar.proofs.rules.take_children.Given as goal

abbrev pub invariant-loop-slot : goal.invariant-loop-slot
invariant-loop-slot l =
    (length l.marks ≡ 128) × (take_every (taking l.initial.marks false) (children_of l.word) ≡ take_every (taking l.marks l.again) (drop l.slot-index (children_of l.word)))
