-- The invariant: the search over all rows is the search over those that are left.
use Prim.Native.Nat.{◌≤◌}
use mathlib.Core.Path.{◌≡◌}
use Rattle.terms.specs.Finder.{equal_row}
use Rattle.finder.proofs.rows_left.Given as goal

abbrev pub invariant-loop-left : goal.invariant-loop-left
invariant-loop-left l = (l.left ≤ l.used) × (equal_row l.rows l.used l.word ≡ equal_row l.rows l.left l.word)

abbrev pub decreases-loop-left : goal.decreases-loop-left
decreases-loop-left l = l.left
