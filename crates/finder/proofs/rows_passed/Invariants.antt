-- The invariant: none of the rows passed equals the word.
use Prim.Native.Nat.{◌≤◌, ◌-◌}
use Rattle.terms.proofs.FinderLaws.{Absent}
use Rattle.finder.proofs.rows_passed.Given as goal

abbrev pub invariant-loop-i : goal.invariant-loop-i
invariant-loop-i l = (l.i ≤ l.used) × Absent l.rows l.i l.word

abbrev pub decreases-loop-i : goal.decreases-loop-i
decreases-loop-i l = l.used - l.i
