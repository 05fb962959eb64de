-- The rounds so far stand in front of the slice, and their ends in front of the other.
use Rattle.role_counting.specs.Counted.{set_env}
use Rattle.role_writing.proofs.WriteLaws.{Writing}
use Rattle.role_writing.proofs.write_rounds.Given as goal

abbrev pub invariant-loop-round : goal.invariant-loop-round
invariant-loop-round g l =
    Writing g.E.WordUnit.packed g.C.WordUnit.packed l.kinds l.counts (g.R.RowUnit.rows_of l.rows) (set_env l.fn.set)
    l.initial.ends l.initial.code l.round l.row (set_env l.set) l.words l.ends l.code
