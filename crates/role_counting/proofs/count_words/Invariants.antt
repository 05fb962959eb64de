-- The halves so far are counted, and the rest goes on from the cells that they set.
use Rattle.role_counting.specs.Counted.{set_env}
use Rattle.role_counting.proofs.CountLaws.{Counting}
use Rattle.role_counting.proofs.count_words.Given as goal

abbrev pub invariant-loop-half : goal.invariant-loop-half
invariant-loop-half g l =
    Counting l.kinds l.counts (g.R.RowUnit.rows_of l.rows) (set_env l.fn.set) l.half l.row l.create (set_env l.set) l.words
