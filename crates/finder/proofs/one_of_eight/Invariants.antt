-- The invariant: what is found so far and what is left give the answer.
use mathlib.Core.Path.{◌≡◌}
use mathlib.Core.Bool.{◌||◌}
use lib.ListN.{drop}
use Rattle.word.specs.Lowest.{one_of}
use Rattle.finder.proofs.one_of_eight.Given as goal

abbrev pub invariant-loop-row : goal.invariant-loop-row
invariant-loop-row l = one_of l.block l.word ≡ (l.found || one_of (drop l.row-index l.block) l.word)
