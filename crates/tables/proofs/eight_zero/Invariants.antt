-- The invariant: what is gathered so far and what is left give the answer.
use mathlib.Core.Path.{◌≡◌}
use mathlib.Core.Bool.{◌&&◌}
use lib.Dec.{eqb}
use lib.ListN.{drop}
use Rattle.word.specs.Lowest.{each}
use Rattle.tables.proofs.eight_zero.Given as goal

abbrev pub invariant-loop-row : goal.invariant-loop-row
invariant-loop-row l = each (λ word. eqb word 0) l.block ≡ (l.zero && each (λ word. eqb word 0) (drop l.row-index l.block))
