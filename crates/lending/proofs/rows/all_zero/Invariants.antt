use mathlib.Core.Path.{◌≡◌}
use mathlib.Core.Bool.{◌&&◌}
use lib.Dec.{eqb}
use lib.ListN.{drop}
use Rattle.word.specs.Lowest.{each}
use Rattle.lending.proofs.rows.all_zero.Given as goal

abbrev pub invariant-loop-byte : goal.invariant-loop-byte
invariant-loop-byte l = each (λ byte. eqb byte 0) l.bytes ≡ (l.zero && each (λ byte. eqb byte 0) (drop l.byte-index l.bytes))
