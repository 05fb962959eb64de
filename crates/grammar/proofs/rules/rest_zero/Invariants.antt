use Prim.Native.Nat.{max}
use mathlib.Core.Path.{◌≡◌}
use mathlib.Core.Bool.{◌&&◌}
use lib.Dec.{eqb}
use lib.ListN.{drop}
use Rattle.word.specs.Lowest.{each}
use Rattle.grammar.proofs.rules.rest_zero.Given as goal

abbrev pub invariant-loop-slot : goal.invariant-loop-slot
invariant-loop-slot l = each (eqb 0) (drop l.count l.fn.slots) ≡ (l.zero && each (eqb 0) (drop (max l.count l.slot) l.fn.slots))
