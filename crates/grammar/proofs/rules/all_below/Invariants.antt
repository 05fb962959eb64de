use Prim.Native.Nat.{◌-◌}
use mathlib.Core.Path.{◌≡◌}
use mathlib.Core.Bool.{◌&&◌}
use lib.Dec.{ltb}
use lib.ListN.{take, drop}
use Rattle.word.specs.Lowest.{each}
use Rattle.grammar.proofs.rules.all_below.Given as goal

abbrev pub invariant-loop-slot : goal.invariant-loop-slot
invariant-loop-slot l =
    each (λ child. ltb child l.place) (take l.count l.fn.slots)
    ≡ (l.below && each (λ child. ltb child l.place) (take (l.count - l.slot) (drop l.slot l.fn.slots)))
