use mathlib.Core.Path.{◌≡◌}
use mathlib.Core.Bool.{◌&&◌}
use lib.ListN.{drop}
use lib.Dec.{leb}
use Rattle.word.specs.Lowest.{each}
use Rattle.stores.proofs.cells.kinds_fit.Given as goal

abbrev pub invariant-loop-kind : goal.invariant-loop-kind
invariant-loop-kind l = each (λ kind. leb kind 10) l.kinds ≡ (l.fit && each (λ kind. leb kind 10) (drop l.kind-index l.kinds))
