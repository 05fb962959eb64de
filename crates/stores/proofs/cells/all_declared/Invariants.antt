use mathlib.Core.Path.{◌≡◌}
use mathlib.Core.Bool.{◌&&◌}
use Rattle.stores.specs.Valid.{each_variable, undeclared_unset}
use Rattle.stores.proofs.cells.all_declared.Given as goal

abbrev pub invariant-loop-kind : goal.invariant-loop-kind
invariant-loop-kind l =
    let left = l.kind-iterator in
    each_variable undeclared_unset l.kinds l.objects ≡ (l.declared && each_variable undeclared_unset left.a.rest.now left.b.rest.now)
