use mathlib.Core.Path.{◌≡◌}
use Rattle.stores.specs.Valid.{each_variable, object_fits}
use Rattle.validity.proofs.objects_fit.Given as goal

abbrev pub invariant-loop-kind : goal.invariant-loop-kind
invariant-loop-kind l =
    let left = l.kind-iterator in
    each_variable (object_fits l.rows l.used) l.kinds l.objects ≡ each_variable (object_fits l.rows l.used) left.a.rest.now left.b.rest.now
