use mathlib.Core.Path.{sym}
use native.Mathlib.Omega.{arith}
use lib.Seq.{length-take-le}
use Rattle.bundles.proofs.BundleLaws.{lengths}
use Rattle.outcomes.proofs.PartLaws.{compile_given, front_length, front_inside}
use Rattle.outcomes.proofs.compiled.Goals as goal

pub slice_bounds-pattern-end : goal.slice_bounds-pattern-end
slice_bounds-pattern-end c = front_inside _ _ c.pattern-pattern.ensures (lengths _ _ c.requires).pattern

pub slice_bounds-compile-end : goal.slice_bounds-compile-end
slice_bounds-compile-end c = front_length _ _ c.pattern-pattern.ensures
    (lengths _ _ c.requires).pattern

pub slice_bounds-compile-end-4 : goal.slice_bounds-compile-end-4
slice_bounds-compile-end-4 c = sym (length-take-le 64 c.messages-messages.result (omega arith))

pub returns : goal.returns
returns c =
    compile_given _ c.requires _ c.pattern-pattern.ensures c.kinds-kinds.ensures c.objects-objects.ensures c.messages-messages.ensures
    c.compile.ensures
