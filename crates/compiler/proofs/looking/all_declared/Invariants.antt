-- What is gathered so far and what is left give the answer.
use Prim.Native.Nat.{zero}
use mathlib.Core.Path.{◌≡◌}
use mathlib.Core.Bool.{◌&&◌}
use lib.ListN.{drop}
use Rattle.knowing.specs.Known.{known}
use Rattle.calls.specs.Half.{undeclared_unknown}
use Rattle.compiler.proofs.looking.all_declared.Given as goal

abbrev pub invariant-loop-v : goal.invariant-loop-v
invariant-loop-v l = undeclared_unknown zero l.kinds (known l.objects) ≡ (l.declared && undeclared_unknown l.v (drop l.v l.kinds) (known l.objects))
