use mathlib.Core.Path.{◌≡◌}
use lib.ListN.{drop}
use Rattle.stores.specs.Certificates.{agents_once}
use Rattle.certificates.proofs.agents_once.Given as goal

abbrev pub invariant-loop-i : goal.invariant-loop-i
invariant-loop-i l = agents_once l.certificates ≡ agents_once (drop l.i l.certificates)
