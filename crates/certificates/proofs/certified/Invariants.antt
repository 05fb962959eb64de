use mathlib.Core.Path.{◌≡◌}
use lib.ListN.{drop}
use Rattle.stores.specs.Certificates.{certified}
use Rattle.certificates.proofs.certified.Given as goal

abbrev pub invariant-loop-word : goal.invariant-loop-word
invariant-loop-word l = certified l.certificates l.agent.0 ≡ certified (drop l.word-index l.certificates) l.agent.0
