-- Without whole cells it is 1.
use mathlib.Core.Path.{refl}
use Rattle.looking.proofs.LookLaws.{run_limit}
use Rattle.running.proofs.run.Goals as goal

pub returns-then-not-whole : goal.returns-then-not-whole
returns-then-not-whole c = (run_limit _ _ c.if-not-whole.true, refl)
