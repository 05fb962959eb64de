use mathlib.Core.Path.{refl}
use Rattle.knowing.proofs.StepLaws.{raised}
use Rattle.knowing.proofs.take.Goals as goal

pub returns : goal.returns
returns c = (refl, raised _ _)
