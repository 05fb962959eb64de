use Rattle.knowing.proofs.StepLaws.{wrong_kind}
use Rattle.knowing.proofs.wrong_kind.Goals as goal

pub returns : goal.returns
returns c = wrong_kind _ _ _ c.refuse.ensures
