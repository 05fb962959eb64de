use Rattle.knowing.proofs.StepLaws.{appended}
use Rattle.knowing.proofs.append.Goals as goal

pub returns : goal.returns
returns c = λ l h. appended _ _ l _ h
