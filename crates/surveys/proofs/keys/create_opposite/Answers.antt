use Rattle.surveys.proofs.KeyLaws.{opposite_created}
use Rattle.surveys.proofs.keys.create_opposite.Goals as goal

pub returns : goal.returns
returns c = search (opposite_created)
