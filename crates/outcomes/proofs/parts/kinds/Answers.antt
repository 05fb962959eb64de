use Rattle.outcomes.proofs.PartLaws.{whole}
use Rattle.outcomes.proofs.parts.kinds.Goals as goal

pub returns : goal.returns
returns c = whole c.kinds.ensures
