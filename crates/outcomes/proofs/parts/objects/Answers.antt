use Rattle.outcomes.proofs.PartLaws.{whole}
use Rattle.outcomes.proofs.parts.objects.Goals as goal

pub returns : goal.returns
returns c = whole c.object_cells.ensures
