use Rattle.matching.proofs.FormLaws.{opposite_done}
use Rattle.matching.proofs.forms.match_opposite.Goals as goal

pub returns : goal.returns
returns c = search (opposite_done)
