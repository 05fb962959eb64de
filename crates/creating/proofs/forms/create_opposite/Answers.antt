use Rattle.creating.proofs.FormLaws.{opposite_done}
use Rattle.creating.proofs.forms.create_opposite.Goals as goal

pub returns : goal.returns
returns c = search (opposite_done)
