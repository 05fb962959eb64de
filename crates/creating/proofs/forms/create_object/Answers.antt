use Rattle.creating.proofs.FormLaws.{object_done}
use Rattle.creating.proofs.forms.create_object.Goals as goal

pub returns : goal.returns
returns c = search (object_done)
