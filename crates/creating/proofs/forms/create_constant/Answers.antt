use Rattle.creating.proofs.FormLaws.{constant_done}
use Rattle.creating.proofs.forms.create_constant.Goals as goal

pub returns : goal.returns
returns c = λ kinds. search (constant_done)
