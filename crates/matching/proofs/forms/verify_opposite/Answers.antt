use Rattle.matching.proofs.FormLaws.{verify_opposite}
use Rattle.matching.proofs.forms.verify_opposite.Goals as goal

pub returns : goal.returns
returns c = search (verify_opposite)
