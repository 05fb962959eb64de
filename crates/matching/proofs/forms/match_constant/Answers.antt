use Rattle.matching.proofs.FormLaws.{constant_done}
use Rattle.matching.proofs.forms.match_constant.Goals as goal

pub returns : goal.returns
returns c = search (constant_done)
