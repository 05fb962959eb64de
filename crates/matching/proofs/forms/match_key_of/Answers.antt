use Rattle.matching.proofs.FormLaws.{key_of_done}
use Rattle.matching.proofs.forms.match_key_of.Goals as goal

pub returns : goal.returns
returns c = search (key_of_done)
