use Rattle.matching.proofs.FormLaws.{hash_done}
use Rattle.matching.proofs.forms.match_hash.Goals as goal

pub returns : goal.returns
returns c = search (hash_done)
