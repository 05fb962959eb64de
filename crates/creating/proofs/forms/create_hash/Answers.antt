use Rattle.creating.proofs.FormLaws.{hash_done}
use Rattle.creating.proofs.forms.create_hash.Goals as goal

pub returns : goal.returns
returns c = λ kinds. search (hash_done)
