use Rattle.surveys.proofs.LeafLaws.{hash_created}
use Rattle.surveys.proofs.created.create_hash.Goals as goal

pub returns : goal.returns
returns c = search (hash_created)
