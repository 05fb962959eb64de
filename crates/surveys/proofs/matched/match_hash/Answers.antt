use Rattle.surveys.proofs.LeafLaws.{hash_matched}
use Rattle.surveys.proofs.matched.match_hash.Goals as goal

pub returns : goal.returns
returns c = search (hash_matched)
