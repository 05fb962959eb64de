use Rattle.surveys.proofs.LeafLaws.{key_of_matched}
use Rattle.surveys.proofs.matched.match_key_of.Goals as goal

pub returns : goal.returns
returns c = search (key_of_matched)
