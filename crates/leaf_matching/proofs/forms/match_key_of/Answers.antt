-- `leaf_matching::forms::match_key_of` meets its contract.
use Rattle.leaf_matching.proofs.FormLaws.{key_of_same}
use Rattle.leaf_matching.proofs.forms.match_key_of.Goals as goal

pub returns : goal.returns
returns c = search (key_of_same)
