use Rattle.creating.proofs.KeyLaws.{opposite_key}
use Rattle.creating.proofs.keys.opposite_key.Goals as goal

pub returns : goal.returns
returns c = search (opposite_key)
