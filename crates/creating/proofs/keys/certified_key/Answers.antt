use Rattle.creating.proofs.KeyLaws.{certified_key_lem}
use Rattle.creating.proofs.keys.certified_key.Goals as goal

pub returns : goal.returns
returns c = λ kinds. search (certified_key_lem)
