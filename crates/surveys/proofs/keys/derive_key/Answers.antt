use Rattle.surveys.proofs.KeyLaws.{key_derived}
use Rattle.surveys.proofs.keys.derive_key.Goals as goal

pub returns : goal.returns
returns c = search (key_derived)
