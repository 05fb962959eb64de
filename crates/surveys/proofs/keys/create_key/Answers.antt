use Rattle.patterns.proofs.StandingLaws.{key_low, second_low}
use Rattle.surveys.proofs.KeyLaws.{key_certified}
use Rattle.surveys.proofs.keys.create_key.Goals as goal

pub create_opposite-requires : goal.create_opposite-requires
create_opposite-requires c = (key_low _ c.requires _ c.key-key.ensures, second_low _ _ c.y.ensures)

pub returns-in_default : goal.returns-in_default
returns-in_default c = search (key_certified)
