use Rattle.patterns.proofs.StandingLaws.{variable_low}
use Rattle.surveys.proofs.LeafLaws.{signed_created}
use Rattle.surveys.proofs.created.create_signature.Goals as goal

pub write_object-requires : goal.write_object-requires
write_object-requires c = variable_low _ _ c.variable-s.ensures

pub returns : goal.returns
returns c = search (signed_created)
