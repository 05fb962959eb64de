use Rattle.bundles.proofs.BundleLaws.{fields}
use Rattle.outcomes.proofs.PartLaws.{certificates_front}
use Rattle.outcomes.proofs.parts.certificates.Goals as goal

pub certificates-requires : goal.certificates-requires
certificates-requires c = (c.requires, (fields _ _ c.requires).limits.2)

pub returns : goal.returns
returns c = certificates_front _ c.requires _ c.certificates.ensures
