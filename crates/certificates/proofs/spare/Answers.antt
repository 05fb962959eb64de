use borrow.Author.Rules.{rules}
use Rattle.stores.specs.Certificates.{spare_of}
use Rattle.certificates.proofs.spare.Goals as goal

pub returns : goal.returns
unfolding spare_of
returns c = search rules
