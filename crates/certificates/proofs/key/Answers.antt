use borrow.Author.Rules.{rules}
use Rattle.stores.specs.Certificates.{key_of}
use Rattle.certificates.proofs.key.Goals as goal

pub returns : goal.returns
unfolding key_of
returns c = search rules
