use borrow.Author.Rules.{rules}
use Rattle.stores.specs.Certificates.{agent_of}
use Rattle.certificates.proofs.agent.Goals as goal

pub returns : goal.returns
unfolding agent_of
returns c = search rules
