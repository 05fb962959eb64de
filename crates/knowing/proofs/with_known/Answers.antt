use Rattle.knowing.proofs.KnownLaws.{known_with, known_fits}
use borrow.Author.Rules.{rules}
use Rattle.knowing.proofs.with_known.Goals as goal

pub overflow_add-result : goal.overflow_add-result
overflow_add-result c = record { fits = known_fits c.args.mask c.args.v c.requires.0 c.requires.1 (search rules) }

pub returns : goal.returns
returns c = known_with c.args.mask c.args.v c.requires.0 c.requires.1
