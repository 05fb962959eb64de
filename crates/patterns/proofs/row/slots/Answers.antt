use borrow.Author.Rules.{rules}
use Rattle.patterns.specs.Row.{pattern_fields}
use Rattle.patterns.proofs.row.slots.Goals as goal

pub returns : goal.returns
unfolding pattern_fields
returns c = search rules
