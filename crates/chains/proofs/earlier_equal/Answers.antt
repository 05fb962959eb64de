-- An equal row is found among the earlier ones, or none.
use mathlib.Core.Path.{◌∙◌}
use Rattle.chains.proofs.DistinctLaws.{search_decides}
use Rattle.chains.proofs.earlier_equal.Goals as goal

pub returns : goal.returns
returns c = c.is_some.ensures ∙ search_decides c.args.rows.now c.args.row c.args.word c.requires.0 _ c.equal_row.ensures
