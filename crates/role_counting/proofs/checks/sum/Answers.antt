use mathlib.Core.Path.{◌≡◌, ◌∙◌}
use borrow.Author.Rules.{rules}
use Rattle.std.specs.List as Lists
use Rattle.role_counting.proofs.CountLaws.{same_sum}
use Rattle.role_counting.proofs.checks.sum.Goals as goal

pub returns : goal.returns
returns c = let all : c.sum.result ≡ Lists.sum c.args.counts.now = search rules in all ∙ same_sum _
