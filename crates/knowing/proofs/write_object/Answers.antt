use mathlib.Core.Path.{sym, ◌∙◌}
use Rattle.knowing.proofs.StepLaws.{write-ways}
use borrow.Author.Rules.{rules}
use Rattle.knowing.proofs.write_object.Goals as goal

pub returns-then-object_known : goal.returns-then-object_known
returns-then-object_known c = search write-ways

pub returns-else-object_known : goal.returns-else-object_known
returns-else-object_known c = search write-ways
