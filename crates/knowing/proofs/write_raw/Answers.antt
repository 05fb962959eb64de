use mathlib.Core.Path.{sym, ◌∙◌}
use Rattle.knowing.proofs.StepLaws.{write-raw-ways}
use borrow.Author.Rules.{rules}
use Rattle.knowing.proofs.write_raw.Goals as goal

pub returns-then-raw_known : goal.returns-then-raw_known
returns-then-raw_known c = search write-raw-ways

pub returns-else-raw_known : goal.returns-else-raw_known
returns-else-raw_known c = search write-raw-ways

pub returns-else-r-lt-VARIABLES : goal.returns-else-r-lt-VARIABLES
returns-else-r-lt-VARIABLES c = search write-raw-ways
