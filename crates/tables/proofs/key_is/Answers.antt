-- The first kind, or the second.
use Rattle.tables.proofs.RuleLaws.{kind-ways}
use Rattle.tables.proofs.key_is.Goals as goal

pub returns-then-t-kind : goal.returns-then-t-kind
returns-then-t-kind c = search kind-ways

pub returns-else-t-kind : goal.returns-else-t-kind
returns-else-t-kind c = search kind-ways
