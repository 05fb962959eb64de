-- Below 1, or not.
use Rattle.tables.proofs.RuleLaws.{known-ways}
use Rattle.tables.proofs.known_tag.Goals as goal

pub returns-then-t-ge-BYTE : goal.returns-then-t-ge-BYTE
returns-then-t-ge-BYTE c = search known-ways

pub returns-else-t-ge-BYTE : goal.returns-else-t-ge-BYTE
returns-else-t-ge-BYTE c = search known-ways
