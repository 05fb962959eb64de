-- A row without parts, or one that owns some.
use Rattle.tables.proofs.RuleLaws.{shape-ways}
use Rattle.tables.proofs.shape_fits.Goals as goal

pub returns-then-tag-lt-ENCRYPTION : goal.returns-then-tag-lt-ENCRYPTION
returns-then-tag-lt-ENCRYPTION c = search shape-ways

pub returns-else-tag-lt-ENCRYPTION : goal.returns-else-tag-lt-ENCRYPTION
returns-else-tag-lt-ENCRYPTION c = search shape-ways
