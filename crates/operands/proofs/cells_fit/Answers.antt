use Rattle.code.proofs.KindLaws.{cells_some, cells_many}
use Rattle.operands.proofs.cells_fit.Goals as goal

pub returns-then-n-le-MOST_PARTS : goal.returns-then-n-le-MOST_PARTS
returns-then-n-le-MOST_PARTS c = cells_some c.args.first c.args.n c.if-n-le-MOST_PARTS.true

pub returns-else-n-le-MOST_PARTS : goal.returns-else-n-le-MOST_PARTS
returns-else-n-le-MOST_PARTS c = cells_many c.args.first c.args.n c.if-n-le-MOST_PARTS.false
