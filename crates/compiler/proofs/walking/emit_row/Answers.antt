use Rattle.compiler.proofs.WalkLaws.{creates_emits}
use Rattle.compiler.proofs.walking.emit_row.Goals as goal

pub returns-then-create : goal.returns-then-create
returns-then-create c = creates_emits _ _ c.if-create.true c.create_row.ensures
