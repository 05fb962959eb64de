use Rattle.text.proofs.WrittenLaws.{wrote_past}
use Rattle.text.proofs.put_byte.Goals as goal

pub returns-then-out-at : goal.returns-then-out-at
returns-then-out-at c = wrote_past _ _ _ c.if-out-at.true
