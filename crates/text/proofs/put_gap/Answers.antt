use Rattle.text.proofs.LineLaws.{ways}
use Rattle.text.proofs.put_gap.Goals as goal

pub returns-then-place-eq0 : goal.returns-then-place-eq0
returns-then-place-eq0 c = search ways

pub returns : goal.returns
returns c = search ways
