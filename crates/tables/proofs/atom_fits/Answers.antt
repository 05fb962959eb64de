-- One rule and then the other.
use mathlib.Core.Path.{refl}
use Rattle.tables.proofs.RuleLaws.{and_more, and_kept}
use Rattle.tables.proofs.atom_fits.Goals as goal

pub returns-then-has_shape : goal.returns-then-has_shape
returns-then-has_shape c = and_more c.has_shape.ensures c.if-has_shape.true c.number_fits.ensures

pub returns-else-has_shape : goal.returns-else-has_shape
returns-else-has_shape c = and_kept _ c.has_shape.ensures c.if-has_shape.false refl
