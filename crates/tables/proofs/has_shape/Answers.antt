-- One rule and then the other.
use mathlib.Core.Path.{refl}
use Rattle.tables.proofs.RuleLaws.{and_more, and_kept}
use Rattle.tables.proofs.has_shape.Goals as goal

pub returns-then-known_tag : goal.returns-then-known_tag
returns-then-known_tag c = and_more c.known_tag.ensures c.if-known_tag.true c.is_packed.ensures

pub returns-else-known_tag : goal.returns-else-known_tag
returns-else-known_tag c = and_kept _ c.known_tag.ensures c.if-known_tag.false refl
