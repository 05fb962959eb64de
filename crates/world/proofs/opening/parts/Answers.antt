-- `world::opening::parts` meets its contract: each way out is an answer of the world of rows.
use Rattle.world.proofs.OpeningLaws.{parts_taken, parts-ways}
use Rattle.world.proofs.opening.parts.Goals as goal

pub returns-then-tag-ne-TUPLE : goal.returns-then-tag-ne-TUPLE
returns-then-tag-ne-TUPLE c = search parts-ways

pub returns-then-used_slots-n : goal.returns-then-used_slots-n
returns-then-used_slots-n c = search parts-ways

pub returns : goal.returns
returns c =
    let slots = c.used_slots.ensures in
    parts_taken _ _ _ _ _ c.row_at-word.ensures c.tag.ensures c.if-tag-ne-TUPLE.false _
    slots.0 c.if-used_slots-n.false slots.1
