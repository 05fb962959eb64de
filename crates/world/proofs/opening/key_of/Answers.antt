-- `world::opening::key_of` meets its contract: either way out is an answer of the world of rows.
use Rattle.world.proofs.OpeningLaws.{key_of_either}
use Rattle.world.proofs.opening.key_of.Goals as goal

pub returns : goal.returns
returns c = key_of_either _ _ _ c.certified.ensures _ c.ok_or.ensures.value
