-- `world::making::opposite` meets its contract: each way out is an answer of the world of rows.
use Rattle.world.proofs.MakingLaws.{opposite-ways}
use Rattle.world.proofs.making.opposite.Goals as goal

pub returns-then-tag-ne-PRIVATE_KEY : goal.returns-then-tag-ne-PRIVATE_KEY
returns-then-tag-ne-PRIVATE_KEY c = search opposite-ways

pub returns : goal.returns
returns c = search opposite-ways
