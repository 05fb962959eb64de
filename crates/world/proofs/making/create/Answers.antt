-- `world::making::create` meets its contract: each way out is an answer of the world of rows.
use Rattle.world.proofs.MakingLaws.{create-ways}
use Rattle.world.proofs.making.create.Goals as goal

pub returns-then-counter-ge-MOST_NAMES : goal.returns-then-counter-ge-MOST_NAMES
returns-then-counter-ge-MOST_NAMES c = search create-ways

pub returns : goal.returns
returns c = search create-ways
