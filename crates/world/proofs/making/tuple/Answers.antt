-- `world::making::tuple` meets its contract: each way out is an answer of the world of rows.
use Rattle.world.proofs.MakingLaws.{making-ways}
use Rattle.world.proofs.making.tuple.Goals as goal

pub returns : goal.returns
returns c = search making-ways
