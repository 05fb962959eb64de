-- `world::making::encrypt` meets its contract: each way out is an answer of the world of rows.
use Rattle.world.proofs.MakingLaws.{making-ways}
use Rattle.world.proofs.making.encrypt.Goals as goal

pub returns : goal.returns
returns c = search making-ways
