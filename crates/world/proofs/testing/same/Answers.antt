-- `world::testing::same` meets its contract: each way out is an answer of the world of rows.
use Rattle.world.proofs.TestingLaws.{same-ways}
use Rattle.world.proofs.testing.same.Goals as goal

pub returns-then-ne : goal.returns-then-ne
returns-then-ne c = search same-ways

pub returns : goal.returns
returns c = search same-ways
