-- `world::testing::is_kind` meets its contract: each way out is an answer of the world of rows.
use Rattle.world.proofs.TestingLaws.{kind-ways}
use Rattle.world.proofs.testing.is_kind.Goals as goal

pub returns-then-tag-kind : goal.returns-then-tag-kind
returns-then-tag-kind c = search kind-ways

pub returns : goal.returns
returns c = search kind-ways
