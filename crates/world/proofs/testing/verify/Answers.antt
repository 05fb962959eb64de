-- `world::testing::verify` meets its contract: each way out is an answer of the world of rows.
use Rattle.world.proofs.TestingLaws.{verify-ways}
use Rattle.world.proofs.testing.verify.Goals as goal

pub returns-then-tag-ne-SIGNATURE : goal.returns-then-tag-ne-SIGNATURE
returns-then-tag-ne-SIGNATURE c = search verify-ways

pub returns-then-not-goes_with : goal.returns-then-not-goes_with
returns-then-not-goes_with c = search verify-ways

pub returns-then-ne : goal.returns-then-ne
returns-then-ne c = search verify-ways

pub returns : goal.returns
returns c = search verify-ways
