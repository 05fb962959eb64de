-- `world::keys::goes_with` meets its contract: each way out is a step of the table.
use Rattle.world.proofs.KeyLaws.{goes-ways}
use Rattle.world.proofs.keys.goes_with.Goals as goal

pub returns-then-tag-eq-PUBLIC_KEY : goal.returns-then-tag-eq-PUBLIC_KEY
returns-then-tag-eq-PUBLIC_KEY c = search goes-ways

pub returns-else-tag-eq-PUBLIC_KEY : goal.returns-else-tag-eq-PUBLIC_KEY
returns-else-tag-eq-PUBLIC_KEY c = search goes-ways

pub returns-then-tag-eq-SHARED_KEY : goal.returns-then-tag-eq-SHARED_KEY
returns-then-tag-eq-SHARED_KEY c = search goes-ways

pub returns-else-tag-eq-SHARED_KEY : goal.returns-else-tag-eq-SHARED_KEY
returns-else-tag-eq-SHARED_KEY c = search goes-ways

pub returns-in_default : goal.returns-in_default
returns-in_default c = search goes-ways
