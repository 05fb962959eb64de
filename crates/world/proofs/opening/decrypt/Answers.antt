-- `world::opening::decrypt` meets its contract: each way out is an answer of the world of rows.
use Rattle.world.proofs.OpeningLaws.{decrypt-ways}
use Rattle.world.proofs.opening.decrypt.Goals as goal

pub returns-then-tag-ne-ENCRYPTION : goal.returns-then-tag-ne-ENCRYPTION
returns-then-tag-ne-ENCRYPTION c = search decrypt-ways

pub returns-then-not-goes_with : goal.returns-then-not-goes_with
returns-then-not-goes_with c = search decrypt-ways

pub returns : goal.returns
returns c = search decrypt-ways
