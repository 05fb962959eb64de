use Rattle.knowing.proofs.StepLaws.{free-ways}
use Rattle.knowing.proofs.free_raw.Goals as goal

pub returns-then-raw_known : goal.returns-then-raw_known
returns-then-raw_known c = search free-ways

pub returns-else-raw_known : goal.returns-else-raw_known
returns-else-raw_known c = search free-ways
