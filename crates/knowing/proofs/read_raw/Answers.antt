use Rattle.knowing.proofs.StepLaws.{read-raw-ways}
use Rattle.knowing.proofs.read_raw.Goals as goal

pub returns-then-not-raw_known : goal.returns-then-not-raw_known
returns-then-not-raw_known c = search read-raw-ways

pub returns-else-not-raw_known : goal.returns-else-not-raw_known
returns-else-not-raw_known c = search read-raw-ways

pub returns-else-r-lt-VARIABLES : goal.returns-else-r-lt-VARIABLES
returns-else-r-lt-VARIABLES c = search read-raw-ways
