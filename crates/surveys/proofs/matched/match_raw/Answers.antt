use Rattle.surveys.proofs.JoinLaws.{raw-ways}
use Rattle.surveys.proofs.matched.match_raw.Goals as goal

pub returns-then-not-raw_known : goal.returns-then-not-raw_known
returns-then-not-raw_known c = search raw-ways

pub returns-else-not-raw_known : goal.returns-else-not-raw_known
returns-else-not-raw_known c = search raw-ways
