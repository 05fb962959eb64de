use Rattle.matching.proofs.FormLaws.{raw-ways}
use Rattle.matching.proofs.forms.match_raw.Goals as goal

pub returns-then-raw_known : goal.returns-then-raw_known
returns-then-raw_known c = search raw-ways

pub returns-else-raw_known : goal.returns-else-raw_known
returns-else-raw_known c = search raw-ways
