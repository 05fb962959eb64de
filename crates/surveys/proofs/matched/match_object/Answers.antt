use Rattle.surveys.proofs.JoinLaws.{object-ways}
use Rattle.surveys.proofs.matched.match_object.Goals as goal

pub returns-then-not-object_known : goal.returns-then-not-object_known
returns-then-not-object_known c = search object-ways

pub returns-else-not-object_known : goal.returns-else-not-object_known
returns-else-not-object_known c = search object-ways
