use Rattle.matching.proofs.FormLaws.{object-ways}
use Rattle.matching.proofs.forms.match_object.Goals as goal

pub returns-then-object_known : goal.returns-then-object_known
returns-then-object_known c = search object-ways

pub returns-else-object_known : goal.returns-else-object_known
returns-else-object_known c = search object-ways
