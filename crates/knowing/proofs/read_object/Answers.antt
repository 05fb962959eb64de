use Rattle.knowing.proofs.StepLaws.{read-ways}
use Rattle.knowing.proofs.read_object.Goals as goal

pub returns-then-not-object_known : goal.returns-then-not-object_known
returns-then-not-object_known c = search read-ways

pub returns-else-not-object_known : goal.returns-else-not-object_known
returns-else-not-object_known c = search read-ways
