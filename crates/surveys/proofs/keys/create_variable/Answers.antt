use Rattle.surveys.proofs.KeyLaws.{variable-ways}
use Rattle.surveys.proofs.keys.create_variable.Goals as goal

pub returns-else-not-object_known : goal.returns-else-not-object_known
returns-else-not-object_known c = search variable-ways

pub returns-then-creatable : goal.returns-then-creatable
returns-then-creatable c = search variable-ways

pub returns-else-creatable : goal.returns-else-creatable
returns-else-creatable c = search variable-ways
