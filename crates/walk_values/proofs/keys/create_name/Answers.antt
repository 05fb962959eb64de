-- `walk_values::keys::create_name` meets its contract, a way out at a time.
use Rattle.walk_values.proofs.KeyLaws.{name-ways}
use Rattle.walk_values.proofs.keys.create_name.Goals as goal

pub returns-in_default : goal.returns-in_default
returns-in_default c = search name-ways

pub returns : goal.returns
returns c = search name-ways
