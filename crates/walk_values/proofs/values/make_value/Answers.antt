-- `walk_values::values::make_value` meets its contract, a way out at a time.
use Rattle.walk_values.proofs.ValueLaws.{make-value-ways}
use Rattle.walk_values.proofs.values.make_value.Goals as goal

pub returns-then-known : goal.returns-then-known
returns-then-known c = λ kind o says. search make-value-ways

pub returns : goal.returns
returns c = λ kind o says. search make-value-ways
