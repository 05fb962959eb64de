-- `walk_values::keys::get_variable` meets its contract, a way out at a time.
use Rattle.walk_values.proofs.KeyLaws.{creatable_small, variable-ways}
use borrow.Author.Rules.{rules}
use Rattle.walk_values.proofs.keys.get_variable.Goals as goal

pub returns-then-known : goal.returns-then-known
returns-then-known c = search variable-ways

pub returns-then-not-creatable_kind : goal.returns-then-not-creatable_kind
returns-then-not-creatable_kind c = search variable-ways

pub create_name-requires : goal.create_name-requires
create_name-requires c = search (rules, creatable_small)

pub returns : goal.returns
returns c = search variable-ways
