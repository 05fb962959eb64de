-- An encryption, a signature, and what has no key.
use Rattle.tables.proofs.RuleLaws.{key-ways}
use Rattle.tables.proofs.key_kind_fits.Goals as goal

pub returns-in-7 : goal.returns-in-7
returns-in-7 c = search key-ways

pub returns-in-8 : goal.returns-in-8
returns-in-8 c = search key-ways

pub returns-in_default : goal.returns-in_default
returns-in_default c = search key-ways
