-- `walks::making::make` meets its contract, a way out at a time.
use Rattle.walks.proofs.MakingLaws.{make-ways}
use Rattle.walks.proofs.making.make.Goals as goal

pub returns-in_default : goal.returns-in_default
returns-in_default c = search make-ways

pub returns : goal.returns
returns c = search make-ways
