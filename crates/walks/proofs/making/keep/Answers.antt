-- `walks::making::keep` meets its contract, a way out at a time.
use Rattle.walks.proofs.MakingLaws.{keep-ways}
use Rattle.walks.proofs.making.keep.Goals as goal

pub returns-in_default : goal.returns-in_default
returns-in_default c = search keep-ways

pub returns : goal.returns
returns c = search keep-ways
