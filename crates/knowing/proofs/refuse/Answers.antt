use Rattle.knowing.specs.Meets.{refusing}
use Rattle.knowing.proofs.refuse.Goals as goal

pub returns : goal.returns
unfolding refusing
returns c = rw c.or-emission.ensures
