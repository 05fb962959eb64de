use Rattle.layout.proofs.KindLaws.{creatable_is}
use Rattle.layout.proofs.creatable_kind.Goals as goal

pub returns : goal.returns
returns c = creatable_is _
