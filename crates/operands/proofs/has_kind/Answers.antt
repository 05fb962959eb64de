use Rattle.code.proofs.KindLaws.{has_one}
use Rattle.operands.proofs.has_kind.Goals as goal

pub returns : goal.returns
returns c =
    has_one c.args.kinds.now c.args.v c.kind_at.result c.kind_at.ensures c.args.kind c.requires
