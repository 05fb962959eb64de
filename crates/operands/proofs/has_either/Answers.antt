use Rattle.code.proofs.KindLaws.{has_first, has_second}
use Rattle.operands.proofs.has_either.Goals as goal

pub returns-then-kind-first : goal.returns-then-kind-first
returns-then-kind-first c =
    has_first c.args.kinds.now c.args.v c.kind_at-kind.result c.kind_at-kind.ensures c.args.first c.args.second
    c.requires.0 c.requires.1 c.if-kind-first.true

pub returns-else-kind-first : goal.returns-else-kind-first
returns-else-kind-first c =
    has_second c.args.kinds.now c.args.v c.kind_at-kind.result c.kind_at-kind.ensures c.args.first c.args.second
    c.requires.0 c.requires.1 c.if-kind-first.false
