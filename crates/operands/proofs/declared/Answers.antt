use Rattle.code.proofs.KindLaws.{has_any, has_none}
use Rattle.operands.proofs.declared.Goals as goal

pub returns-then-kind-ge-BYTE : goal.returns-then-kind-ge-BYTE
returns-then-kind-ge-BYTE c =
    has_any c.args.kinds.now c.args.v c.kind_at-kind.result c.kind_at-kind.ensures c.if-kind-ge-BYTE.true

pub returns-else-kind-ge-BYTE : goal.returns-else-kind-ge-BYTE
returns-else-kind-ge-BYTE c =
    has_none c.args.kinds.now c.args.v c.kind_at-kind.result c.kind_at-kind.ensures c.if-kind-ge-BYTE.false
