use mathlib.Core.Path.{sym, ◌∙◌}
use native.Mathlib.Omega.{arith}
use lib.Seq.{get_or-take}
use Rattle.code.proofs.KindLaws.{kind_none}
use Rattle.operands.proofs.kind_at.Goals as goal

pub returns-then-v-lt-VARIABLES : goal.returns-then-v-lt-VARIABLES
returns-then-v-lt-VARIABLES c = c.kind_at.ensures ∙ sym (get_or-take 64 c.args.kinds.now c.args.v.0 0 c.if-v-lt-VARIABLES.true)

pub returns-else-v-lt-VARIABLES : goal.returns-else-v-lt-VARIABLES
returns-else-v-lt-VARIABLES c = kind_none c.args.kinds.now c.args.v.0 (omega arith)
