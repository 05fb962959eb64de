use mathlib.Core.Path.{sym}
use borrow.Author.Tests.{lt-ltb, le-ltb}
use Rattle.knowing.specs.Known.{known}
use Rattle.knowing.proofs.is_known.Goals as goal

pub returns-then-v-lt-VARIABLES : goal.returns-then-v-lt-VARIABLES
unfolding known
returns-then-v-lt-VARIABLES c = sym (simp (lt-ltb _ _ c.if-v-lt-VARIABLES.true))

pub returns-else-v-lt-VARIABLES : goal.returns-else-v-lt-VARIABLES
unfolding known
returns-else-v-lt-VARIABLES c = sym (simp (le-ltb _ _ c.if-v-lt-VARIABLES.false))
