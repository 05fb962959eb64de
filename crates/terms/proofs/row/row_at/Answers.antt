-- Past the end a list reads as zero.
use mathlib.Core.Path.{sym}
use lib.ListN.{get_or-eq_default}
use Rattle.terms.proofs.row.row_at.Goals as goal

pub returns-else-i-rows : goal.returns-else-i-rows
returns-else-i-rows c = sym (get_or-eq_default c.args.rows.now 0 c.if-i-rows.false)
