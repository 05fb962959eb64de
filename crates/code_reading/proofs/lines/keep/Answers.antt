use mathlib.Core.Path.{sym}
use lib.Seq.{set_out}
use Rattle.code_reading.proofs.lines.keep.Goals as goal

pub returns-else-at-words : goal.returns-else-at-words
returns-else-at-words c = sym (set_out _ _ _ c.if-at-words.false)
