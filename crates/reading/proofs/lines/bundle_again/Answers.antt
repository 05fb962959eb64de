use mathlib.Core.Path.{sym, ◌∙◌}
use Rattle.reading.proofs.RereadingLaws.{not_opened, is_opened}
use Rattle.reading.proofs.lines.bundle_again.Goals as goal

pub kinds-kinds-requires : goal.kinds-kinds-requires
kinds-kinds-requires c = sym c.open.ensures ∙ c.in-Some.is

pub returns-in-None : goal.returns-in-None
returns-in-None c = not_opened _ _ (sym c.open.ensures ∙ c.in-None.is) c.refused.ensures

pub returns-in-Some : goal.returns-in-Some
returns-in-Some c =
    is_opened _ _ _ (sym c.open.ensures ∙ c.in-Some.is)
    c.kinds-kinds.ensures c.lines_again.ensures
