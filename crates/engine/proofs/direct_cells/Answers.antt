-- A refusal leaves what is lent; otherwise the walk says what is left.
use mathlib.Core.Path.{sym, ◌∙◌}
use Rattle.engine.proofs.DirectLaws.{direct_refused, direct_walkable, direct_walked}
use Rattle.engine.proofs.direct_cells.Goals as goal

pub walk-requires : goal.walk-requires
walk-requires c =
    direct_walkable _ _ _ (sym c.in-Ok.is ∙ c.look-looked.ensures)

pub returns-in-Err : goal.returns-in-Err
returns-in-Err c =
    direct_refused _ _ _ (sym c.in-Err.is ∙ c.look-looked.ensures)

pub returns-in-Ok : goal.returns-in-Ok
returns-in-Ok c =
    direct_walked _ _ _
    (sym c.in-Ok.is ∙ c.look-looked.ensures) c.walk.ensures
