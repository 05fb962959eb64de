-- A refusal of 1, 3, 4 or 5 stays; else 6 and 7 are looked at.
use mathlib.Core.Path.{sym, ◌∙◌}
use Rattle.knowing.specs.Known.{known}
use Rattle.knowing.proofs.FindingLaws.{found_some, found_none}
use Rattle.engine.proofs.FoundLaws.{raised, pattern_refused, pattern_surveyed}
use Rattle.engine.proofs.checks.look_at_pattern.Goals as goal

pub survey-requires : goal.survey-requires
survey-requires c = found_none _ (sym c.in_ok-look.was ∙ c.look.ensures)

pub returns-in_err-look : goal.returns-in_err-look
returns-in_err-look c =
    raised c.from_residual.ensures.1
    ∙ pattern_refused c.args.create c.args.pattern.now c.args.kinds.now (known c.args.objects) (known c.args.named)
    (found_some _ (sym c.in_err-look.was ∙ c.look.ensures))

pub returns : goal.returns
returns c =
    c.survey.ensures
    ∙ pattern_surveyed c.args.create c.args.pattern.now c.args.kinds.now (known c.args.objects) (known c.args.named)
    (found_none _ (sym c.in_ok-look.was ∙ c.look.ensures))
