use mathlib.Core.Path.{sym, ◌∙◌}
use Rattle.outcomes.proofs.GivenLaws.{not_opened, is_opened}
use Rattle.outcomes.proofs.given.Goals as goal

pub returns-in_default : goal.returns-in_default
returns-in_default c =
    let args = c.args in
    not_opened _ args.code.now args.objects.now args.messages.now args.rows.now (sym c.open.ensures ∙ c.in_default.is)

pub given_by_bundle-requires : goal.given_by_bundle-requires
given_by_bundle-requires c = (sym c.open.ensures ∙ c.in-Some.is, c.requires.0, c.requires.1, c.requires.2, c.requires.3)

pub returns : goal.returns
returns c =
    let args = c.args in
    is_opened _ _ args.code.now args.objects.now args.messages.now args.rows.now (sym c.open.ensures ∙ c.in-Some.is) c.given_by_bundle.ensures
