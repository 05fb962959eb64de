use mathlib.Core.Path.{◌∙◌}
use Rattle.patterns.specs.Row.{pattern_fields}
use Rattle.word.proofs.OneOfLaws.{one_of_pair}
use Rattle.patterns.proofs.KindLaws.{plain_else}
use Rattle.grammar.proofs.kinds.private_side.Goals as goal

pub returns-in-1 : goal.returns-in-1
returns-in-1 c = rw (← c.key_form-form.ensures, c.in-1.is)

pub returns-in-2 : goal.returns-in-2
returns-in-2 c = rw (← c.key_form-form.ensures, c.in-2.is)

pub returns-in_default : goal.returns-in_default
returns-in_default c =
    let form = c.key_form-form.ensures in
    one_of_pair c.kind_at-key.result 5 6 ∙ rw (
      plain_else (pattern_fields c.args.word)
          (λ op. c.in_default.in_default-own.rest.0.1 (form ∙ op)) (λ own. c.in_default.in_default-own.rest.1 (form ∙ own)),
      c.kind_at-key.ensures,
      c.key.ensures,
    )
