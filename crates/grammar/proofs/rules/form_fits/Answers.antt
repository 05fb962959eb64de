use Rattle.grammar.proofs.rules.form_fits.Goals as goal

pub returns : goal.returns
returns c =
    simp (
      c.all_below.ensures,
      c.key.ensures,
      c.key_form-2.ensures,
      c.spare.ensures,
      c.rest_zero.ensures,
      c.raw.ensures,
      c.y.ensures,
      c.byte.ensures,
      c.key_form.ensures,
      c.variable.ensures,
      c.slots-children.ensures,
      c.count-n.ensures,
    )
