-- The rules one after another: each joins what was found so far.
use mathlib.Core.Path.{◌≡◌, refl, ◌∙◌}
use mathlib.Core.Bool.{◌&&◌}
use Rattle.terms.specs.Row.{shape_of}
use Rattle.terms.specs.Rules.{known_tag, is_packed, parts_below}
use Rattle.tables.proofs.RuleLaws.{and_more, and_kept}
use Rattle.tables.proofs.owner_fits.Goals.{then-has_shape, else-has_shape}
use Rattle.tables.proofs.owner_fits.Goals as goal

pub returns-then-parts_below : goal.returns-then-parts_below
returns-then-parts_below c =
    let joined : c.if-has_shape.value ≡ known_tag c.args.word && is_packed c.args.word && parts_below c.args.row (shape_of c.args.word) =
    elim c.if-has_shape.branch [
      | then-has_shape w ↦ and_more c.has_shape.ensures w.if-has_shape.true (w.value-is ∙ w.parts_below.ensures)
      | else-has_shape w ↦ and_kept _ c.has_shape.ensures w.if-has_shape.false w.value-is
    ] in
    and_more joined c.if-parts_below.true c.key_kind_fits.ensures

pub returns-else-parts_below : goal.returns-else-parts_below
returns-else-parts_below c =
    let joined : c.if-has_shape.value ≡ known_tag c.args.word && is_packed c.args.word && parts_below c.args.row (shape_of c.args.word) =
    elim c.if-has_shape.branch [
      | then-has_shape w ↦ and_more c.has_shape.ensures w.if-has_shape.true (w.value-is ∙ w.parts_below.ensures)
      | else-has_shape w ↦ and_kept _ c.has_shape.ensures w.if-has_shape.false w.value-is
    ] in
    and_kept _ joined c.if-parts_below.false refl
