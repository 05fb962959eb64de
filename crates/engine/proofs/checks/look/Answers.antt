-- The pattern's refusals, then those of the stores.
use mathlib.Core.Path.{sym, ◌∙◌}
use Rattle.calls.specs.Run.{Lent}
use Rattle.calls.specs.Direct.{refused_as}
use Rattle.knowing.proofs.FindingLaws.{found_some, found_none}
use Rattle.engine.proofs.FoundLaws.{lent, mapped_ok, mapped_err, raised, looked_refused, looked_stores}
use Rattle.engine.proofs.checks.look.Goals as goal

pub returns-in_err-map_err : goal.returns-in_err-map_err
returns-in_err-map_err c =
    let x : Lent = lent c.args.kinds.now c.args.objects.now c.args.named.now c.args.certificates.now c.args.accumulator c.args.terms.now c.args.counter in
    let (answer, found, same) = mapped_err refused_as c.map_err.result c.look_at_pattern.result c.map_err.ensures.cases c.in_err-map_err.was in
    raised c.from_residual.ensures.1
    ∙ looked_refused c.args.create c.args.pattern.now x c.requires _ _ c.set_cells-set_objects.ensures c.set_cells-set_named.ensures
    (found_some _ (sym found ∙ c.look_at_pattern.ensures)) same

pub returns : goal.returns
returns c =
    let x : Lent = lent c.args.kinds.now c.args.objects.now c.args.named.now c.args.certificates.now c.args.accumulator c.args.terms.now c.args.counter in
    let found = mapped_ok refused_as c.map_err.result c.look_at_pattern.result c.map_err.ensures.cases c.in_ok-map_err.was in
    looked_stores c.args.create c.args.pattern.now x c.requires _ _ c.set_cells-set_objects.ensures c.set_cells-set_named.ensures
    (found_none _ (sym found ∙ c.look_at_pattern.ensures)) c.look_at_stores.ensures
