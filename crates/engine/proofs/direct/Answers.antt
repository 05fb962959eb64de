-- The engine on copies of the cells, which are copied back.
use Rattle.calls.specs.Run.{Lent}
use Rattle.engine.proofs.DirectLaws.{direct_limit, direct_back}
use Rattle.engine.proofs.FoundLaws.{lent}
use Rattle.engine.proofs.direct.Goals as goal

pub returns-then-objects-ne-VARIABLES : goal.returns-then-objects-ne-VARIABLES
returns-then-objects-ne-VARIABLES c =
    let x : Lent = lent c.args.kinds.now c.args.objects.now c.args.named.now c.args.certificates.now c.args.accumulator c.args.terms.now c.args.counter in
    let short = c.then-objects-ne-VARIABLES.either in
    direct_limit _ _ x short

pub returns : goal.returns
returns c = direct_back _ _ _ c.copied.ensures c.copied-2.ensures c.direct_cells-left.ensures c.copy_from_slice.ensures.after c.copy_from_slice-2.ensures.after
