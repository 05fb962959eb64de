use Rattle.stores.specs.Valid.{valid}
use Rattle.validity.proofs.valid.Goals as goal

pub returns : goal.returns
unfolding valid
returns c =
    rw (
      c.kinds_fit.ensures,
      c.objects_fit.ensures,
      c.cells_fit.ensures,
      c.pairs_fit.ensures,
      c.agents_once.ensures,
      c.cell_fits.ensures,
    )
