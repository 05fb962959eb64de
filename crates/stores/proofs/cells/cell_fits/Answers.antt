use Rattle.stores.proofs.cells.cell_fits.Goals as goal

pub returns : goal.returns
returns c = rw c.is_set.ensures
