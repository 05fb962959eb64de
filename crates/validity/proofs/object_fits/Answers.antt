use Rattle.validity.proofs.object_fits.Goals as goal

pub returns : goal.returns
returns c = rw (c.undeclared_unset.ensures, c.cell_fits.ensures, c.is_set.ensures, c.tag_at.ensures)
