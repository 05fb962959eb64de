use Rattle.turns.proofs.checks.record_fits.Goals as goal

pub returns : goal.returns
returns c = rw (c.valid.ensures, c.cell_fits.ensures)
