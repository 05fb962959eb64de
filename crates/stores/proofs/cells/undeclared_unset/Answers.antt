use Rattle.stores.proofs.cells.undeclared_unset.Goals as goal

pub returns : goal.returns
returns c = rw c.is_set.ensures
