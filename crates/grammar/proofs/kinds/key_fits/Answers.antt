use Rattle.grammar.proofs.kinds.key_fits.Goals as goal

pub returns-then-create : goal.returns-then-create
returns-then-create c = rw (c.if-create.true, c.public_side.ensures)

pub returns-else-create : goal.returns-else-create
returns-else-create c = rw (c.if-create.false, c.private_side.ensures)
