use Rattle.validity.proofs.tag_at.Goals as goal

pub returns : goal.returns
returns c = rw (c.tag.ensures, c.row_at.ensures)
