-- A part by its slot.
use Rattle.terms.proofs.FieldLaws.{part_at}
use Rattle.terms.proofs.row.part.Goals as goal

pub returns : goal.returns
returns c = part_at c.args.word c.args.slot c.requires
