-- The number of parts by each shape.
use native.Mathlib.Omega.{arith}
use Rattle.terms.proofs.ShapeLaws.{slots_keyed, slots_atom, slots-ways}
use Rattle.terms.proofs.row.used_slots.Goals as goal

pub returns-in-7 : goal.returns-in-7
returns-in-7 c = (slots_keyed _ _ c.tag-t.ensures (omega arith) (omega arith), omega arith)

pub returns-in-9 : goal.returns-in-9
returns-in-9 c = search slots-ways

pub returns-in-10 : goal.returns-in-10
returns-in-10 c = search slots-ways

pub returns-in_default : goal.returns-in_default
returns-in_default c = (slots_atom _ _ c.tag-t.ensures (λ low high. omega arith), omega arith)

pub returns-in_default-2 : goal.returns-in_default-2
returns-in_default-2 c = (slots_atom _ _ c.tag-t.ensures (λ low high. omega arith), omega arith)
