-- The words come to the slice's part.
use native.Mathlib.Nat.{one-mul}
use native.Mathlib.Omega.{arith}
use Rattle.role_writing.proofs.UnitLaws.{part_written}
use Rattle.role_writing.proofs.word_units.AnyWordUnit.put.Goals as goal

pub returns : goal.returns
returns g c =
    let a = c.args in
    rw (c.copy_from_slice.ensures.after, one-mul) (part_written a.place _ a.units.now a.words.now (omega arith) (omega (arith, c.requires)))
