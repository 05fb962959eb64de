-- The words' bytes come to the slice's part.
use Prim.Native.Nat.{◌*◌}
use native.Mathlib.Omega.{arith}
use Rattle.word.specs.Bytes.{spelled}
use Rattle.word.proofs.ByteLaws.{length_spelled}
use Rattle.role_writing.proofs.UnitLaws.{part_written}
use Rattle.role_writing.proofs.word_units.U8WordUnitU32.put.Goals as goal

pub returns : goal.returns
returns c =
    let a = c.args in
    let long = length_spelled 4 a.words.now in
    rw c.pack_quads.ensures (part_written (4 * a.place) _ a.units.now (spelled 4 a.words.now) (omega (arith, long)) (omega (arith, long, c.requires)))
