-- The cycle of `create_row` meets its contracts: the row number falls at each child.
use Rattle.machine.specs.Machine.{slices}
use Rattle.walk_creating.proofs.PartLaws.{Gathered}
use Prim.Native.Nat.{◌+◌, ◌*◌}
use Rattle.walk_creating.proofs.+creating.Given as goal

abbrev pub decreases-create_encryption : goal.decreases-create_encryption
decreases-create_encryption l = 8 * l.row + 6

abbrev pub decreases-create_let : goal.decreases-create_let
decreases-create_let l = 8 * l.row + 6

abbrev pub decreases-create_row : goal.decreases-create_row
decreases-create_row l = 8 * l.row + 7

abbrev pub decreases-create_tuple : goal.decreases-create_tuple
decreases-create_tuple l = 8 * l.row + 6

abbrev pub invariant-create_tuple-loop-k : goal.invariant-create_tuple-loop-k
invariant-create_tuple-loop-k l =
    Gathered l.ground.rows.now l.ground.kinds.now l.word l.initial.here (slices l.initial.cells.objects l.initial.cells.named l.initial.terms l.ground.certificates.now) l.k l.parts l.here
    (slices l.cells.objects l.cells.named l.terms l.ground.certificates.now)
