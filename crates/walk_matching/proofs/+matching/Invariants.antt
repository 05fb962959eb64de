use Prim.Native.Nat.{◌+◌, ◌*◌}
use Rattle.numbers.specs.Kinds.{kind_in}
use Rattle.machine.specs.Machine.{slices}
use Rattle.walk_matching.proofs.WalkLaws.{PartsMatched}
use Rattle.walk_matching.proofs.+matching.Given as goal

abbrev pub decreases-match_encryption : goal.decreases-match_encryption
decreases-match_encryption l = 8 * l.row + 6

abbrev pub decreases-match_let : goal.decreases-match_let
decreases-match_let l = 8 * l.row + 6

abbrev pub decreases-match_row : goal.decreases-match_row
decreases-match_row l = 8 * l.row + 7

abbrev pub decreases-match_tuple : goal.decreases-match_tuple
decreases-match_tuple l = 8 * l.row + 6

abbrev pub invariant-match_tuple-loop-slot : goal.invariant-match_tuple-loop-slot
invariant-match_tuple-loop-slot l =
    PartsMatched l.ground.rows.now (kind_in l.ground.kinds.now) l.child-items l.parts l.initial.here
    (slices l.initial.cells.objects l.initial.cells.named l.initial.terms l.ground.certificates.now) l.slot l.here
    (slices l.cells.objects l.cells.named l.terms l.ground.certificates.now)
