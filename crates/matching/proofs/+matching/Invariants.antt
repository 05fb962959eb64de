use Prim.Native.Nat.{◌+◌, ◌*◌}
use Rattle.theory.specs.Compilers.{compile↓parts}
use Rattle.emission.proofs.PartLaws.{Walked}
use Rattle.matching.proofs.+matching.Given as goal

abbrev pub decreases-match_encryption : goal.decreases-match_encryption
decreases-match_encryption l = 8 * l.row + 6

abbrev pub decreases-match_let : goal.decreases-match_let
decreases-match_let l = 8 * l.row + 6

abbrev pub decreases-match_parts : goal.decreases-match_parts
decreases-match_parts l = 8 * l.row + 5

abbrev pub decreases-match_row : goal.decreases-match_row
decreases-match_row l = 8 * l.row + 7

abbrev pub decreases-match_tuple : goal.decreases-match_tuple
decreases-match_tuple l = 8 * l.row + 6

abbrev pub invariant-match_parts-loop-part : goal.invariant-match_parts-loop-part
invariant-match_parts-loop-part l = Walked compile↓parts l.rows l.row l.own l.initial.emission l.initial.code l.part-index l.emission l.code
