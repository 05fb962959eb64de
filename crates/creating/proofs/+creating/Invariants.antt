use Rattle.emission.proofs.PartLaws.{Walked}
use Rattle.creating.specs.Creates.{parts_code}
use Prim.Native.Nat.{◌+◌, ◌*◌}
use Rattle.creating.proofs.+creating.Given as goal

abbrev pub decreases-create_encryption : goal.decreases-create_encryption
decreases-create_encryption l = 8 * l.row + 6

abbrev pub decreases-create_let : goal.decreases-create_let
decreases-create_let l = 8 * l.row + 6

abbrev pub decreases-create_parts : goal.decreases-create_parts
decreases-create_parts l = 8 * l.row + 5

abbrev pub decreases-create_row : goal.decreases-create_row
decreases-create_row l = 8 * l.row + 7

abbrev pub decreases-create_tuple : goal.decreases-create_tuple
decreases-create_tuple l = 8 * l.row + 6

abbrev pub invariant-create_parts-loop-part : goal.invariant-create_parts-loop-part
invariant-create_parts-loop-part l = Walked (parts_code l.kinds) l.rows l.row l.own l.initial.emission l.initial.code l.part-index l.emission l.code
