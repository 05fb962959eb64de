use Prim.Native.Nat.{◌+◌, ◌*◌}
use Rattle.surveys.proofs.PartLaws.{PartsLooked}
use Rattle.surveys.proofs.+surveying.Given as goal

abbrev pub decreases-survey_encryption : goal.decreases-survey_encryption
decreases-survey_encryption l = 8 * l.row + 6

abbrev pub decreases-survey_let : goal.decreases-survey_let
decreases-survey_let l = 8 * l.row + 6

abbrev pub decreases-survey_parts : goal.decreases-survey_parts
decreases-survey_parts l = 8 * l.row + 5

abbrev pub decreases-survey_row : goal.decreases-survey_row
decreases-survey_row l = 8 * l.row + 7

abbrev pub decreases-survey_tuple : goal.decreases-survey_tuple
decreases-survey_tuple l = 8 * l.row + 6

abbrev pub invariant-survey_parts-loop-child : goal.invariant-survey_parts-loop-child
invariant-survey_parts-loop-child l = PartsLooked l.create l.rows l.kinds l.children l.initial.emission l.child-index l.emission
