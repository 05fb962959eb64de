-- `leaf_matching::forms::match_opposite` meets its contract, a way out at a time.
use Rattle.walks.proofs.AskedLaws.{set_given, set_ends}
use Rattle.leaf_matching.proofs.FormLaws.{opposite_no_message, opposite_same}
use Rattle.leaf_matching.proofs.forms.match_opposite.Goals as goal

pub returns-in_err-message : goal.returns-in_err-message
returns-in_err-message c =
    let (e, ends) = set_ends c.args.row c.set_row.ensures c.asked_at.ensures c.in_err-message.was c.from_residual.ensures.1 in
    rw ends (search opposite_no_message)

pub returns : goal.returns
returns c =
    let (is_row, same) = set_given c.args.row c.set_row.ensures c.asked_at.ensures c.in_ok-message.was in
    λ kind. opposite_same _ _ _ _ _ _ kind (rw same at is_row) c.opposite_of-kept.ensures (rw same at c.same_as.ensures)
