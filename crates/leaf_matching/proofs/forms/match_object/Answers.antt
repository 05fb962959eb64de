-- `leaf_matching::forms::match_object` meets its contract, a way out at a time.
use Rattle.walks.proofs.AskedLaws.{set_given, set_ends}
use Rattle.leaf_matching.proofs.FormLaws.{object-ways}
use Rattle.leaf_matching.proofs.forms.match_object.Goals as goal

pub returns-then-known : goal.returns-then-known
returns-then-known c = search object-ways

pub returns-in_err-message : goal.returns-in_err-message
returns-in_err-message c =
    let (e, ends) = set_ends c.args.row c.set_row.ensures c.asked_at.ensures c.in_err-message.was c.from_residual.ensures.1 in
    rw ends (search object-ways)

pub returns : goal.returns
returns c =
    let (is_row, same) = set_given c.args.row c.set_row.ensures c.asked_at.ensures c.in_ok-message.was in
    let is_message = rw same at is_row in
    let compared = rw same at c.same_as.ensures in
    search object-ways
