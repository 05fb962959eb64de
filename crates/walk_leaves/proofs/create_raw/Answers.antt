-- `walk_leaves::create_raw` meets its contract, a way out at a time.
use Rattle.walks.proofs.AskedLaws.{set_read, set_ends}
use Rattle.walk_leaves.proofs.FormLaws.{raw_unset, raw_known}
use Rattle.walk_leaves.proofs.create_raw.Goals as goal

pub returns-in_err-message : goal.returns-in_err-message
returns-in_err-message c =
    let (e, ends) = set_ends c.args.row c.set_row.ensures c.asked_at.ensures c.in_err-message.was c.from_residual.ensures.1 in
    rw ends (raw_unset _ _ _ _ c.requires _ c.message_at.ensures e)

pub returns : goal.returns
returns c =
    let (is_row, read) = set_read c.args.row c.set_row.ensures c.asked_at.ensures c.message_at.ensures c.in_ok-message.was in
    raw_known _ _ _ _ c.requires _ read is_row _ c.meeting.ensures
