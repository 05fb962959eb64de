-- `leaf_matching::stages::opened_by` meets its contract, a way out at a time.
use Rattle.walks.proofs.AskedLaws.{asked_given, asked_ends, set_read, set_ends}
use Rattle.leaf_matching.proofs.StageLaws.{open_unset, open_not, open_row}
use Rattle.leaf_matching.proofs.stages.opened_by.Goals as goal

pub returns-in_err-known : goal.returns-in_err-known
returns-in_err-known c =
    let (e, ends) = set_ends c.args.row c.set_row.ensures c.asked_at.ensures c.in_err-known.was c.from_residual-in_err-known.ensures.1 in
    rw ends (open_unset _ _ _ _ _ c.in_ok-walk.was _ c.object_at.ensures e)

pub returns-in_err-body : goal.returns-in_err-body
returns-in_err-body c =
    let (is_row, read) = set_read c.args.row c.set_row.ensures c.asked_at.ensures c.object_at.ensures c.in_ok-known.was in
    let (reason, refused, ends) = asked_ends c.args.row c.decrypt.result c.asked_at-2.ensures c.in_err-body.was c.from_residual-in_err-body.ensures.1 in
    rw ends (open_not _ _ _ _ _ c.in_ok-walk.was _ read is_row c.decrypt.ensures _ refused)

pub returns : goal.returns
returns c =
    let (is_row, read) = set_read c.args.row c.set_row.ensures c.asked_at.ensures c.object_at.ensures c.in_ok-known.was in
    let opened = asked_given c.args.row c.decrypt.result c.asked_at-2.ensures c.in_ok-body.was in
    open_row _ _ _ _ _ c.in_ok-walk.was _ read is_row c.decrypt.ensures _ _ opened c.meeting.ensures
