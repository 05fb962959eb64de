-- `leaf_matching::stages::verified` meets its contract, a way out at a time.
use Rattle.walks.proofs.AskedLaws.{asked_given, asked_ends, set_read, set_ends}
use Rattle.leaf_matching.proofs.StageLaws.{stage_ended, verify_unset, verify_not, verify_holds}
use Rattle.leaf_matching.proofs.stages.verified.Goals as goal

pub returns-in_err-walk : goal.returns-in_err-walk
returns-in_err-walk c = stage_ended c.in_err-walk.was c.from_residual.ensures.1

pub returns-in_err-body : goal.returns-in_err-body
returns-in_err-body c =
    let (e, ends) = set_ends c.args.row c.set_row.ensures c.asked_at.ensures c.in_err-body.was c.from_residual-in_err-body.ensures.1 in
    rw ends (verify_unset _ _ _ _ c.requires _ _ c.in_ok-walk.was _ c.message_at.ensures e)

pub returns-in_err-asked_at : goal.returns-in_err-asked_at
returns-in_err-asked_at c =
    let (is_row, read) = set_read c.args.row c.set_row.ensures c.asked_at.ensures c.message_at.ensures c.in_ok-body.was in
    let (reason, refused, ends) = asked_ends c.args.row c.verify.result c.asked_at-2.ensures c.in_err-asked_at.was c.from_residual-in_err-asked_at.ensures.1 in
    rw ends (verify_not _ _ _ _ c.requires _ _ c.in_ok-walk.was _ read is_row c.verify.ensures _ refused)

pub returns : goal.returns
returns c =
    let (is_row, read) = set_read c.args.row c.set_row.ensures c.asked_at.ensures c.message_at.ensures c.in_ok-body.was in
    let holds = asked_given c.args.row c.verify.result c.asked_at-2.ensures c.in_ok-asked_at.was in
    verify_holds _ _ _ _ c.requires _ _ c.in_ok-walk.was _ read is_row c.verify.ensures holds
