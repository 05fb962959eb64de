-- `leaf_matching::stages::agent_key` meets its contract, a way out at a time.
use Rattle.walks.proofs.AskedLaws.{asked_given, asked_ends, set_read, set_ends}
use Rattle.leaf_matching.proofs.StageLaws.{agent_unset, agent_not, agent_row}
use Rattle.leaf_matching.proofs.stages.agent_key.Goals as goal

pub returns-in_err-whose : goal.returns-in_err-whose
returns-in_err-whose c =
    let (e, ends) = set_ends c.args.row c.set_row.ensures c.asked_at.ensures c.in_err-whose.was c.from_residual-in_err-whose.ensures.1 in
    rw ends (agent_unset _ _ _ _ _ c.in_ok-walk.was _ c.object_at.ensures e)

pub returns-in_err-key : goal.returns-in_err-key
returns-in_err-key c =
    let (is_row, read) = set_read c.args.row c.set_row.ensures c.asked_at.ensures c.object_at.ensures c.in_ok-whose.was in
    let (reason, refused, ends) = asked_ends c.args.row c.key_of.result c.asked_at-2.ensures c.in_err-key.was c.from_residual-in_err-key.ensures.1 in
    rw ends (agent_not _ _ _ _ _ c.in_ok-walk.was _ read is_row c.key_of.ensures _ refused)

pub returns : goal.returns
returns c =
    let (is_row, read) = set_read c.args.row c.set_row.ensures c.asked_at.ensures c.object_at.ensures c.in_ok-whose.was in
    let found = asked_given c.args.row c.key_of.result c.asked_at-2.ensures c.in_ok-key.was in
    agent_row _ _ _ _ _ c.in_ok-walk.was _ read is_row c.key_of.ensures _ _ found c.meeting.ensures
