-- `leaf_matching::stages::hashed` meets its contract, a way out at a time.
use Rattle.walks.proofs.AskedLaws.{set_read, set_ends}
use Rattle.leaf_matching.proofs.StageLaws.{hash_unset, hash_made}
use Rattle.leaf_matching.proofs.stages.hashed.Goals as goal

pub returns-in_err-body : goal.returns-in_err-body
returns-in_err-body c =
    let (e, ends) = set_ends c.args.row c.set_row.ensures c.asked_at.ensures c.in_err-body.was c.from_residual-in_err-body.ensures.1 in
    rw ends (hash_unset _ _ _ _ c.requires.r_lt_named_cells _ c.in_ok-walk.was _ c.message_at.ensures e)

pub returns : goal.returns
returns c =
    let (is_row, read) = set_read c.args.row c.set_row.ensures c.asked_at.ensures c.message_at.ensures c.in_ok-body.was in
    hash_made _ _ _ _ c.requires.r_lt_named_cells _ c.in_ok-walk.was _ read is_row c.hash.ensures c.make.ensures
