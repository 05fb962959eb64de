-- `walk_leaves::create_hash` meets its contract, a way out at a time.
use Rattle.walks.proofs.AskedLaws.{set_read, set_ends}
use Rattle.walk_leaves.proofs.FormLaws.{hash_unset, hash_sealed}
use Rattle.walk_leaves.proofs.create_hash.Goals as goal

pub returns-in_err-body : goal.returns-in_err-body
returns-in_err-body c =
    let (e, ends) = set_ends c.args.row c.set_row.ensures c.asked_at.ensures c.in_err-body.was c.from_residual.ensures.1 in
    rw ends (hash_unset _ _ _ _ c.requires.h_in_bounds.1 _ c.message_at.ensures _ _ _ _ e)

pub returns : goal.returns
returns c =
    let (is_row, read) = set_read c.args.row c.set_row.ensures c.asked_at.ensures c.message_at.ensures c.in_ok-body.was in
    hash_sealed _ _ _ _ c.requires.h_in_bounds.1 _ read _ _ _ _ is_row _ c.hash.ensures c.seal.ensures
