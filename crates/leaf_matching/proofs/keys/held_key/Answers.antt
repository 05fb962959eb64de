-- `leaf_matching::keys::held_key` meets its contract, a way out at a time.
use Rattle.walks.proofs.AskedLaws.{set_read, set_ends}
use Rattle.leaf_matching.proofs.KeyLaws.{held_key_unset, held_key_row}
use Rattle.leaf_matching.proofs.keys.held_key.Goals as goal

pub returns-in_err-known : goal.returns-in_err-known
returns-in_err-known c =
    let (e, ends) = set_ends c.args.row c.set_row.ensures c.asked_at.ensures c.in_err-known.was c.from_residual.ensures.1 in
    λ kind. rw ends (held_key_unset _ _ _ _ _ c.object_at.ensures kind e)

pub returns : goal.returns
returns c =
    let (is_row, read) = set_read c.args.row c.set_row.ensures c.asked_at.ensures c.object_at.ensures c.in_ok-known.was in
    λ kind. held_key_row _ _ _ _ _ read kind is_row _ c.meeting.ensures
