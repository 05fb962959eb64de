-- `leaf_matching::keys::opposite_of` meets its contract, a way out at a time.
use Rattle.walks.proofs.AskedLaws.{set_read, set_ends}
use Rattle.leaf_matching.proofs.KeyLaws.{opposed-ways}
use Rattle.leaf_matching.proofs.keys.opposite_of.Goals as goal

pub returns-in_err-key : goal.returns-in_err-key
returns-in_err-key c =
    let (e, ends) = set_ends c.args.row c.set_row.ensures c.asked_at.ensures c.in_err-key.was c.from_residual.ensures.1 in
    rw ends (search opposed-ways)

pub returns : goal.returns
returns c =
    let (is_row, read) = set_read c.args.row c.set_row.ensures c.asked_at.ensures c.object_at.ensures c.in_ok-key.was in
    search opposed-ways
