-- `walks::keys::opposite_key` meets its contract, a way out at a time.
use Rattle.walks.proofs.KeyLaws.{opposite-ways}
use Rattle.walks.proofs.AskedLaws.{asked_given, asked_ends}
use Rattle.walks.proofs.keys.opposite_key.Goals as goal

pub returns-then-known : goal.returns-then-known
returns-then-known c = search opposite-ways

pub returns-in_err-word : goal.returns-in_err-word
returns-in_err-word c =
    let (reason, refused, ends) = asked_ends c.args.row c.opposite.result c.asked_at.ensures c.in_err-word.was c.from_residual.ensures.1 in
    rw ends (search opposite-ways)

pub returns : goal.returns
returns c = let given = asked_given c.args.row c.opposite.result c.asked_at.ensures c.in_ok-word.was in search opposite-ways
