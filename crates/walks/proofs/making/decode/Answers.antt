-- `walks::making::decode` meets its contract, a way out at a time.
use Rattle.walks.proofs.AskedLaws.{asked_given, asked_ends, set_given, set_ends}
use Rattle.walks.proofs.MakingLaws.{decode-ways}
use Rattle.walks.proofs.making.decode.Goals as goal

pub returns-then-known : goal.returns-then-known
returns-then-known c = search decode-ways

pub returns-in_err-message : goal.returns-in_err-message
returns-in_err-message c =
    let (e, ends) = set_ends c.args.row c.set_row.ensures c.asked_at.ensures c.in_err-message.was c.from_residual.ensures.1 in
    rw ends (search decode-ways)

pub returns-in_err-asked_at : goal.returns-in_err-asked_at
returns-in_err-asked_at c =
    let (is_row, same) = set_given c.args.row c.set_row.ensures c.asked_at.ensures c.in_ok-message.was in
    let (reason, refused, ends) = asked_ends c.args.row c.is_kind.result c.asked_at-2.ensures c.in_err-asked_at.was c.from_residual-in_err-asked_at.ensures.1 in
    let s = rw same at is_row in
    let tests = rw same at c.is_kind.ensures.says in
    rw ends (search decode-ways)

pub returns : goal.returns
returns c =
    let (is_row, same) = set_given c.args.row c.set_row.ensures c.asked_at.ensures c.in_ok-message.was in
    let holds = asked_given c.args.row c.is_kind.result c.asked_at-2.ensures c.in_ok-asked_at.was in
    let s = rw same at is_row in
    let tests = rw same at c.is_kind.ensures.says in
    let put = rw same at c.set_object.ensures in
    search decode-ways
