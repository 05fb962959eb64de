-- `walks::keys::certified_key` meets its contract, a way out at a time.
use Rattle.walks.proofs.AskedLaws.{asked_given, asked_ends, set_given, set_ends}
use Rattle.walks.proofs.KeyLaws.{certified-ways}
use Rattle.walks.proofs.keys.certified_key.Goals as goal

pub returns-in_err-whose : goal.returns-in_err-whose
returns-in_err-whose c =
    let (e, ends) = set_ends c.args.row c.set_row.ensures c.asked_at.ensures c.in_err-whose.was c.from_residual.ensures.1 in
    rw ends (search certified-ways)

pub returns-in_err-found : goal.returns-in_err-found
returns-in_err-found c =
    let (is_row, same) = set_given c.args.row c.set_row.ensures c.asked_at.ensures c.in_ok-whose.was in
    let (reason, refused, ends) = asked_ends c.args.row c.key_of.result c.asked_at-2.ensures c.in_err-found.was c.from_residual-in_err-found.ensures.1 in
    let s = rw same at is_row in
    let says = rw same at c.key_of.ensures in
    rw ends (search certified-ways)

pub returns : goal.returns
returns c =
    let (is_row, same) = set_given c.args.row c.set_row.ensures c.asked_at.ensures c.in_ok-whose.was in
    let found = asked_given c.args.row c.key_of.result c.asked_at-2.ensures c.in_ok-found.was in
    let s = rw same at is_row in
    let says = rw same at c.key_of.ensures in
    search certified-ways
