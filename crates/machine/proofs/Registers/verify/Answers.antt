-- `machine::Registers::verify` meets its contract: each way out is a step of the table.
use Rattle.machine.proofs.OpeningLaws.{verify-ways}
use Rattle.machine.proofs.Registers.verify.Goals as goal

pub returns-in_err-key : goal.returns-in_err-key
returns-in_err-key c = search (verify-ways, c.in_err-key.ensures)

pub returns-in_err-body : goal.returns-in_err-body
returns-in_err-body c = search (verify-ways, c.in_ok-key.ensures, c.in_err-body.ensures)

pub returns-in_err-signature : goal.returns-in_err-signature
returns-in_err-signature c = search (verify-ways, c.in_ok-key.ensures, c.in_ok-body.ensures, c.in_err-signature.ensures)

pub returns-in_err-verify : goal.returns-in_err-verify
returns-in_err-verify c = search (verify-ways, c.in_ok-key.ensures, c.in_ok-body.ensures, c.in_ok-signature.ensures, c.in_err-verify.ensures)

pub returns : goal.returns
returns c = search (verify-ways, c.in_ok-key.ensures, c.in_ok-body.ensures, c.in_ok-signature.ensures, c.in_ok-verify.ensures)
