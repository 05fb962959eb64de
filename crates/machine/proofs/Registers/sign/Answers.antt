-- `machine::Registers::sign` meets its contract: each way out is a step of the table.
use Rattle.machine.proofs.MakingLaws.{sign-ways}
use Rattle.machine.proofs.Registers.sign.Goals as goal

pub returns-in_err-key : goal.returns-in_err-key
returns-in_err-key c = search (sign-ways, c.in_err-key.ensures)

pub returns-in_err-body : goal.returns-in_err-body
returns-in_err-body c = search (sign-ways, c.in_ok-key.ensures, c.in_err-body.ensures)

pub returns-in_default : goal.returns-in_default
returns-in_default c = search (sign-ways, c.in_ok-key.ensures, c.in_ok-body.ensures)

pub returns : goal.returns
returns c = search (sign-ways, c.in_ok-key.ensures, c.in_ok-body.ensures)
