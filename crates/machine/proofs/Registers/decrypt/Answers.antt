-- `machine::Registers::decrypt` meets its contract: each way out is a step of the table.
use Rattle.machine.proofs.OpeningLaws.{decrypt-ways}
use Rattle.machine.proofs.Registers.decrypt.Goals as goal

pub returns-in_err-key : goal.returns-in_err-key
returns-in_err-key c = search (decrypt-ways, c.in_err-key.ensures)

pub returns-in_err-sealed : goal.returns-in_err-sealed
returns-in_err-sealed c = search (decrypt-ways, c.in_ok-key.ensures, c.in_err-sealed.ensures)

pub returns-in_err-body : goal.returns-in_err-body
returns-in_err-body c = search (decrypt-ways, c.in_ok-key.ensures, c.in_ok-sealed.ensures, c.in_err-body.ensures)

pub returns : goal.returns
returns c = search (decrypt-ways, c.in_ok-key.ensures, c.in_ok-sealed.ensures, c.in_ok-body.ensures)
