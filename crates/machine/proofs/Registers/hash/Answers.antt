-- `machine::Registers::hash` meets its contract: each way out is a step of the table.
use Rattle.machine.proofs.MakingLaws.{hash-ways}
use Rattle.machine.proofs.Registers.hash.Goals as goal

pub returns-in_err-body : goal.returns-in_err-body
returns-in_err-body c = search (hash-ways, c.in_err-body.ensures)

pub returns-in_default : goal.returns-in_default
returns-in_default c = search (hash-ways, c.in_ok-body.ensures)

pub returns : goal.returns
returns c = search (hash-ways, c.in_ok-body.ensures)
