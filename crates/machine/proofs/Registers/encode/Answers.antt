-- `machine::Registers::encode` meets its contract: each way out is a step of the table.
use Rattle.machine.proofs.MovingLaws.{encode-ways}
use Rattle.machine.proofs.Registers.encode.Goals as goal

pub returns-in_err-row : goal.returns-in_err-row
returns-in_err-row c = search (encode-ways, c.in_err-row.ensures)

pub returns : goal.returns
returns c = search (encode-ways, c.in_ok-row.ensures)
