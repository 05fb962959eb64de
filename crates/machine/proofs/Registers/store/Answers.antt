-- `machine::Registers::store` meets its contract: each way out is a step of the table.
use Rattle.machine.proofs.MovingLaws.{store-ways}
use Rattle.machine.proofs.Registers.store.Goals as goal

pub returns-in_err-row : goal.returns-in_err-row
returns-in_err-row c = search (store-ways, c.in_err-row.ensures)

pub returns : goal.returns
returns c = search (store-ways, c.in_ok-row.ensures)
