-- `machine::Registers::create` meets its contract: each way out is a step of the table.
use Rattle.machine.proofs.MakingLaws.{create-ways}
use Rattle.machine.proofs.Registers.create.Goals as goal

pub returns-in_default : goal.returns-in_default
returns-in_default c = search create-ways

pub returns-in_default-find : goal.returns-in_default-find
returns-in_default-find c = search create-ways

pub returns : goal.returns
returns c = search create-ways
