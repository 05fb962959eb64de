-- `machine::Registers::store_const` meets its contract: each way out is a step of the table.
use Rattle.machine.proofs.MakingLaws.{store-const-ways}
use Rattle.machine.proofs.Registers.store_const.Goals as goal

pub returns-in_default : goal.returns-in_default
returns-in_default c = search store-const-ways

pub returns : goal.returns
returns c = search store-const-ways
