-- `machine::Registers::opposite` meets its contract: each way out is a step of the table.
use Rattle.machine.proofs.MakingLaws.{opposite-ways}
use Rattle.machine.proofs.Registers.opposite.Goals as goal

pub returns-in_err-key : goal.returns-in_err-key
returns-in_err-key c = search (opposite-ways, c.in_err-key.ensures)

pub returns-in_err-word : goal.returns-in_err-word
returns-in_err-word c = search (opposite-ways, c.in_ok-key.ensures, c.in_err-word.ensures)

pub returns-in_default : goal.returns-in_default
returns-in_default c = search (opposite-ways, c.in_ok-key.ensures, c.in_ok-word.ensures)

pub returns : goal.returns
returns c = search (opposite-ways, c.in_ok-key.ensures, c.in_ok-word.ensures)
