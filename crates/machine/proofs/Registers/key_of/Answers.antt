-- `machine::Registers::key_of` meets its contract: each way out is a step of the table.
use Rattle.machine.proofs.OpeningLaws.{key-of-ways}
use Rattle.machine.proofs.Registers.key_of.Goals as goal

pub returns-in_err-agent : goal.returns-in_err-agent
returns-in_err-agent c = search (key-of-ways, c.in_err-agent.ensures)

pub returns-in_err-key : goal.returns-in_err-key
returns-in_err-key c = search (key-of-ways, c.in_ok-agent.ensures, c.in_err-key.ensures)

pub returns : goal.returns
returns c = search (key-of-ways, c.in_ok-agent.ensures, c.in_ok-key.ensures)
