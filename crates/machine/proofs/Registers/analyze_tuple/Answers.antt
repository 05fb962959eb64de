-- `machine::Registers::analyze_tuple` meets its contract: each way out is a step of the table.
use Rattle.machine.proofs.TupleLaws.{analyze-ways}
use Rattle.machine.proofs.Registers.analyze_tuple.Goals as goal

pub returns-in_err-row : goal.returns-in_err-row
returns-in_err-row c = search (analyze-ways, c.in_err-row.ensures)

pub returns-in_err-word : goal.returns-in_err-word
returns-in_err-word c = search (analyze-ways, c.in_ok-row.ensures, c.in_err-word.ensures)

pub returns : goal.returns
returns c = search (analyze-ways, c.in_ok-row.ensures, c.in_ok-word.ensures)
