-- `machine::Registers::decode` meets its contract: each way out is a step of the table.
use Rattle.machine.proofs.MovingLaws.{decode-ways}
use Rattle.machine.proofs.Registers.decode.Goals as goal

pub returns-in_err-row : goal.returns-in_err-row
returns-in_err-row c = search (decode-ways, c.in_err-row.ensures)

pub returns-in_err-is_kind : goal.returns-in_err-is_kind
returns-in_err-is_kind c = search (decode-ways, c.in_ok-row.ensures, c.in_err-is_kind.ensures)

pub returns : goal.returns
returns c = search (decode-ways, c.in_ok-row.ensures, c.in_ok-is_kind.ensures)
