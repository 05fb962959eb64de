-- `machine::Registers::create_tuple` meets its contract: after i turns the first i cells are gathered.
use Rattle.machine.proofs.TupleLaws.{Gathered}
use Rattle.machine.proofs.Registers.create_tuple.Given as goal

abbrev pub invariant-loop-i : goal.invariant-loop-i
invariant-loop-i l = Gathered l.messages l.from l.parts l.i
