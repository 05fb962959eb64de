-- `execution::one` meets its contract: a good word is read, and its step is the word's.
use Rattle.execution.proofs.WordLaws.{operands}
use Rattle.execution.proofs.one.Goals as goal

pub step-requires-clause-t : goal.step-requires-clause-t
step-requires-clause-t c = operands _ _ c.requires.t c.instruction_of.ensures c.in-Some.is
