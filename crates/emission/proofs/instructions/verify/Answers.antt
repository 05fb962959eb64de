use Rattle.emission.proofs.InstructionLaws.{emitted_twice}
use Rattle.emission.proofs.instructions.verify.Goals as goal

pub returns : goal.returns
returns c = search (emitted_twice)
