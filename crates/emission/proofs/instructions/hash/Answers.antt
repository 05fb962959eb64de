use Rattle.emission.proofs.InstructionLaws.{emitted_blindly}
use Rattle.emission.proofs.instructions.hash.Goals as goal

pub returns : goal.returns
returns c = search (emitted_blindly)
