use Rattle.emission.proofs.InstructionLaws.{emitted_blindly}
use Rattle.emission.proofs.instructions.key_of.Goals as goal

pub returns : goal.returns
returns c = search (emitted_blindly)
