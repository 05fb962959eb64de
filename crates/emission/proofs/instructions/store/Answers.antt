use Rattle.emission.proofs.InstructionLaws.{emitted}
use Rattle.emission.proofs.instructions.store.Goals as goal

pub returns : goal.returns
returns c = search (emitted)
