use Rattle.emission.proofs.InstructionLaws.{emitted}
use Rattle.emission.proofs.instructions.emit_reading.Goals as goal

pub returns : goal.returns
returns c = search (emitted)
