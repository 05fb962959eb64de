use native.Mathlib.Numerals.{add-one}
use Rattle.turns.proofs.record.session_after.Goals as goal

pub returns : goal.returns
returns c = rw add-one
