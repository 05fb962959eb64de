use mathlib.Core.Path.{◌∙◌, ap}
use native.Mathlib.Omega.{arith}
use Rattle.word.proofs.ByteLaws.{filled}
use Rattle.lending.specs.RoundEntry.{session_of}
use Rattle.lending.proofs.sessions.unpack.Goals as goal

pub returns : goal.returns
returns c = ap session_of (c.unpack_quads.ensures ∙ filled 4 c.args.bytes.now _ (omega arith))
