-- Where n is at most the length, the first n words are n in number.
use mathlib.Core.Path.{sym, refl}
use native.Mathlib.Omega.{arith}
use lib.Seq.{length-take-le}
use Rattle.delivery.proofs.DeliveryLaws.{part_fits, part_short}
use Rattle.delivery.proofs.used.Goals as goal

pub returns-then-n-code : goal.returns-then-n-code
returns-then-n-code c = (part_fits c.args.n c.args.code.now (omega (arith, c.if-n-code.true)), refl)

pub returns-else-n-code : goal.returns-else-n-code
returns-else-n-code c = (part_short c.args.n c.args.code.now (omega (arith, c.if-n-code.false)), refl)
