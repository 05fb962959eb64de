use native.Mathlib.Omega.{arith}
use lib.ListN.{length-set}
use Rattle.word.proofs.ByteLaws.{sets_pair}
use Rattle.word.proofs.put_pair.Goals as goal

pub bounds-bytes-at-2 : goal.bounds-bytes-at-2
bounds-bytes-at-2 c = simp length-set (omega arith)

pub returns : goal.returns
returns c = sets_pair c.args.value c.args.bytes.now c.args.at c.ranges.value.fits
