use native.Mathlib.Omega.{arith}
use Rattle.text.proofs.WrittenLaws.{wrote_more}
use Rattle.text.proofs.put_bytes.Goals as goal

pub loop-byte-preserved : goal.loop-byte-preserved
loop-byte-preserved c =
    let wrote = c.put_byte-next.ensures in
    (omega (arith, wrote.place), wrote_more c.args.bytes.now c.loop-byte.byte-index (omega arith) c.loop-byte.invariant.1 wrote)
