use native.Mathlib.Omega.{arith}
use Rattle.text.proofs.LineLaws.{spaced_all, ways}
use Rattle.text.proofs.put_line.Goals as goal

pub put_byte-requires : goal.put_byte-requires
put_byte-requires c =
    let args = c.args in
    omega (arith, c.put_spaced-next.ensures.place, spaced_all args.numbers.now)

pub returns : goal.returns
returns c = search ways
