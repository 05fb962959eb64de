use native.Mathlib.Omega.{arith}
use Rattle.text.proofs.DigitLaws.{digits_end, ways}
use Rattle.text.proofs.+put_digits.Goals as goal

pub returns-then-most-eq0 : goal.returns-then-most-eq0
returns-then-most-eq0 t c = search ways

pub returns-then-n-lt10 : goal.returns-then-n-lt10
returns-then-n-lt10 t c = search ways

pub put_byte-requires-2 : goal.put_byte-requires-2
put_byte-requires-2 t c =
    omega (arith, digits_end _ _ c.put_digits-next.ensures, c.requires)

pub returns : goal.returns
returns t c = search ways
