-- A byte, an agent, a row with parts, and any other number.
use native.Mathlib.Omega.{arith}
use Rattle.tables.proofs.RuleLaws.{number_name, number-ways}
use Rattle.tables.proofs.number_fits.Goals.{in_default-via-then-t-lt7, in_default-via-else-t-lt7+else-t-lt11}
use Rattle.tables.proofs.number_fits.Goals as goal

pub returns-in-1 : goal.returns-in-1
returns-in-1 c = search number-ways

pub returns-in_default : goal.returns-in_default
returns-in_default c =
    let a = c.args in
    let rest = c.in_default-1.rest in
    number_name a.word _ c.tag-t.ensures a.counter _ rest.0.1 rest.1
    (λ low high. elim c.in_default.branch [ in_default-via-then-t-lt7 w ↦ omega arith | in_default-via-else-t-lt7+else-t-lt11 w ↦ omega arith ]) c.number-in_default.ensures

pub returns-in-3 : goal.returns-in-3
returns-in-3 c = search number-ways

pub returns-in-3-2 : goal.returns-in-3-2
returns-in-3-2 c = search number-ways
