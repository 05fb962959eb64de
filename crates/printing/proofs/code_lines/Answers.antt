use native.Mathlib.Omega.{arith}
use lib.ListN.{length-take}
use Rattle.printing.proofs.NumberedLaws.{no_line, one_line}
use Rattle.printing.proofs.LineLaws.{code_numbered, code_end}
use Rattle.printing.proofs.code_lines.Goals as goal

pub loop-place-init : goal.loop-place-init
loop-place-init c = no_line code_numbered c.args.code.now _ _

pub code_line-next-requires : goal.code_line-next-requires
code_line-next-requires c =
    let few = length-take c.loop-place.place c.args.code.now in
    omega (arith, code_end _ c.loop-place.invariant (omega (arith, few)), few)

pub loop-place-preserved : goal.loop-place-preserved
loop-place-preserved c = one_line code_numbered c.args.code.now c.loop-place.place (omega arith) c.loop-place.invariant c.code_line-next.ensures
