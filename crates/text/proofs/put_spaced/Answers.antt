use native.Mathlib.Omega.{arith}
use Rattle.text.proofs.LineLaws.{no_numbers, one_number, gap_most, spaced_most}
use Rattle.text.proofs.put_spaced.Goals as goal

pub loop-place-init : goal.loop-place-init
loop-place-init c = no_numbers c.args.numbers.now _ _

pub put_gap-there-requires : goal.put_gap-there-requires
put_gap-there-requires c =
    omega (arith, spaced_most c.args.numbers.now c.loop-place.place)

pub put_decimal-next-requires : goal.put_decimal-next-requires
put_decimal-next-requires c =
    omega (arith, c.loop-place.invariant.place, spaced_most c.args.numbers.now c.loop-place.place, gap_most c.loop-place.place)

pub loop-place-preserved : goal.loop-place-preserved
loop-place-preserved c =
    one_number c.args.numbers.now c.loop-place.place (omega arith) c.loop-place.invariant c.put_gap-there.ensures c.put_decimal-next.ensures
