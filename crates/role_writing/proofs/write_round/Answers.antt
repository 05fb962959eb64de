-- INPUT, the first half behind it, the second behind that, OUTPUT.
use native.Mathlib.Nat.{div-le_self}
use native.Mathlib.Omega.{arith}
use lib.ListN.{length}
use Rattle.role_writing.proofs.WriteLaws.{both_halves, first_fits, second_fits, output_inside, output_fits, round_left}
use Rattle.role_writing.proofs.write_round.Goals as goal

pub put-requires : goal.put-requires
put-requires g c = omega (arith, (both_halves _ _ _ _ _ _ c.requires.fits).least)

pub write_half-matched-requires-clause-fits : goal.write_half-matched-requires-clause-fits
write_half-matched-requires-clause-fits g c =
    let halves = both_halves _ _ _ _ _ _ c.requires.fits in
    rw c.put.ensures (first_fits _ _ _ _ g.met.C.WordUnit.packs _ c.args.code.now halves)

pub write_half-created-requires-clause-fits : goal.write_half-created-requires-clause-fits
write_half-created-requires-clause-fits g c =
    let halves = both_halves _ _ _ _ _ _ c.requires.fits in
    let matched = rw c.put.ensures at c.write_half-matched.ensures in
    second_fits _ _ _ _ g.met.C.WordUnit.packs _ c.args.code.now halves matched

pub put-requires-2 : goal.put-requires-2
put-requires-2 g c =
    let halves = both_halves _ _ _ _ _ _ c.requires.fits in
    let matched = rw c.put.ensures at c.write_half-matched.ensures in
    output_fits _ _ _ _ g.met.C.WordUnit.packs _ c.args.code.now halves matched c.write_half-created.ensures

pub overflow_add-result : goal.overflow_add-result
overflow_add-result g c =
    let halves = both_halves _ _ _ _ _ _ c.requires.fits in
    let matched = rw c.put.ensures at c.write_half-matched.ensures in
    omega (
      arith,
      output_inside _ _ _ _ g.met.C.WordUnit.packs _ c.args.code.now halves matched c.write_half-created.ensures,
      div-le_self (length c.args.code.now) g.C.WordUnit.size,
      c.well_formed.1.1.1.1.1.1.1.0.1,
    )

pub returns : goal.returns
returns g c =
    let halves = both_halves _ _ _ _ _ _ c.requires.fits in
    let matched = rw c.put.ensures at c.write_half-matched.ensures in
    round_left _ _ _ _ g.met.C.WordUnit.packs _ c.args.code.now halves matched c.write_half-created.ensures c.put-2.ensures
