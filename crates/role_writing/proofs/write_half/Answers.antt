-- The words at the buffer's front come to the slice.
use mathlib.Core.Path.{refl, sym, ◌∙◌}
use native.Mathlib.Nat.{div-le_self}
use native.Mathlib.Omega.{arith}
use lib.ListN.{length}
use lib.Seq.{length-take-le}
use Rattle.role_counting.proofs.CountLaws.{known_half}
use Rattle.role_counting.proofs.RowLaws.{between_long}
use Rattle.role_writing.proofs.WriteLaws.{half_few, half_done, half_put}
use Rattle.role_writing.proofs.write_half.Goals as goal

pub compile_half-left-requires : goal.compile_half-left-requires
compile_half-left-requires g c =
    let part = c.requires.part in
    (part.0, part.1, omega (arith, half_few _ _ _ _ refl _ _ c.requires.fits, between_long _ _ _ part.0 part.1))

pub unreachable-requires : goal.unreachable-requires
unreachable-requires g c = half_done g.C.WordUnit.size g.C.WordUnit.packed _ _ _ _ _ _ (c.compile_half-left.ensures ∙ known_half _ _ _ _ _ _) c.requires.fits c.in_default.not-Done

pub slice_bounds-buffer-end : goal.slice_bounds-buffer-end
slice_bounds-buffer-end g c =
    let put = half_put g.C.WordUnit.size g.C.WordUnit.packed _ _ _ _ _ _ (c.compile_half-left.ensures ∙ known_half _ _ _ _ _ _) c.requires.fits c.in-Done.is in
    put.within

pub slice_bounds-put-end : goal.slice_bounds-put-end
slice_bounds-put-end g c =
    let put = half_put g.C.WordUnit.size g.C.WordUnit.packed _ _ _ _ _ _ (c.compile_half-left.ensures ∙ known_half _ _ _ _ _ _) c.requires.fits c.in-Done.is in
    sym (length-take-le _ _ put.within)

pub put-requires : goal.put-requires
put-requires g c =
    let put = half_put g.C.WordUnit.size g.C.WordUnit.packed _ _ _ _ _ _ (c.compile_half-left.ensures ∙ known_half _ _ _ _ _ _) c.requires.fits c.in-Done.is in
    omega (arith, put.fits, length-take-le _ _ put.within)

pub overflow_add-result : goal.overflow_add-result
overflow_add-result g c =
    let put = half_put g.C.WordUnit.size g.C.WordUnit.packed _ _ _ _ _ _ (c.compile_half-left.ensures ∙ known_half _ _ _ _ _ _) c.requires.fits c.in-Done.is in
    omega (arith, put.fits, div-le_self (length c.args.code.now) g.C.WordUnit.size, c.well_formed.1.1.1.1.1.1.1.0.1)

pub returns : goal.returns
returns g c =
    let put = half_put g.C.WordUnit.size g.C.WordUnit.packed _ _ _ _ _ _ (c.compile_half-left.ensures ∙ known_half _ _ _ _ _ _) c.requires.fits c.in-Done.is in
    rw c.put.ensures put.left
