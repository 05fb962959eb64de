use mathlib.Core.Path.{sym}
use native.Mathlib.Omega.{arith}
use lib.Seq.{length-take-le}
use Rattle.listing.proofs.LinesLaws.{words_fit, refused_listed, ran_listed}
use Rattle.listing.proofs.lines.list.Goals as goal

pub slice_bounds-code-end : goal.slice_bounds-code-end
slice_bounds-code-end c = words_fit _ _ _ _ _ c.given-given.ensures c.in-Ok.is

pub slice_bounds-ran-end : goal.slice_bounds-ran-end
slice_bounds-ran-end c = sym (length-take-le _ _ (words_fit _ _ _ _ _ c.given-given.ensures c.in-Ok.is))

pub ran-requires : goal.ran-requires
ran-requires c =
    let kept = c.given-given.auto in
    let fits = words_fit _ _ _ _ _ c.given-given.ensures c.in-Ok.is in
    (omega (arith, length-take-le _ _ fits, fits, kept), omega (arith, kept), omega (arith, kept))

pub returns-in-Err : goal.returns-in-Err
returns-in-Err c = refused_listed _ _ _ _ _ c.given-given.ensures c.in-Err.is c.refused.ensures

pub returns-in-Ok : goal.returns-in-Ok
returns-in-Ok c = ran_listed _ _ _ _ _ c.given-given.ensures c.in-Ok.is c.ran.ensures
