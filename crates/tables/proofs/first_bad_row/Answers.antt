-- None of the used rows passed is bad.
use mathlib.Core.Path.{refl, ap}
use mathlib.Core.Bool.{not}
use native.Mathlib.Omega.{arith}
use Rattle.tables.proofs.RuleLaws.{used_inside, distinct_inside, checked_bad, checked_more, checked_repeated, checked_behind, checked_good}
use Rattle.tables.proofs.first_bad_row.Goals as goal

pub distinct_rows-distinct-requires : goal.distinct_rows-distinct-requires
distinct_rows-distinct-requires c = (used_inside _ c.used_rows-used.ensures, c.requires)

pub loop-row-init : goal.loop-row-init
loop-row-init c =
    let inside = used_inside _ c.used_rows-used.ensures in
    (distinct_inside _ inside c.distinct_rows-distinct.ensures, inside, refl)

pub returns-then-not-shape_fits : goal.returns-then-not-shape_fits
returns-then-not-shape_fits c =
    checked_bad c.args.rows.now c.args.counter _ c.used_rows-used.ensures _ c.distinct_rows-distinct.ensures _ c.loop-row.invariant.2
    (omega arith) _ c.shape_fits.ensures (ap not c.if-not-shape_fits.true)

pub loop-row-preserved : goal.loop-row-preserved
loop-row-preserved c =
    let kept = c.loop-row.invariant in (
      kept.0,
      kept.1,
      checked_more c.args.rows.now c.args.counter _ c.used_rows-used.ensures _ c.distinct_rows-distinct.ensures _ kept.2
          (omega arith) _ c.shape_fits.ensures (ap not c.if-not-shape_fits.false),
    )

pub returns-then-distinct-used : goal.returns-then-distinct-used
returns-then-distinct-used c =
    checked_repeated c.args.rows.now c.args.counter _ c.used_rows-used.ensures _ c.distinct_rows-distinct.ensures _ c.loop-row.invariant.2
    (omega arith) c.if-distinct-used.true

pub returns-in-Some : goal.returns-in-Some
returns-in-Some c =
    checked_behind c.args.rows.now c.args.counter _ c.used_rows-used.ensures _ c.loop-row.invariant.2 (omega arith) _ c.in-Some.ensures _ refl

pub returns-in-None : goal.returns-in-None
returns-in-None c =
    checked_good c.args.rows.now c.args.counter _ c.used_rows-used.ensures _ c.loop-row.invariant.2 (omega arith) _ c.in-None.ensures refl
