use mathlib.Core.Path.{sym, ap}
use mathlib.Core.Bool.{false, not}
use native.Mathlib.Omega.{arith}
use lib.ListN.{take}
use Rattle.word.proofs.ScanLaws.{scan_hit, scan_miss, scan_end}
use Rattle.grammar.proofs.rules.first_unnamed.Goals as goal

pub returns-then-not-named : goal.returns-then-not-named
returns-then-not-named c =
    let others = take c.saturating_sub.result c.args.marks in
    rw (← c.saturating_sub.ensures) (sym (scan_hit _ others false _ c.loop-place.invariant (omega arith) (ap not c.if-not-named.true)))

pub loop-place-preserved : goal.loop-place-preserved
loop-place-preserved c =
    let others = take c.saturating_sub.result c.args.marks in
    scan_miss _ others false _ c.loop-place.invariant (omega arith) (ap not c.if-not-named.false)

pub returns : goal.returns
returns c =
    let others = take c.saturating_sub.result c.args.marks in
    rw (← c.saturating_sub.ensures) (sym (scan_end _ others false _ c.loop-place.invariant (omega arith)))
