use mathlib.Core.Path.{sym, ap, ◌∙◌}
use mathlib.Core.Bool.{not}
use native.Mathlib.Omega.{arith}
use Rattle.word.proofs.ScanLaws.{scan_hit, scan_miss, scan_end}
use Rattle.patterns.proofs.KindLaws.{wrong_rows}
use Rattle.grammar.proofs.kinds.first_wrong_kind.Invariants.{wrong}
use Rattle.grammar.proofs.kinds.first_wrong_kind.Goals as goal

pub returns-then-not-row_kinds : goal.returns-then-not-row_kinds
returns-then-not-row_kinds c =
    let a = c.args in
    let bad = ap not (sym c.row_kinds.ensures ∙ c.if-not-row_kinds.true) in
    sym (wrong_rows _ _ _ ∙ scan_hit (wrong a.create a.kinds.now) a.rows.now 0 _ c.loop-place.invariant (omega arith) bad)

pub loop-place-preserved : goal.loop-place-preserved
loop-place-preserved c =
    let a = c.args in
    let good = ap not (sym c.row_kinds.ensures ∙ c.if-not-row_kinds.false) in
    scan_miss (wrong a.create a.kinds.now) a.rows.now 0 _ c.loop-place.invariant (omega arith) good

pub returns : goal.returns
returns c = sym (wrong_rows _ _ _ ∙ scan_end (wrong c.args.create c.args.kinds.now) c.args.rows.now 0 _ c.loop-place.invariant (omega arith))
