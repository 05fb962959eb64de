-- None of the rows passed is zero, and the row come to is, or there is no more.
use Prim.Native.Nat.{◌≤◌}
use mathlib.Core.Path.{sym}
use native.Mathlib.Omega.{arith}
use lib.ListN.{length, get_or-eq_default}
use Rattle.terms.proofs.FinderLaws.{equal_absent}
use Rattle.finder.proofs.BlockLaws.{absent_row}
use Rattle.terms.proofs.TableLaws.{used_once}
use Rattle.tables.proofs.used_rows.Goals as goal

pub loop-row-init : goal.loop-row-init
loop-row-init c = let passed = c.rows_passed-row.ensures in (equal_absent c.args.rows.now c.rows_passed-row.result 0 passed.0).0 passed.1

pub returns-then-rows-row-eq0 : goal.returns-then-rows-row-eq0
returns-then-rows-row-eq0 c = sym (used_once (record { inside = omega arith; nonzero = c.loop-row.invariant; ends = c.if-rows-row-eq0.true }))

pub loop-row-preserved : goal.loop-row-preserved
loop-row-preserved c = absent_row c.args.rows.now 0 _ c.loop-row.invariant c.if-rows-row-eq0.false

pub returns : goal.returns
returns c =
    let past : length c.args.rows.now ≤ length c.args.rows.now = omega arith in
    sym (used_once (record {
      inside = past;
      nonzero = λ row inside. c.loop-row.invariant row (omega arith);
      ends = get_or-eq_default c.args.rows.now 0 {n = length c.args.rows.now} past;
    }))
