-- What a run appended and cleared is as it was.
use Prim.Native.Nat.{ℕ, ◌<◌, ◌≤◌}
use mathlib.Core.Path.{◌≡◌, sym, ◌∙◌}
use mathlib.Core.List.{List}
use native.Mathlib.Decide.{dec_lt}
use native.Mathlib.Omega.{arith}
use lib.ListN.{get_or}
use lib.Seq.{ext_get_or}
use Rattle.theory.specs.RowModel.{Table}
use Rattle.theory.proofs.RowsKept.{Appended}
use Rattle.execution.specs.Steps.{Cleared}

-- what was appended to a table whose unused rows are zero, and is cleared again
pub appended_cleared : {x y : Table} {rows : List ℕ} → Appended x y → ((row : ℕ) → x.used ≤ row → get_or x.rows row 0 ≡ 0)
    → Cleared y.rows x.used y.used rows → rows ≡ x.rows
appended_cleared {x} {y} {rows} appended unused cleared =
    ext_get_or 0 rows x.rows (cleared.long ∙ appended.same_length) (λ row l. go row (dec_lt row x.used) (dec_lt row y.used))
  where
    go : (row : ℕ) → Dec (row < x.used) → Dec (row < y.used) → get_or rows row 0 ≡ get_or x.rows row 0
    go row (yes below) upto = cleared.below row below ∙ appended.kept row below
    go row (no from) (yes below) = cleared.zeros row (omega (arith, from)) below ∙ sym (unused row (omega (arith, from)))
    go row (no from) (no past) = cleared.above row (omega (arith, past)) ∙ appended.rest row (omega (arith, past))

-- tables appended to one after another
pub appended_more : {x y z : Table} → Appended x y → Appended y z → Appended x z
appended_more {x} {y} {z} a b = record {
  same_length = b.same_length ∙ a.same_length;
  kept = λ row l. b.kept row (omega (arith, a.more)) ∙ a.kept row l;
  rest = λ row l. b.rest row l ∙ a.rest row (omega (arith, b.more));
  more = omega (arith, a.more, b.more);
  inside = omega (arith, b.inside, a.same_length);
  names = omega (arith, a.names, b.names);
  certificates = b.certificates ∙ a.certificates;
}
