use Prim.Native.Nat.{ℕ}
use mathlib.Core.Path.{◌≡◌}
use mathlib.Core.List.{List}
use native.Mathlib.Omega.{arith}
use lib.ListN.{length-take}
use Rattle.word.specs.Bytes.{elements}
use Rattle.terms.specs.Rules.{used_rows}
use Rattle.calls.specs.Run.{Lent, RunOutcome, run}
use Rattle.looking.specs.Found.{used_with}
use Rattle.looking.specs.Front.{SameBut}
use Rattle.looking.proofs.NewRowLaws.{run_new_rows}
use Rattle.lending.proofs.RunLaws.{with_rows, rows_packed}
use Rattle.lending.proofs.TableLaws.{used_few, new_rows}
use Rattle.cram.proofs.run_tables.over_rows.Goals as goal

-- the rows that a run writes
new : (x : Lent) (words : List ℕ) {ran : RunOutcome} {rows : List ℕ} {from to : ℕ} → rows ≡ elements 8 x.terms → ran ≡ run (with_rows x rows) words
    → from ≡ used_rows (elements 8 x.terms) → to ≡ used_with ran.answer ran.terms → SameBut (elements 8 x.terms) ran.terms from to
new x words {rows = rows} r e f t = new_rows x.terms r f t (rw e (run_new_rows (with_rows x rows) words))

pub pack_new-requires : goal.pack_new-requires
pack_new-requires g c =
    let read = c.unpack-read.ensures in
    (omega (arith, length-take {A = ℕ}), used_few c.args.terms.now (omega (arith, length-take {A = ℕ})) read.1, new _ _ read.0 c.run_cells-left.ensures.0 read.1 c.run_cells-left.ensures.1)

pub returns : goal.returns
returns g c = rows_packed _ _ c.unpack-read.ensures.0 c.run_cells-left.ensures.0 c.run_cells-left.ensures.1 c.pack_new.ensures
