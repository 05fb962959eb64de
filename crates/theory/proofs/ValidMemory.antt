-- The memory of the world of rows: what a valid one is, and that it stays valid when a row is added or a name is taken.
use mathlib.Core.Path.{◌≡◌}
use Prim.Native.Nat.{ℕ, suc, ◌+◌, ◌^◌, ◌<◌, ◌≤◌}
use native.Mathlib.Numerals.{add-one}
use native.Mathlib.Omega.{arith}
use lib.ListN.{length, get_or, set, length-set}
use lib.Seq.{get_or-set_other}
use Rattle.terms.specs.Rules.{used_rows}
use Rattle.terms.specs.Table.{GoodTerm, ValidTable}
use Rattle.terms.proofs.TableLaws.{used_rows_lem, used_added, valid_added, valid_raised}
use Rattle.stores.specs.GoodStores.{ValidCertificates}
use Rattle.stores.proofs.CertificateLaws.{certificates_kept}
use Rattle.theory.specs.RowModel.{Table, with_rows, with_counter}
use Rattle.numbers.specs.Limits.{most_names}

-- a table that run accepts: rows, counter and certificates
pub record ValidMemory (x : Table) : Type 0 where
  pub table : ValidTable x.rows x.counter
  pub counted : x.used ≡ used_rows x.rows
  pub rows_few : length x.rows ≤ 2 ^ 12
  pub names_few : x.counter ≤ most_names
  pub certificates : ValidCertificates x.rows x.used x.certificates

module _ {x : Table} (v : ValidMemory x) where
  open x use {rows, used, counter}

  pub used_inside : used ≤ length rows
  used_inside = omega (arith, (used_rows_lem rows).inside)

  -- a used row's number has 12 bits
  pub row_small : (row : ℕ) → row < used → row < 2 ^ 12
  row_small row l = omega (arith, used_inside)

  pub name_taken : counter < most_names → ValidMemory (with_counter x (suc counter))
  name_taken below =
      record { table = valid_raised (omega arith) v.table; counted = v.counted; rows_few = v.rows_few; names_few = below; certificates = v.certificates }

  -- a good row in the place of the first unused one
  module _ {word : ℕ} (free : used < length rows) (good : GoodTerm rows counter used word) where
    pub row_kept : (row : ℕ) → row < used → get_or (set rows used word) row 0 ≡ get_or rows row 0
    row_kept row l = get_or-set_other rows used row word 0 (λ e. omega arith)

    pub row_added : ValidMemory (with_rows x (set rows used word) (used + 1))
    row_added =
        let space = rw v.counted at free in
        let fits = rw v.counted at good in
        record {
          table = rw v.counted (valid_added v.table space fits);
          counted = rw (v.counted, used_added v.table space fits) (add-one (used_rows rows));
          rows_few = rw length-set v.rows_few;
          names_few = v.names_few;
          certificates = certificates_kept (set rows used word) (used + 1) (omega arith) row_kept v.certificates;
        }
