-- After a finished run what was lent is good again.
use mathlib.Core.Path.{◌≡◌, refl, ◌∙◌, ap, subst}
use Rattle.std.specs.Prelude.{Option, None, Some}
use mathlib.Core.List.{List, ◌++◌}
use Prim.Native.Nat.{ℕ, zero, suc, ◌+◌, ◌<◌, ◌≤◌}
use native.Mathlib.Nat.{zero-add, add-zero, add-suc, suc-add}
use native.Mathlib.Omega.{arith}
use borrow.Author.Tests.{ne_eqb}
use lib.ListN.{length, get_or, length-append}
use Rattle.word.specs.All.{All}
use Rattle.word.proofs.All.{all_append}
use Rattle.answers.specs.declared.Ran.{Ran}
use Rattle.terms.specs.Row.{tag_of}
use Rattle.terms.specs.Rules.{used_rows}
use Rattle.stores.specs.Cells.{unset, held, cell_of, cells_from}
use Rattle.stores.specs.GoodStores.{ValidCertificates, UndeclaredUnset, HoldsKind, UnsetOrUsed}
use Rattle.theory.specs.RowModel.{row_world}
use Rattle.theory.specs.Machine.{State}
use Rattle.numbers.specs.Limits.{named_cells, scratch_cells, variables}
use Rattle.numbers.specs.Kinds.{kind_in}
use Rattle.calls.specs.Run.{Lent, lent_after, state_over, state_of, left_by}
use Rattle.theory.proofs.ValidMemory.{used_inside}
use Rattle.theory.proofs.RowsRunAsTerms.{Held, IsUsed, HasTag, ValidState}
use Rattle.theory.proofs.RowsKept.{Appended}
use Rattle.calls.specs.Valid.{Valid}
use Rattle.calls.proofs.ValidLent.{cell_held, object_held, tagged}

-- the cells of a store
pub length_cells : (n count : ℕ) (store : ℕ → Option ℕ) → length (cells_from n count store) ≡ count
unfolding cells_from
length_cells n zero store = refl
length_cells n (suc count) store = ap suc (length_cells (suc n) count store)

pub get_or_cells : (n count : ℕ) (store : ℕ → Option ℕ) (i : ℕ) → i < count → get_or (cells_from n count store) i unset ≡ cell_of (store (n + i))
unfolding cells_from
get_or_cells n zero store i h = absurd (omega arith)
get_or_cells n (suc count) store zero h = rw (add-zero n)
get_or_cells n (suc count) store (suc i) h = get_or_cells (suc n) count store i (omega arith) ∙ rw (add-suc n i, suc-add n i)

-- what a cell holds is what was put there, if it is a row below 65,535
pub held_back : (P : ℕ → Type 0) → ((row : ℕ) → P row → row < unset) → (cell : Option ℕ) → Held P cell → held (cell_of cell) ≡ cell
unfolding held cell_of
held_back P small None h = refl
held_back P small (Some row) h = rw (ne_eqb row 65535 (λ e. omega (arith, small row h)))

held_cell : (P : ℕ → Type 0) → ((row : ℕ) → P row → row < unset) → (cell : Option ℕ) → Held P cell → Held P (held (cell_of cell))
held_cell P small cell h = rw (held_back P small cell h) h

module _ (used : ℕ) (few : used ≤ 4096) where
  fits_cell : (cell : Option ℕ) → Held (λ row. row < used) cell → UnsetOrUsed used (cell_of cell)
  fits_cell cell h = (cell_held used (cell_of cell)).1 (held_cell (λ row. row < used) (λ row l. omega arith) cell h)

  all_fit : (n count : ℕ) (store : ℕ → Option ℕ) → ((i : ℕ) → Held (λ row. row < used) (store i)) → All (UnsetOrUsed used) (cells_from n count store)
  unfolding cells_from
  all_fit n zero store h = tt
  all_fit n (suc count) store h = (fits_cell (store n) (h n), all_fit (suc n) count store h)

module _ (x : Lent) (a : Valid x) (t : State row_world) (v : ValidState (kind_in x.kinds) t) (g : Appended (state_of x).stores.memory t.stores.memory) where
  abbrev rows : List ℕ
  rows = t.stores.memory.rows

  abbrev used : ℕ
  used = used_rows rows

  few : used ≤ 4096
  few = let h = used_inside v.table in let e = v.table.counted in omega (arith, v.table.rows_few)

  -- the used rows are those before the first zero row
  counts : (cell : Option ℕ) → Held (IsUsed t.stores.memory) cell → Held (λ row. row < used) cell
  counts cell h = subst (λ n. Held (λ row. row < n) cell) v.table.counted h

  tags : (kind : ℕ) (cell : Option ℕ) → Held (HasTag t.stores.memory kind) cell → Held (λ row. (row < used) × (tag_of (get_or rows row 0) ≡ kind)) cell
  tags kind cell h = subst (λ n. Held (λ row. (row < n) × (tag_of (get_or rows row 0) ≡ kind)) cell) v.table.counted h

  objects_fit : (o : ℕ) → o < length x.kinds → o < length (cells_from 0 variables t.stores.σ)
      → UndeclaredUnset (kind_in x.kinds o) (get_or (cells_from 0 variables t.stores.σ) o unset)
      × HoldsKind rows used (kind_in x.kinds o) (get_or (cells_from 0 variables t.stores.σ) o unset)
  objects_fit o k h =
      let inside : o < variables = omega (arith, length_cells 0 variables t.stores.σ) in
      rw (get_or_cells 0 variables t.stores.σ o inside, zero-add o)
      ((object_held rows used (kind_in x.kinds o) (cell_of (t.stores.σ o)) (tagged v.table.table)).1
      (held_cell (λ row. (row < used) × (tag_of (get_or rows row 0) ≡ kind_in x.kinds o)) (λ row p. omega (arith, p.0, few)) (t.stores.σ o)
      (tags (kind_in x.kinds o) (t.stores.σ o) (v.objects o))))

  messages_fit : All (UnsetOrUsed used) (cells_from 0 named_cells t.stores.ρ ++ cells_from 0 scratch_cells t.scratches)
  messages_fit =
      all_append (UnsetOrUsed used) (cells_from 0 named_cells t.stores.ρ) (cells_from 0 scratch_cells t.scratches)
      (all_fit used few 0 named_cells t.stores.ρ λ i. counts (t.stores.ρ i) (v.raws i))
      (all_fit used few 0 scratch_cells t.scratches λ i. counts (t.scratches i) (v.scratches i))

  certificates_fit : ValidCertificates rows used x.certificates
  unfolding state_over
  certificates_fit = subst (λ c. ValidCertificates rows used c) g.certificates (subst (λ n. ValidCertificates rows n t.stores.memory.certificates) v.table.counted v.table.certificates)

  pub stays_valid : (answer : Ran) → Valid (lent_after x (left_by answer t))
  unfolding left_by
  stays_valid answer = record {
    within = record {
      kinds = a.within.kinds;
      objects = length_cells 0 variables t.stores.σ;
      messages = length-append (cells_from 0 named_cells t.stores.ρ) (cells_from 0 scratch_cells t.scratches)
          ∙ rw (length_cells 0 named_cells t.stores.ρ, length_cells 0 scratch_cells t.scratches);
      certificates = a.within.certificates;
      terms = v.table.rows_few;
      counter = v.table.names_few;
    };
    table = v.table.table;
    stores = record {
      known = a.stores.known;
      undeclared = λ o k c. (objects_fit o k c).0;
      typed = λ o k c. (objects_fit o k c).1;
      cells = messages_fit;
      certified = certificates_fit;
      held = fits_cell used few t.accumulator (counts t.accumulator v.accumulator);
    };
  }
