-- What is lent and is good is a valid state.
use mathlib.Core.Path.{◌≡◌, refl, ◌∙◌}
use mathlib.Core.Logic.{◌↔◌, ◌⊎◌, inl, inr, ⊎_elim}
use mathlib.Core.Bool.{Bool, true, false, cond, not}
use Rattle.std.specs.Prelude.{None, Some}
use mathlib.Core.List.{List}
use Prim.Native.Nat.{ℕ, ◌+◌, ◌<◌, ◌≤◌}
use native.Mathlib.Omega.{arith}
use lib.Dec.{T, eqb, ltb, ltb→lt, nltb→le}
use lib.ListN.{length, get_or, take, length-take, get_or-eq_default}
use lib.Seq.{get_or-take, get_or-drop}
use Rattle.word.proofs.All.{All, all_get_d}
use Rattle.word.proofs.TestLaws.{equals}
use Rattle.terms.specs.Row.{tag_of}
use Rattle.terms.specs.Rules.{used_rows}
use Rattle.terms.specs.Table.{ValidTable}
use Rattle.stores.specs.Cells.{unset, held, store_of}
use Rattle.stores.specs.GoodStores.{UndeclaredUnset, HoldsKind, UnsetOrUsed}
use Rattle.numbers.specs.Limits.{named_cells}
use Rattle.numbers.specs.Kinds.{kind_in}
use Rattle.calls.specs.Run.{Lent, state_over, state_of}
use Rattle.calls.specs.Valid.{Valid}
use Rattle.theory.proofs.RowsRunAsTerms.{Held, ValidState}

-- a cell that is unset or a used row holds a used row at most
pub cell_held : (used cell : ℕ) → UnsetOrUsed used cell ↔ Held (λ row. row < used) (held cell)
unfolding held
cell_held used cell = go (eqb cell unset) (equals cell unset)
  where
    go : (b : Bool) → T b ↔ (cell ≡ unset) → UnsetOrUsed used cell ↔ Held (λ row. row < used) (cond b None (Some cell))
    go true e = (λ _. tt, λ _. inl (e.0 tt))
    go false e = (⊎_elim (λ u. absurd (e.1 u)) (λ h. h), inr)

-- an object cell besides has its variable's kind; no used row has tag 0
pub object_held : (rows : List ℕ) (used kind cell : ℕ) → ((row : ℕ) → row < used → tag_of (get_or rows row 0) ≡ 0 → ⊥)
    → (UndeclaredUnset kind cell × HoldsKind rows used kind cell) ↔ Held (λ row. (row < used) × (tag_of (get_or rows row 0) ≡ kind)) (held cell)
unfolding held
object_held rows used kind cell known = go (eqb cell unset) (equals cell unset)
  where
    go : (b : Bool) → T b ↔ (cell ≡ unset)
        → (UndeclaredUnset kind cell × HoldsKind rows used kind cell) ↔ Held (λ row. (row < used) × (tag_of (get_or rows row 0) ≡ kind)) (cond b None (Some cell))
    go true e = (λ _. tt, λ _. (λ _. e.0 tt, λ set. absurd (set (e.0 tt))))
    go false e = (λ h. h.1 e.1, λ g. (λ z. absurd (known cell g.0 (g.1 ∙ z)), λ _. g))

-- no used row of a valid table has tag 0
pub tagged : {rows : List ℕ} {counter : ℕ} → ValidTable rows counter → (row : ℕ) → row < used_rows rows → tag_of (get_or rows row 0) ≡ 0 → ⊥
tagged v row h e = omega (arith, (v.good row h).known.0)

-- a cell of a list of such cells, also one past it
cells_held : (used : ℕ) (cells : List ℕ) → All (UnsetOrUsed used) cells → (i : ℕ) → Held (λ row. row < used) (held (get_or cells i unset))
cells_held used cells h i = (cell_held used (get_or cells i unset)).0 (all_get_d (UnsetOrUsed used) cells unset h (inl refl) i)

-- past a list of cells nothing is held
inside_or_past : (P : ℕ → Type 0) (cells : List ℕ) (i : ℕ) → (i < length cells → Held P (held (get_or cells i unset))) → Held P (held (get_or cells i unset))
unfolding held
inside_or_past P cells i h = go (ltb i (length cells)) (ltb→lt i (length cells)) (nltb→le i (length cells))
  where
    go : (b : Bool) → (T b → i < length cells) → (T (not b) → length cells ≤ i) → Held P (held (get_or cells i unset))
    go true l m = h (l tt)
    go false l m = rw (get_or-eq_default cells unset (m tt)) tt

module _ (x : Lent) (v : Valid x) where
  pub valid_state : ValidState (kind_in x.kinds) (state_of x)
  unfolding state_over store_of
  valid_state =
      let stores = v.stores in
      let cells = cells_held (used_rows x.terms) x.messages stores.cells in
      record {
        table = record {
          table = v.table;
          counted = refl;
          rows_few = v.within.terms;
          names_few = v.within.counter;
          certificates = stores.certified;
        };
        accumulator = (cell_held (used_rows x.terms) x.accumulator).0 stores.held;
        scratches = λ i. rw (get_or-drop named_cells x.messages i unset) (cells (named_cells + i));
        raws = λ r. named r cells;
        objects = object;
      }
    where
      named : (r : ℕ) → ((i : ℕ) → Held (λ row. row < used_rows x.terms) (held (get_or x.messages i unset)))
          → Held (λ row. row < used_rows x.terms) (held (get_or (take named_cells x.messages) r unset))
      named r cells = inside_or_past (λ row. row < used_rows x.terms) (take named_cells x.messages) r λ h.
          let inside : r < named_cells = omega (arith, simp length-take at h) in
          rw (get_or-take named_cells x.messages r unset inside) (cells r)

      object : (o : ℕ) → Held (λ row. (row < used_rows x.terms) × (tag_of (get_or x.terms row 0) ≡ kind_in x.kinds o)) (held (get_or x.objects o unset))
      object o = inside_or_past (λ row. (row < used_rows x.terms) × (tag_of (get_or x.terms row 0) ≡ kind_in x.kinds o)) x.objects o λ h.
          let k : o < length x.kinds = omega (arith, v.within.kinds, v.within.objects) in
          (object_held x.terms (used_rows x.terms) (kind_in x.kinds o) (get_or x.objects o unset) (tagged v.table)).0 (v.stores.undeclared o k h, v.stores.typed o k h)
