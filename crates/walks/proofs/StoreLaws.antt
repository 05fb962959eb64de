-- The stores of a walk, read and written.
use Prim.Native.Nat.{ℕ, ◌<◌}
use mathlib.Core.Path.{◌≡◌, refl}
use Rattle.std.specs.Prelude.{None, Some}
use mathlib.Core.List.{List}
use native.Mathlib.Omega.{arith}
use lib.ListN.{length, get_or, set, take, length-take}
use lib.Seq.{get_or-take, take-set-lt}
use Rattle.numbers.specs.Limits.{named_cells}
use Rattle.stores.specs.Cells.{unset, store_of}
use Rattle.theory.specs.RowModel.{Table, row_world}
use Rattle.theory.specs.Machine.{Stores, set_object, set_raw, set_memory}
use Rattle.calls.specs.Run.{state_over}
use Rattle.machine.proofs.StateLaws.{held_unset, held_set, store_set}

module _ (accumulator : ℕ) (objects messages : List ℕ) (table : Table) where
  abbrev stores : Stores row_world
  stores = (state_over accumulator objects messages table).stores

  -- a named cell
  module _ (r : ℕ) (below : r < named_cells) {row : ℕ} (read : row ≡ get_or messages r unset) where
    pub named_unset : row ≡ unset → stores.ρ r ≡ None
    unfolding state_over store_of
    named_unset e = rw (get_or-take named_cells messages r unset below, ← read) (held_unset row e)

    pub named_row : (row ≡ unset → ⊥) → stores.ρ r ≡ Some row
    unfolding state_over store_of
    named_row is_row = rw (get_or-take named_cells messages r unset below, ← read) (held_set row is_row)

-- and what the stores are after a write, whatever message is in hand
module _ (message other : ℕ) (objects messages : List ℕ) (table : Table) where
  pub stores_any : (state_over other objects messages table).stores ≡ (state_over message objects messages table).stores
  unfolding state_over
  stores_any = refl

  pub stores_made : (table' : Table) → (state_over other objects messages table').stores ≡ set_memory row_world (state_over message objects messages table).stores table'
  unfolding state_over
  stores_made table' = refl

  module _ (row : ℕ) (is_row : row ≡ unset → ⊥) where
    pub stores_object : (v : ℕ) → v < length objects → (state_over other (set objects v row) messages table).stores ≡ set_object row_world (state_over message objects messages table).stores v row
    unfolding state_over
    stores_object v within = rw (store_set objects v row within is_row)

    pub stores_named : (r : ℕ) → r < named_cells → r < length messages
        → (state_over other objects (set messages r row) table).stores ≡ set_raw row_world (state_over message objects messages table).stores r row
    unfolding state_over
    stores_named r below within =
        rw (take-set-lt named_cells messages r row below, store_set (take named_cells messages) r row (rw length-take (omega (arith, below, within))) is_row)

module _ (message other : ℕ) (objects messages : List ℕ) (table table' : Table) (row : ℕ) (is_row : row ≡ unset → ⊥) (v : ℕ) (within : v < length objects) where
  pub stores_kept : (state_over other (set objects v row) messages table').stores ≡ set_object row_world (set_memory row_world (state_over message objects messages table).stores table') v row
  unfolding state_over
  stores_kept = rw (store_set objects v row within is_row)
