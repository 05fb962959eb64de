-- Registers and slices as a state of the machine at rows: read and written.
use Prim.Native.Nat.{ℕ, zero, suc, ◌+◌, ◌-◌, ◌<◌, ◌≤◌}
use mathlib.Core.Path.{◌≡◌, refl, sym, ◌∙◌, ap, subst, fun_ext}
use Rattle.std.specs.Prelude.{None, Some}
use mathlib.Core.List.{List, [], ◌∷◌}
use native.Mathlib.Decide.{ℕ_discrete, dec_lt}
use native.Mathlib.Omega.{arith}
use borrow.Author.Tests.{eq-eqb, ne_eqb}
use lib.ListN.{length, get_or, take, drop, set, length-take, length-drop, length-set}
use lib.Seq.{get_or-take, get_or-drop, get_or-set_same, get_or-set_other, take-set-lt, take-set-le, drop-set-lt, drop-set-add}
use Rattle.stores.specs.Cells.{unset, held, store_of}
use Rattle.theory.specs.Store.{put}
use Rattle.theory.specs.RowModel.{Table, row_world}
use Rattle.theory.specs.Machine.{State, with_accumulator, with_stores, set_object, set_memory, message, set_message, set_messages}
use Rattle.numbers.specs.Limits.{named_cells}
use Rattle.calls.specs.Run.{state_over}
use Rattle.machine.specs.Machine.{spread}
use Rattle.theory.proofs.StoreLaws.{put_same, put_other}
use Rattle.theory.proofs.CellLaws.{message_named, message_scratch, set_message_named, set_message_scratch}

-- within a list the default is not asked
pub inside : (l : List ℕ) (i a b : ℕ) → i < length l → get_or l i a ≡ get_or l i b
inside [] i a b h = absurd (omega arith)
inside (x ∷ xs) zero a b h = refl
inside (x ∷ xs) (suc i) a b h = inside xs i a b (omega arith)

pub held_unset : (cell : ℕ) → cell ≡ unset → held cell ≡ None
unfolding held
held_unset cell e = rw (eq-eqb cell unset e)

pub held_set : (cell : ℕ) → (cell ≡ unset → ⊥) → held cell ≡ Some cell
unfolding held
held_set cell n = rw (ne_eqb cell unset n)

-- a store after a cell is set
pub store_set : (cells : List ℕ) (n row : ℕ) → n < length cells → (row ≡ unset → ⊥) → store_of (set cells n row) ≡ put (store_of cells) n (Some row)
unfolding store_of
store_set cells n row within is_row = fun_ext λ j. go j (ℕ_discrete n j)
  where
    go : (j : ℕ) → Dec (n ≡ j) → held (get_or (set cells n row) j unset) ≡ put (λ k. held (get_or cells k unset)) n (Some row) j
    go j (yes e) = rw (← e, get_or-set_same cells n row unset within, put_same) (held_set row is_row)
    go j (no u) = rw (get_or-set_other cells n j row unset (λ e. u (sym e)), put_other (λ k. held (get_or cells k unset)) n j (Some row) u)

-- rows written to cells one after another
pub spread_length : (cells : List ℕ) (b n : ℕ) (row : ℕ → ℕ) → length (spread cells b n row) ≡ length cells
unfolding spread
spread_length cells b zero row = refl
spread_length cells b (suc n) row = length-set (spread cells b n row) (b + n) (row n) ∙ spread_length cells b n row

pub spread_same : (cells : List ℕ) (b n : ℕ) (row other : ℕ → ℕ) → ((i : ℕ) → i < n → row i ≡ other i) → spread cells b n row ≡ spread cells b n other
unfolding spread
spread_same cells b zero row other same = refl
spread_same cells b (suc n) row other same = rw (same n (omega arith), spread_same cells b n row other (λ i l. same i (omega arith)))

module _ (accumulator : ℕ) (objects messages : List ℕ) (table : Table) where
  abbrev pub state : State row_world
  state = state_over accumulator objects messages table

  message_held : (cell : ℕ) → message row_world state cell ≡ held (get_or messages cell unset)
  unfolding state_over store_of
  message_held cell = go (dec_lt cell named_cells)
    where
      scratch : (i : ℕ) → message row_world state (named_cells + i) ≡ held (get_or messages (named_cells + i) unset)
      scratch i = message_scratch row_world state i ∙ ap held (get_or-drop named_cells messages i unset)

      go : Dec (cell < named_cells) → message row_world state cell ≡ held (get_or messages cell unset)
      go (yes below) = message_named row_world state cell below ∙ ap held (get_or-take named_cells messages cell unset below)
      go (no above) =
          let e : named_cells + (cell - named_cells) ≡ cell = omega (arith, above) in
          subst (λ n. message row_world state n ≡ held (get_or messages n unset)) e (scratch (cell - named_cells))

  -- what is read of the accumulator, an object variable, a message cell
  pub accumulator_unset : accumulator ≡ unset → state.accumulator ≡ None
  unfolding state_over
  accumulator_unset e = held_unset accumulator e

  pub accumulator_row : (accumulator ≡ unset → ⊥) → state.accumulator ≡ Some accumulator
  unfolding state_over
  accumulator_row is_row = held_set accumulator is_row

  pub object_unset : (v : ℕ) {row : ℕ} → row ≡ get_or objects v unset → row ≡ unset → state.stores.σ v ≡ None
  unfolding state_over store_of
  object_unset v {row} read e = rw (← read) (held_unset row e)

  pub object_row : (v : ℕ) {row : ℕ} → row ≡ get_or objects v unset → (row ≡ unset → ⊥) → state.stores.σ v ≡ Some row
  unfolding state_over store_of
  object_row v {row} read is_row = rw (← read) (held_set row is_row)

  pub message_unset : (cell : ℕ) {row : ℕ} → row ≡ get_or messages cell unset → row ≡ unset → message row_world state cell ≡ None
  message_unset cell {row} read e = message_held cell ∙ rw (← read) (held_unset row e)

  pub message_row : (cell : ℕ) {row : ℕ} → row ≡ get_or messages cell unset → (row ≡ unset → ⊥) → message row_world state cell ≡ Some row
  message_row cell {row} read is_row = message_held cell ∙ rw (← read) (held_set row is_row)

  -- and what it is after a write
  module _ (row : ℕ) (is_row : row ≡ unset → ⊥) where
    pub accumulator_set : state_over row objects messages table ≡ with_accumulator row_world state row
    unfolding state_over
    accumulator_set = rw (held_set row is_row)

    pub object_set : (v : ℕ) → v < length objects → state_over accumulator (set objects v row) messages table ≡ with_stores row_world state (set_object row_world state.stores v row)
    unfolding state_over
    object_set v within = rw (store_set objects v row within is_row)

    pub message_set : (cell : ℕ) → cell < length messages → state_over accumulator objects (set messages cell row) table ≡ set_message row_world state cell row
    unfolding state_over
    message_set cell within = go (dec_lt cell named_cells)
      where
        scratch : (i : ℕ) → named_cells + i < length messages → state_over accumulator objects (set messages (named_cells + i) row) table ≡ set_message row_world state (named_cells + i) row
        scratch i within =
            rw (
              set_message_scratch row_world state i row,
              drop-set-add named_cells messages i row,
              take-set-le named_cells messages (named_cells + i) row (omega arith),
              store_set (drop named_cells messages) i row (rw length-drop (omega arith)) is_row,
            )

        go : Dec (cell < named_cells) → state_over accumulator objects (set messages cell row) table ≡ set_message row_world state cell row
        go (yes below) =
            rw (
              set_message_named row_world state cell row below,
              drop-set-lt named_cells messages cell row below,
              take-set-lt named_cells messages cell row below,
              store_set (take named_cells messages) cell row (rw length-take (omega arith)) is_row,
            )
        go (no above) =
            let e : named_cells + (cell - named_cells) ≡ cell = omega (arith, above) in
            subst (λ n. state_over accumulator objects (set messages n row) table ≡ set_message row_world state n row) e
            (scratch (cell - named_cells) (omega arith))

    -- a made term
    module _ (table' : Table) where
      pub accumulator_made : state_over row objects messages table' ≡ with_accumulator row_world (with_stores row_world state (set_memory row_world state.stores table')) row
      unfolding state_over
      accumulator_made = rw (held_set row is_row)

      pub object_made : (v : ℕ) → v < length objects
          → state_over accumulator (set objects v row) messages table' ≡ with_stores row_world state (set_object row_world (set_memory row_world state.stores table') v row)
      unfolding state_over
      object_made v within = rw (store_set objects v row within is_row)

module _ (accumulator : ℕ) (objects messages : List ℕ) (table : Table) where
  pub messages_set : (b n : ℕ) (row : ℕ → ℕ) → b + n ≤ length messages → ((i : ℕ) → i < n → row i ≡ unset → ⊥)
      → state_over accumulator objects (spread messages b n row) table ≡ set_messages row_world (state_over accumulator objects messages table) b n row
  unfolding spread set_messages
  messages_set b zero row inside are_rows = refl
  messages_set b (suc n) row inside are_rows =
      let last : b + n < length (spread messages b n row) = rw spread_length (omega arith) in
      message_set accumulator objects (spread messages b n row) table (row n) (are_rows n (omega arith)) (b + n) last
      ∙ ap (λ s. set_message row_world s (b + n) (row n)) (messages_set b n row (omega arith) (λ i l. are_rows i (omega arith)))
