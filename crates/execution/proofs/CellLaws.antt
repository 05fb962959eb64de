-- The cells of a state are those that it was made of.
use Prim.Native.Nat.{ℕ, zero, suc, ◌+◌}
use mathlib.Core.Path.{◌≡◌, sym, ◌∙◌}
use mathlib.Core.List.{List}
use native.Mathlib.Decide.{ℕ_discrete}
use native.Mathlib.Omega.{arith}
use lib.ListN.{length, get_or, take, drop, length-drop, take-append-drop, drop_of_length-le}
use lib.Seq.{drop-cons, length-take-le}
use Rattle.answers.specs.declared.Ran.{Ran}
use Rattle.stores.specs.Cells.{unset, held, cell_of, store_of, cells_from}
use Rattle.theory.specs.RowModel.{Table}
use Rattle.calls.specs.Run.{state_over, left_by}
use Rattle.machine.proofs.StateLaws.{held_unset, held_set}

pub cell_back : (cell : ℕ) → cell_of (held cell) ≡ cell
unfolding cell_of
cell_back cell = go (ℕ_discrete cell unset)
  where
    go : Dec (cell ≡ unset) → cell_of (held cell) ≡ cell
    go (yes e) = rw (held_unset cell e) (sym e)
    go (no n) = rw (held_set cell n)

cells_from_lem : (cells : List ℕ) (n count : ℕ) → n + count ≡ length cells → cells_from n count (store_of cells) ≡ drop n cells
unfolding cells_from store_of
cells_from_lem cells n zero e = sym (drop_of_length-le cells {i = n} (omega arith))
cells_from_lem cells n (suc count) e =
    rw (cell_back (get_or cells n unset), cells_from_lem cells (suc n) count (omega arith), drop-cons cells n unset (omega arith))

pub cells_back : (cells : List ℕ) (count : ℕ) → length cells ≡ count → cells_from 0 count (store_of cells) ≡ cells
cells_back cells count e = cells_from_lem cells 0 count (omega arith)

module _ (answer : Ran) (accumulator : ℕ) (objects messages : List ℕ) (table : Table) where
  pub left_back : length objects ≡ 64 → length messages ≡ 256
      → left_by answer (state_over accumulator objects messages table)
      ≡ record { answer = answer; objects = objects; messages = messages; accumulator = accumulator; terms = table.rows; counter = table.counter }
  unfolding left_by state_over
  left_back few named =
      rw (
        cells_back objects 64 few,
        cells_back (take 64 messages) 64 (length-take-le 64 messages (omega arith)),
        cells_back (drop 64 messages) 192 (length-drop 64 messages ∙ omega arith),
        take-append-drop 64 messages,
        cell_back accumulator,
      )
