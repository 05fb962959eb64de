-- What a cell's set row says of the cell, and how a step stops without one.
use Rattle.std.specs.Prelude.{Some, Result, Ok, Err, IsErr, IsErrAnd, cond, eqb}
use Prim.Native.Nat.{ℕ}
use mathlib.Core.Path.{◌≡◌, refl, ◌∙◌, ap}
use mathlib.Core.List.{List}
use lib.ListN.{get_or}
use native.Mathlib.Decide.{ℕ_discrete}
use borrow.Author.Tests.{eq-eqb, ne_eqb}
use Rattle.answers.specs.declared.Reason.{Reason}
use Rattle.answers.specs.declared.Reason.TheVariants.{Unset}
use Rattle.numbers.specs.declared.TermRow.{TermRow}
use Rattle.stores.specs.Cells.{unset}
use Rattle.theory.specs.RowModel.{Table, row_world}
use Rattle.theory.specs.Machine.{message}
use Rattle.calls.specs.Run.{state_over}
use Rattle.machine.specs.Machine.{Answered}
use Rattle.machine.specs.declared.Halt.TheVariants.{Stuck}
use Rattle.machine.proofs.StateLaws.{accumulator_row, object_row, message_row}

-- a refusal that is passed on is the step's answer
pub halts : (answer : Answered) (reason : Reason) → IsErr answer × IsErrAnd answer (λ halt. halt ≡ Stuck reason) → answer ≡ Err (Stuck reason)
halts (Ok g) reason says = absurd says.1
halts (Err halt) reason says = ap Err says.1

-- the row of a cell that is set
pub record SetIn (cell row : TermRow) : Type 0 where
  pub is_row : row.0 ≡ unset → ⊥
  pub same : row.0 ≡ cell.0

-- a step that stops at a cell that is unset
pub record UnsetIn (cell : TermRow) (answer : Answered) : Type 0 where
  pub is_unset : cell.0 ≡ unset
  pub stops : answer ≡ Err (Stuck Unset)

module _ (cell : TermRow) where
  abbrev SetRow : Result TermRow Reason → Type 0
  SetRow answer = answer ≡ cond (eqb cell.0 unset) (Err Unset) (Ok cell)

  pub set_row_given : {row : TermRow} → SetRow (Ok row) → (cell.0 ≡ unset → ⊥) × (row ≡ cell)
  set_row_given {row} e = go (ℕ_discrete cell.0 unset)
    where
      go : Dec (cell.0 ≡ unset) → (cell.0 ≡ unset → ⊥) × (row ≡ cell)
      go (yes is) = let clash = rw (eq-eqb cell.0 unset is) at e in absurd (cc)
      go (no is) = let given = rw (ne_eqb cell.0 unset is) at e in (is, cc)

  pub set_row_refused : {reason : Reason} → SetRow (Err reason) → (cell.0 ≡ unset) × (reason ≡ Unset)
  set_row_refused {reason} e = go (ℕ_discrete cell.0 unset)
    where
      go : Dec (cell.0 ≡ unset) → (cell.0 ≡ unset) × (reason ≡ Unset)
      go (yes is) = let refused = rw (eq-eqb cell.0 unset is) at e in (is, cc)
      go (no is) = let clash = rw (ne_eqb cell.0 unset is) at e in absurd (cc)

  pub set_in : (row : TermRow) → SetRow (Ok row) → SetIn cell row
  set_in row e = let (is_row, same) = set_row_given e in rw same (record { is_row = is_row; same = refl })

  pub unset_in : (reason : Reason) (answer : Answered) → SetRow (Err reason) → answer ≡ Err (Stuck reason) → UnsetIn cell answer
  unset_in reason answer e stops = let (is_unset, same) = set_row_refused e in record { is_unset = is_unset; stops = rw same at stops }

-- what is read of a state where a cell is set
module _ (objects messages : List ℕ) (table : Table) {cell row : TermRow} (set : SetIn cell row) where
  pub accumulator_given : (state_over cell.0 objects messages table).accumulator ≡ Some row.0
  accumulator_given = rw set.same (accumulator_row cell.0 objects messages table (rw set.same at set.is_row))

module _ (accumulator : ℕ) (objects messages : List ℕ) (table : Table) {cell row : TermRow} (set : SetIn cell row) where
  pub object_given : (v : ℕ) → cell.0 ≡ get_or objects v unset → (state_over accumulator objects messages table).stores.σ v ≡ Some row.0
  object_given v read = object_row accumulator objects messages table v (set.same ∙ read) set.is_row

  pub message_given : (n : ℕ) → cell.0 ≡ get_or messages n unset → message row_world (state_over accumulator objects messages table) n ≡ Some row.0
  message_given n read = message_row accumulator objects messages table n (set.same ∙ read) set.is_row

pub ruleset row-ways = (halts, set_in, unset_in)
