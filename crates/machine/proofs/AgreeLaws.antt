-- How an answer comes to agree with an outcome: a read, then what an operation answers.
use Prim.Native.Nat.{ℕ, ◌<◌}
use mathlib.Core.Path.{◌≡◌, refl, ap}
use Rattle.std.specs.Prelude.{Option, None, Some, Ok, Err}
use mathlib.Core.List.{List}
use lib.ListN.{length, set, length-set}
use Rattle.answers.specs.Numbers.{reason_number}
use Rattle.answers.specs.declared.Reason.{Reason}
use Rattle.answers.specs.declared.Reason.TheVariants.{Unset}
use Rattle.numbers.specs.declared.TermRow.{TermRow}
use Rattle.terms.specs.Finder.{Found}
use Rattle.theory.specs.Outcome.{Outcome, done, bind, at, need, Answer, got, not, full}
use Rattle.theory.specs.RowModel.{Table, row_world}
use Rattle.theory.specs.Machine.{State, with_accumulator, with_stores, set_object, set_memory}
use Rattle.machine.specs.Machine.{Slices, with_objects, with_messages, with_term_rows, state_at, holding, using_rows, SameLengths, Agrees, next, stuck, no_room, Answered}
use Rattle.machine.specs.declared.Registers.{Registers}
use Rattle.machine.specs.declared.Halt.TheVariants.{Stuck, NoRoom}
use Rattle.machine.proofs.FoundLaws.{Finds, found_length, found_row, full_kept}
use Rattle.machine.proofs.StateLaws.{accumulator_made, object_made}
use Rattle.machine.proofs.AskLaws.{Placing, placed_at, placed_full}

module _ {before after : Slices} {answer : Answered} (place : ℕ) where
  -- a cell that is set
  pub reads : {o : Option ℕ} {row : ℕ} (f : ℕ → Outcome (State row_world))
      → o ≡ Some row → Agrees before (f row) answer after → Agrees before (bind (need place o) f) answer after
  reads f e h = rw e h

  -- an operation that gives a value
  pub gets : {A : Type 0} {result : Answer A} {a : A} (f : A → Outcome (State row_world))
      → result ≡ got a → Agrees before (f a) answer after → Agrees before (bind (at place result) f) answer after
  gets f e h = rw e h

  pub answers_as : {A : Type 0} {result other : Answer A} (f : A → Outcome (State row_world))
      → result ≡ other → Agrees before (bind (at place other) f) answer after → Agrees before (bind (at place result) f) answer after
  answers_as f e h = rw e h

module _ {before : Slices} (place : ℕ) where
  pub unset_stops : {o : Option ℕ} (f : ℕ → Outcome (State row_world)) → o ≡ None → Agrees before (bind (need place o) f) (Err (Stuck Unset)) before
  unset_stops f e = rw e (stuck refl refl)

  pub stops : {A : Type 0} {result : Answer A} {reason : Reason} (f : A → Outcome (State row_world))
      → result ≡ not (reason_number reason) → Agrees before (bind (at place result) f) (Err (Stuck reason)) before
  stops f e = rw e (stuck refl refl)

  pub fills : {A : Type 0} {result : Answer A} {after : Slices} (f : A → Outcome (State row_world))
      → result ≡ full → after ≡ before → Agrees before (bind (at place result) f) (Err NoRoom) after
  fills f e same = rw e (no_room same)

-- lengths after a write
pub same_lengths : (x : Slices) → SameLengths x x
same_lengths x = record { objects_length = refl; messages_length = refl; rows_length = refl }

pub objects_lengths : (x : Slices) (v row : ℕ) → SameLengths x (with_objects x (set x.objects v row))
objects_lengths x v row = record { objects_length = length-set x.objects v row; messages_length = refl; rows_length = refl }

pub messages_lengths : (x : Slices) (r row : ℕ) → SameLengths x (with_messages x (set x.messages r row))
messages_lengths x r row = record { objects_length = refl; messages_length = length-set x.messages r row; rows_length = refl }

-- a term that is made goes to the accumulator, or to an object variable
abbrev placing : Registers → Slices → ℕ → Answer (ℕ × Table)
placing g x term = Placing g.accumulator.0 x.objects x.messages (record { rows = x.rows; used = g.used; counter = g.counter; certificates = x.certificates }) term

module _ (g : Registers) (x : Slices) {term : ℕ} {found : Found} {rows' : List ℕ} (answer : Finds x.rows g.used term found rows') (place : ℕ) where
  pub finds_no_room : (f : ℕ × Table → Outcome (State row_world)) → found ≡ None → Agrees x (bind (at place (placing g x term)) f) (Err NoRoom) (with_term_rows x rows')
  finds_no_room f e = fills place f (placed_full _ _ _ _ answer e) (ap (with_term_rows x) (full_kept answer e))

  module _ {row : TermRow} {used : ℕ} (e : found ≡ Some (row, used)) where
    pub makes_accumulator : Agrees x
        (bind (at place (placing g x term)) λ r. done (with_accumulator row_world (with_stores row_world (state_at g x) (set_memory row_world (state_at g x).stores r.1)) r.0))
        (Ok (holding (using_rows g used) row)) (with_term_rows x rows')
    makes_accumulator =
        gets place _ (placed_at _ _ _ _ answer e)
        (next (accumulator_made _ _ _ _ row.0 (found_row answer e) _) (record { objects_length = refl; messages_length = refl; rows_length = found_length answer }))

    pub makes_object : (v : ℕ) → v < length x.objects → Agrees x
        (bind (at place (placing g x term)) λ r. done (with_stores row_world (state_at g x) (set_object row_world (set_memory row_world (state_at g x).stores r.1) v r.0)))
        (Ok (using_rows g used)) (with_term_rows (with_objects x (set x.objects v row.0)) rows')
    makes_object v inside =
        gets place _ (placed_at _ _ _ _ answer e)
        (next (object_made _ _ _ _ row.0 (found_row answer e) _ v inside)
        (record { objects_length = length-set x.objects v row.0; messages_length = refl; rows_length = found_length answer }))
