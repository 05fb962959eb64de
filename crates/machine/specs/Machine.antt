-- What a method of the machine does is a step of figure 4 at rows, on the slices that are lent.
use Rattle.std.specs.Prelude.{ℕ, zero, suc, ◌+◌, ◌≤◌, ◌≡◌, List, length, set, Result, Ok, Err}
use Rattle.answers.specs.Numbers.{reason_number}
use Rattle.answers.specs.declared.Reason.{Reason}
use Rattle.numbers.specs.Limits.{most_term_rows}
use Rattle.numbers.specs.declared.TermRow.{TermRow}
use Rattle.code.specs.declared.Instruction.{Instruction}
use Rattle.theory.specs.Outcome.{Outcome, done}
use Rattle.theory.specs.RowModel.{row_world}
use Rattle.theory.specs.Machine.{State, step}
use Rattle.calls.specs.Run.{state_over}
use Rattle.machine.specs.declared.Registers.{Registers}
use Rattle.machine.specs.declared.Halt.{Halt}
use Rattle.machine.specs.declared.Halt.TheVariants.{Stuck, NoRoom}

pub record Slices : Type 0 where
  pub objects : List ℕ
  pub messages : List ℕ
  pub rows : List ℕ
  pub certificates : List ℕ

abbrev pub slices : List ℕ → List ℕ → List ℕ → List ℕ → Slices
slices objects messages rows certificates = record { objects = objects; messages = messages; rows = rows; certificates = certificates }

abbrev pub with_objects : Slices → List ℕ → Slices
with_objects x objects = record { objects = objects; messages = x.messages; rows = x.rows; certificates = x.certificates }

abbrev pub with_messages : Slices → List ℕ → Slices
with_messages x messages = record { objects = x.objects; messages = messages; rows = x.rows; certificates = x.certificates }

abbrev pub with_term_rows : Slices → List ℕ → Slices
with_term_rows x rows = record { objects = x.objects; messages = x.messages; rows = rows; certificates = x.certificates }

abbrev pub with_certificates : Slices → List ℕ → Slices
with_certificates x certificates = record { objects = x.objects; messages = x.messages; rows = x.rows; certificates = certificates }

-- registers and slices as a state of the machine at rows
abbrev pub state_at : Registers → Slices → State row_world
state_at g x =
    state_over g.accumulator.0 x.objects x.messages
    (record { rows = x.rows; used = g.used; counter = g.counter; certificates = x.certificates })

-- the registers with another accumulator, number of used rows, or besides that another name counter
abbrev pub holding : Registers → TermRow → Registers
holding g row = record { place = g.place; accumulator = row; used = g.used; counter = g.counter }

abbrev pub using_rows : Registers → ℕ → Registers
using_rows g used = record { place = g.place; accumulator = g.accumulator; used = used; counter = g.counter }

abbrev pub naming : Registers → ℕ → ℕ → Registers
naming g used counter = record { place = g.place; accumulator = g.accumulator; used = used; counter = counter }

-- n rows written to the cells from b on, one after another as in `set_messages`
unfoldable pub spread : List ℕ → ℕ → ℕ → (ℕ → ℕ) → List ℕ
spread cells b zero row = cells
spread cells b (suc n) row = set (spread cells b n row) (b + n) (row n)

-- the used rows are within the slice, and row numbers are below 65,535
pub record Within (rows : List ℕ) (used : ℕ) : Type 0 where
  pub used_rows_lem : used ≤ length rows
  pub few_rows : length rows ≤ most_term_rows

pub record SameLengths (x y : Slices) : Type 0 where
  pub objects_length : length y.objects ≡ length x.objects
  pub messages_length : length y.messages ≡ length x.messages
  pub rows_length : length y.rows ≡ length x.rows

-- a step's registers, or why there is none
abbrev pub Answered : Type 0
Answered = Result Registers Halt

-- an answer of the code agrees with an outcome: the next state is that of the slices; anything else leaves them
pub data Agrees (before : Slices) : Outcome (State row_world) → Answered → Slices → Type 0 where
  next : {s : State row_world} {g : Registers} {after : Slices} → state_at g after ≡ s → SameLengths before after → Agrees before (done s) (Ok g) after
  stuck : {place why : ℕ} {reason : Reason} {after : Slices} → reason_number reason ≡ why → after ≡ before → Agrees before (Outcome.stuck place why) (Err (Stuck reason)) after
  no_room : {place : ℕ} {after : Slices} → after ≡ before → Agrees before (Outcome.room place) (Err NoRoom) after

-- a method that sees some of the slices does a step, whatever the others are
abbrev pub DoesStep : (ℕ → ℕ) → Instruction → Registers → (Slices → Slices) → Answered → (Slices → Slices) → Type 0
DoesStep kind instruction g before answer after =
    (x : Slices) → Agrees (before x) (step row_world kind g.place instruction (state_at g (before x))) answer (after x)
