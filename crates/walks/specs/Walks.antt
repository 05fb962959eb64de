-- What a function of the walk does is a rule at rows, on the slices that are lent.
use Rattle.std.specs.Prelude.{ℕ, ◌≤◌, ◌≡◌, length, take, Err, Ok, Result}
use Rattle.answers.specs.Numbers.{reason_of}
use Rattle.answers.specs.declared.Reason.{Reason}
use Rattle.numbers.specs.declared.TermRow.{TermRow}
use Rattle.stores.specs.Cells.{unset}
use Rattle.theory.specs.Outcome.{Outcome, done, bind, at}
use Rattle.theory.specs.RowModel.{row_world}
use Rattle.theory.specs.Machine.{Stores, set_object, set_memory}
use Rattle.world.specs.Operations.{finding}
use Rattle.calls.specs.Run.{state_over}
use Rattle.machine.specs.Machine.{Slices, SameLengths}
use Rattle.walks.specs.declared.Walk.{Walk}
use Rattle.walks.specs.declared.Ended.{Ended}
use Rattle.walks.specs.declared.Ended.TheVariants.{Stuck, NoRoom}

-- the walk goes on, or has ended
abbrev pub Walked : Type 0
Walked = Result Walk Ended

-- a refusal of what an operation answers ends the walk at a row
abbrev pub asked_at : {T : Type 0} → ℕ → Result T Reason → Result T Ended
asked_at row (Ok x) = Ok x
asked_at row (Err reason) = Err (Stuck row reason)

-- the walk with another message in hand
abbrev pub meeting : Walk → TermRow → Walk
meeting w message = record { message = message; used = w.used; counter = w.counter }

-- a walk and the slices as the stores of the rules
abbrev pub stores_at : Walk → Slices → Stores row_world
stores_at w x =
    (state_over w.message.0 x.objects x.messages
    (record { rows = x.rows; used = w.used; counter = w.counter; certificates = x.certificates })).stores

-- the slices are as long as before, and the rows that were used stay, so that the others can be given back
pub record Kept (used : ℕ) (before after : Slices) : Type 0 where
  pub lengths : SameLengths before after
  pub rows : take used after.rows ≡ take used before.rows

-- a message in hand, more rows in use than before perhaps, and all of them within the table
pub record Onward (used : ℕ) (w : Walk) (after : Slices) : Type 0 where
  pub message : w.message.0 ≡ unset → ⊥
  pub more : used ≤ w.used
  pub inside : w.used ≤ length after.rows

-- a walk comes to what the rule comes to, as far as it is seen
pub data Comes {A : Type 0} (seen : ℕ → Stores row_world → A) (used : ℕ) (before : Slices) : Outcome A → Walked → Slices → Type 0 where
  goes : {a : A} {w : Walk} {after : Slices} → seen w.message.0 (stores_at w after) ≡ a → Onward used w after → Kept used before after
      → Comes seen used before (done a) (Ok w) after
  sticks : {row why : ℕ} {reason : Reason} {after : Slices} → reason_of why ≡ reason → Kept used before after
      → Comes seen used before (Outcome.stuck row why) (Err (Stuck row reason)) after
  fills : {row : ℕ} {after : Slices} → Kept used before after → Comes seen used before (Outcome.room row) (Err (NoRoom row)) after

-- of a match the stores are seen, of a creation the message and the stores
abbrev pub stores_alone : ℕ → Stores row_world → Stores row_world
stores_alone m n = n

abbrev pub message_and_stores : ℕ → Stores row_world → ℕ × Stores row_world
message_and_stores m n = (m, n)

-- a function that sees some of the slices walks by a rule, whatever the others are
abbrev pub WalksBy : {A : Type 0} → (ℕ → Stores row_world → A) → (Stores row_world → Outcome A) → Walk → (Slices → Slices) → Walked → (Slices → Slices) → Type 0
WalksBy seen rule w before answer after = (x : Slices) → Comes seen w.used (before x) (rule (stores_at w (before x))) answer (after x)

-- the term of a word, found or made, and then the value of v
abbrev pub founds : ℕ → ℕ → Stores row_world → Outcome (ℕ × Stores row_world)
founds row word n = bind (at row (finding n.memory word)) λ r. done (r.0, set_memory row_world n r.1)

abbrev pub keeps : ℕ → ℕ → ℕ → Stores row_world → Outcome (ℕ × Stores row_world)
keeps row v word n = bind (at row (finding n.memory word)) λ r. done (r.0, set_object row_world (set_memory row_world n r.1) v r.0)
