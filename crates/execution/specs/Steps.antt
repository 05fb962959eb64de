-- What run's steps start from and leave, and rows that are unused again.
use Rattle.std.specs.Prelude.{ℕ, ◌<◌, ◌≤◌, ◌≡◌, cond, List, eqb, length, get_or}
use Rattle.std.specs.Prelude.{None, Some}
use Rattle.answers.specs.Numbers.{ran_number}
use Rattle.answers.specs.declared.Ran.{Ran}
use Rattle.code.specs.Instruction.{instruction_of}
use Rattle.code.specs.Words.{bad_word}
use Rattle.code.specs.declared.Instruction.{Instruction}
use Rattle.terms.specs.Rules.{used_rows}
use Rattle.theory.specs.RowModel.{row_world}
use Rattle.theory.specs.Machine.{step}
use Rattle.numbers.specs.Kinds.{kind_in}
use Rattle.calls.specs.Run.{Lent, RunOutcome}
use Rattle.calls.specs.Valid.{Valid}
use Rattle.numbers.specs.Limits.{most_round_words}
use Rattle.machine.specs.Machine.{Slices, Answered, state_at, Agrees}
use Rattle.machine.specs.declared.Registers.{Registers}
use Rattle.machine.specs.declared.Halt.{Halt}
use Rattle.machine.specs.declared.Halt.TheVariants.{Stuck, NoRoom}

-- rows that are zero from one on to another, and as they were elsewhere
pub record Cleared (rows : List ℕ) (from to : ℕ) (rows' : List ℕ) : Type 0 where
  pub long : length rows' ≡ length rows
  pub below : (row : ℕ) → row < from → get_or rows' row 0 ≡ get_or rows row 0
  pub zeros : (row : ℕ) → from ≤ row → row < to → get_or rows' row 0 ≡ 0
  pub above : (row : ℕ) → to ≤ row → get_or rows' row 0 ≡ get_or rows row 0

-- the registers at a word
abbrev pub at_word : Registers → ℕ → Registers
at_word g place = record { place = place; accumulator = g.accumulator; used = g.used; counter = g.counter }

-- what a run answers that a step stopped
abbrev pub halted : Halt → ℕ → Ran
halted (Stuck reason) place = Ran.Stuck place reason
halted NoRoom place = Ran.NoRoom place

-- what is lent, with the registers' accumulator and counter
abbrev pub lent_from : Registers → List ℕ → List ℕ → List ℕ → List ℕ → List ℕ → Lent
lent_from g kinds objects messages certificates rows = record {
  kinds = kinds;
  objects = objects;
  messages = messages;
  certificates = certificates;
  accumulator = g.accumulator.0;
  terms = rows;
  counter = g.counter;
}

-- what the steps leave
abbrev pub left_with : Ran → Registers → List ℕ → List ℕ → List ℕ → RunOutcome
left_with answer g objects messages rows =
    record { answer = answer; objects = objects; messages = messages; accumulator = g.accumulator.0; terms = rows; counter = g.counter }

-- cells after an answer, from those before and those that the steps left: a run that is not done keeps those before
abbrev pub cells_after : Ran → List ℕ → List ℕ → List ℕ
cells_after answer before after = cond (eqb (ran_number answer) 0) after before

-- what 1, 2, 3 and 9 leave true
pub record Ready (x : Lent) (used : ℕ) (code : List ℕ) : Type 0 where
  pub valid : Valid x
  pub counted : used ≡ used_rows x.terms
  pub good_words : bad_word (kind_in x.kinds) code ≡ None
  pub few_words : length code ≤ most_round_words

-- a word is done as the step of its instruction
abbrev pub DoesWord : (ℕ → ℕ) → ℕ → ℕ → Registers → Slices → Answered → Slices → Type 0
DoesWord kind place word g before answer after =
    (instruction : Instruction) → instruction_of word ≡ Some instruction
    → Agrees before (step row_world kind place instruction (state_at g before)) answer after
