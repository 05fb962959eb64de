-- Run's answer: it looks in the order 1, 2, 3, 9, then steps. Any answer but 0 leaves the values on entry.
use Rattle.std.specs.Prelude.{ℕ, zero, suc, Bool, not, ◌&&◌, List, [], ◌∷◌, ◌++◌, length, take, drop, eqb, leb}
use Rattle.std.specs.Prelude.{Option, None, Some}
use Rattle.std.specs.Option.{option_map}
use Rattle.answers.specs.Numbers.{reason_of}
use Rattle.answers.specs.declared.Ran.{Ran}
use Rattle.answers.specs.declared.Ran.TheVariants.{Done, Limit, BadTerm, BadStore, BadWord, Stuck, NoRoom}
use Rattle.code.specs.Instruction.{instruction_of}
use Rattle.code.specs.Words.{bad_word}
use Rattle.code.specs.declared.Instruction.{Instruction}
use Rattle.terms.specs.Rules.{used_rows, bad_term}
use Rattle.stores.specs.Cells.{held, cell_of, store_of, cells_from}
use Rattle.stores.specs.Valid.{valid}
use Rattle.theory.specs.Outcome.{Outcome, done, stuck, room}
use Rattle.theory.specs.RowModel.{Table, row_world}
use Rattle.numbers.specs.Limits.{variables, named_cells, scratch_cells, message_cells, most_code_words, most_term_rows, most_certificates, most_names}
use Rattle.theory.specs.Machine.{Line, line_at, State, exec}
use Rattle.answers.specs.First.{when, first}
use Rattle.numbers.specs.Kinds.{kind_in}

-- what is lent to a run
pub record Lent : Type 0 where
  pub kinds : List ℕ
  pub objects : List ℕ
  pub messages : List ℕ
  pub certificates : List ℕ
  pub accumulator : ℕ
  pub terms : List ℕ
  pub counter : ℕ

-- the answer, and what was lent afterwards
pub record RunOutcome : Type 0 where
  pub answer : Ran
  pub objects : List ℕ
  pub messages : List ℕ
  pub accumulator : ℕ
  pub terms : List ℕ
  pub counter : ℕ

-- the values on entry
abbrev pub unchanged : Ran → Lent → RunOutcome
unchanged answer x =
    record { answer = answer; objects = x.objects; messages = x.messages; accumulator = x.accumulator; terms = x.terms; counter = x.counter }

-- what was lent, after a run
abbrev pub lent_after : Lent → RunOutcome → Lent
lent_after x o = record {
  kinds = x.kinds;
  objects = o.objects;
  messages = o.messages;
  certificates = x.certificates;
  accumulator = o.accumulator;
  terms = o.terms;
  counter = o.counter;
}

-- an accumulator, cells and a table as a state of the machine at rows
unfoldable pub state_over : ℕ → List ℕ → List ℕ → Table → State row_world
state_over accumulator objects messages table = record {
  accumulator = held accumulator;
  scratches = store_of (drop named_cells messages);
  stores = record { σ = store_of objects; ρ = store_of (take named_cells messages); memory = table };
}

abbrev pub state_of : Lent → State row_world
state_of x =
    state_over x.accumulator x.objects x.messages
    (record { rows = x.terms; used = used_rows x.terms; counter = x.counter; certificates = x.certificates })

-- and back
unfoldable pub left_by : Ran → State row_world → RunOutcome
left_by answer s = record {
  answer = answer;
  objects = cells_from 0 variables s.stores.σ;
  messages = cells_from 0 named_cells s.stores.ρ ++ cells_from 0 scratch_cells s.scratches;
  accumulator = cell_of s.accumulator;
  terms = s.stores.memory.rows;
  counter = s.stores.memory.counter;
}

-- the instructions of code words, each at its number; every word that passed 9 has one
abbrev pub add_line : ℕ → Option Instruction → List Line → List Line
add_line place (Some instruction) lines = line_at place instruction ∷ lines
add_line place None lines = lines

unfoldable pub lines_from : ℕ → List ℕ → List Line
lines_from place [] = []
lines_from place (word ∷ rest) = add_line place (instruction_of word) (lines_from (suc place) rest)

abbrev pub lines_of : List ℕ → List Line
lines_of code = lines_from zero code

abbrev pub ended : ℕ → Lent → Outcome (State row_world) → RunOutcome
ended words x (done s) = left_by (Done words) s
ended words x (stuck place why) = unchanged (Stuck place (reason_of why)) x
ended words x (room place) = unchanged (NoRoom place) x

module _ (x : Lent) (code : List ℕ) where
  abbrev pub lengths_fit : Bool
  lengths_fit =
      eqb (length x.kinds) variables && eqb (length x.objects) variables && eqb (length x.messages) message_cells
      && leb (length x.certificates) most_certificates && leb (length x.terms) most_term_rows && leb x.counter most_names
      && leb (length code) most_code_words

  -- 1, 2, 3, 9
  abbrev pub refusals : List (Option Ran)
  refusals =
      when (not lengths_fit) Limit
      ∷ option_map BadTerm (bad_term x.terms x.counter)
      ∷ when
      (not (valid x.terms (used_rows x.terms) x.kinds x.objects x.messages x.certificates x.accumulator))
      BadStore
      ∷ option_map BadWord (bad_word (kind_in x.kinds) code)
      ∷ []

  abbrev pub run_by : Option Ran → RunOutcome
  run_by (Some answer) = unchanged answer x
  run_by None = ended (length code) x (exec row_world (kind_in x.kinds) (lines_of code) (state_of x))

  unfoldable pub run : RunOutcome
  run = run_by (first refusals)
