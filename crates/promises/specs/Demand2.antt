-- Demand 2: compile's words are the packed code of figures 5 and 6, and run is one step after another.
use Rattle.std.specs.Prelude.{ℕ, ◌≤◌, ◌≡◌, Bool, List, ◌++◌, length, drop}
use Rattle.word.specs.All.{All}
use Rattle.answers.specs.declared.Ran.TheVariants as Ran
use Rattle.code.specs.GoodWords.{AllGoodWords}
use Rattle.patterns.specs.Tree.{pattern_of}
use Rattle.theory.specs.Outcome.{stuck, room}
use Rattle.theory.specs.RowModel.{row_world}
use Rattle.theory.specs.Machine.{Line, State}
use Rattle.theory.specs.Emission.{Env, ok}
use Rattle.theory.specs.Bounds.{CellsFit}
use Rattle.calls.specs.Compile.{SameSet, CompileOutcome, code_words, compiled_code, tables, entry, compile}
use Rattle.numbers.specs.Kinds.{kind_in}
use Rattle.calls.specs.Run.{Lent, RunOutcome, left_by, run}
use Rattle.promises.specs.Answers.{CompileAnswers, RunAnswers, compile_number}
use Rattle.promises.specs.Steps.{After, At}

-- The lines of figure 6 for creating and of figure 5 for matching, their words in front of the slice, and the rest of the slice as it was.
pub record WritesTable (create : Bool) (pattern kinds objects named slice : List ℕ) (o : CompileOutcome) : Type 0 where
  pub lines : List Line
  pub env : Env
  pub table : tables create (kind_in kinds) (pattern_of pattern) (entry objects named) ≡ ok lines env
  pub count : CompileAnswers o 0 (length lines)
  pub code : o.code ≡ code_words lines ++ drop (length lines) slice
  -- at most 767 words, no message cell above 254, and each word is good for run
  pub words : length lines ≤ 767
  pub cells : All (λ l. CellsFit l.instruction) lines
  pub good : AllGoodWords (kind_in kinds) (code_words lines)

-- Two calls with the same answer, and where it is 0 the same code.
pub record SameCode (o o' : CompileOutcome) : Type 0 where
  pub answer : o.answer ≡ o'.answer
  pub code : compile_number o ≡ 0 → compiled_code o ≡ compiled_code o'

-- What a finished, a stuck and a full run have done, word after word.
pub record StepByStep (x : Lent) (code : List ℕ) (o : RunOutcome) : Type 0 where
  pub done : {place reason : ℕ} → RunAnswers o 0 place reason → (t : State row_world) × After x code (length code) t × (o ≡ left_by (Ran.Done (length code)) t)
  pub stuck : {place reason : ℕ} → RunAnswers o 10 place reason → At x code place (stuck place reason)
  pub full : {place reason : ℕ} → RunAnswers o 11 place reason → At x code place (room place)

pub record Demand2 : Type 0 where
  pub compiles : (create : Bool) (pattern kinds objects named slice : List ℕ) → compile_number (compile create pattern kinds objects named slice) ≡ 0
      → WritesTable create pattern kinds objects named slice (compile create pattern kinds objects named slice)
  -- compile sees only which cells are set, and of the slice its length
  pub sees : (create : Bool) (pattern kinds : List ℕ) {objects objects' named named' : List ℕ} (slice slice' : List ℕ)
      → SameSet objects objects' → SameSet named named' → length slice ≡ length slice'
      → SameCode (compile create pattern kinds objects named slice) (compile create pattern kinds objects' named' slice')
  pub runs : (x : Lent) (code : List ℕ) → StepByStep x code (run x code)
