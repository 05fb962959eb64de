-- Demand 1: document 01's table of numbers, exactly. A number is given where its condition holds and no earlier one does, at its place; with any answer but 0 all that was lent is as on entry.
use Rattle.std.specs.Prelude.{ℕ, ◌<◌, ◌≤◌, ◌≡◌, ◌↔◌, ◌≢◌, ◌⊎◌, Bool, List, length}
use Rattle.answers.specs.Numbers.{ran_reason}
use Rattle.answers.specs.declared.Compiled.{Compiled}
use Rattle.answers.specs.declared.Compiled.TheVariants.{WrittenWhileSet, ReadWhileUnset}
use Rattle.terms.specs.Table.{ValidTable}
use Rattle.theory.specs.Outcome.{stuck, room}
use Rattle.theory.specs.RowModel.{row_world}
use Rattle.theory.specs.Machine.{State}
use Rattle.theory.specs.Emission.{refuse}
use Rattle.calls.specs.Compile.{CompileOutcome, compile}
use Rattle.calls.specs.Run.{Lent, unchanged, run}
use Rattle.promises.specs.Answers.{CompileAnswers, RunAnswers, compile_number, run_number}
use Rattle.promises.specs.Conditions.{CompileWithin, BadVariable, BadPatternAt, GoodPattern, WrongKindAt, CompileChecked, emission, Emits, RunWithin, BadTermAt, ValidStores, Valid, BadWordAt, RunChecked}
use Rattle.promises.specs.Steps.{After, At}

-- Compile looks in the order 1, 3, 4, 5, then 6 and 7 by emission, then 8.
module _ (create : Bool) (pattern kinds objects named slice : List ℕ) where
  abbrev compiled : CompileOutcome
  compiled = compile create pattern kinds objects named slice

  abbrev Within : Type 0
  Within = CompileWithin pattern kinds objects named

  abbrev Checked : Type 0
  Checked = CompileChecked create pattern kinds objects named

  abbrev stops : Compiled → Type 0
  stops answer = emission create pattern kinds objects named ≡ refuse answer

  abbrev needs : ℕ → Type 0
  needs words = Emits create pattern kinds objects named words

  pub record CompileTable : Type 0 where
    pub limit : CompileAnswers compiled 1 0 ↔ (Within → ⊥)
    pub bad_store : CompileAnswers compiled 3 0 ↔ (Within × BadVariable kinds objects)
    pub bad_pattern : (row : ℕ) → CompileAnswers compiled 4 row ↔ (Within × (BadVariable kinds objects → ⊥) × BadPatternAt pattern row)
    pub wrong_kind : (row : ℕ)
        → CompileAnswers compiled 5 row ↔ (Within × (BadVariable kinds objects → ⊥) × GoodPattern pattern × WrongKindAt create kinds pattern row)
    pub written_while_set : (row : ℕ) → CompileAnswers compiled 6 row ↔ (Checked × stops (WrittenWhileSet row))
    pub read_while_unset : (row : ℕ) → CompileAnswers compiled 7 row ↔ (Checked × stops (ReadWhileUnset row))
    pub too_short : (words : ℕ) → CompileAnswers compiled 8 words ↔ (Checked × needs words × (length slice < words))
    pub done : (words : ℕ) → CompileAnswers compiled 0 words ↔ (Checked × needs words × (words ≤ length slice))
    pub left : compile_number compiled ≢ 0 → compiled.code ≡ slice
    -- 0, 1 or 3 to 8
    pub range : (compile_number compiled ≤ 8) × (compile_number compiled ≢ 2)

-- Run looks in the order 1, 2, 3, 9, then steps.
module _ (x : Lent) (code : List ℕ) where
  pub record RunTable : Type 0 where
    pub limit : RunAnswers (run x code) 1 0 0 ↔ (RunWithin x code → ⊥)
    pub bad_term_lem : (row : ℕ) → RunAnswers (run x code) 2 row 0 ↔ (RunWithin x code × BadTermAt x row)
    pub bad_store : RunAnswers (run x code) 3 0 0 ↔ (RunWithin x code × ValidTable x.terms x.counter × (ValidStores x → ⊥))
    pub bad_word : (word : ℕ) → RunAnswers (run x code) 9 word 0 ↔ (RunWithin x code × Valid x × BadWordAt x code word)
    pub stuck : (word reason : ℕ) → RunAnswers (run x code) 10 word reason ↔ (RunChecked x code × At x code word (stuck word reason))
    pub no_room : (word : ℕ) → RunAnswers (run x code) 11 word 0 ↔ (RunChecked x code × At x code word (room word))
    pub done : (words : ℕ) → RunAnswers (run x code) 0 words 0 ↔ (RunChecked x code × (words ≡ length code) × ((t : State row_world) × After x code words t))
    pub left : run_number (run x code) ≢ 0 → run x code ≡ unchanged (run x code).answer x
    -- 0 to 3 or 9 to 11; a reason of 1 to 7 where it is stuck, else 0
    pub range : (run_number (run x code) ≤ 3) ⊎ ((9 ≤ run_number (run x code)) × (run_number (run x code) ≤ 11))
    pub reason : run_number (run x code) ≡ 10 → (1 ≤ ran_reason (run x code).answer) × (ran_reason (run x code).answer ≤ 7)
    pub no_reason : run_number (run x code) ≢ 10 → ran_reason (run x code).answer ≡ 0

pub record Demand1 : Type 0 where
  pub compiles : (create : Bool) (pattern kinds objects named slice : List ℕ) → CompileTable create pattern kinds objects named slice
  pub runs : (x : Lent) (code : List ℕ) → RunTable x code
