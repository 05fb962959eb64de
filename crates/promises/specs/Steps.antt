-- One instruction after another: the state after some words of a code, and the word that does not go on.
use Rattle.std.specs.Prelude.{ℕ, zero, suc, ◌<◌, ◌≡◌, List, length, get_or}
use Rattle.std.specs.Prelude.{Some}
use Rattle.code.specs.Instruction.{instruction_of}
use Rattle.code.specs.declared.Instruction.{Instruction}
use Rattle.theory.specs.Outcome.{Outcome, done}
use Rattle.theory.specs.RowModel.{row_world}
use Rattle.theory.specs.Machine.{State, step}
use Rattle.numbers.specs.Kinds.{kind_in}
use Rattle.calls.specs.Run.{Lent, state_of}

module _ (x : Lent) (code : List ℕ) where
  -- the step of a word, at its own number, from a state
  pub record Word (place : ℕ) (s : State row_world) (o : Outcome (State row_world)) : Type 0 where
    pub inside : place < length code
    pub instruction : Instruction
    pub says : instruction_of (get_or code place 0) ≡ Some instruction
    pub steps : step row_world (kind_in x.kinds) place instruction s ≡ o

  -- the state after the first words
  pub data After : ℕ → State row_world → Type 0 where
    start : After zero (state_of x)
    next : {place : ℕ} {s t : State row_world} → After place s → Word place s (done t) → After (suc place) t

  -- a word that comes to an outcome after all words before it went on
  pub record At (place : ℕ) (o : Outcome (State row_world)) : Type 0 where
    pub state : State row_world
    pub before : After place state
    pub word : Word place state o
