-- A run of good words that ends leaves a valid state, whose used rows are those before its first zero row.
use Prim.Native.Nat.{ℕ, zero, suc, ◌<◌}
use mathlib.Core.Path.{◌≡◌, refl}
use Rattle.std.specs.Prelude.{Option, None, Some}
use mathlib.Core.List.{List, [], ◌∷◌}
use native.Mathlib.Omega.{arith}
use lib.Dec.{T}
use lib.ListN.{length, get_or}
use Rattle.word.specs.All.{All}
use Rattle.code.specs.Instruction.{instruction_of}
use Rattle.code.specs.Words.{operands_fit, bad_word}
use Rattle.code.specs.declared.Instruction.{Instruction}
use Rattle.code.specs.GoodWords.{GoodWord}
use Rattle.code.proofs.WordLaws.{good_iff, no_bad_word_iff}
use Rattle.theory.specs.Outcome.{Outcome, done}
use Rattle.theory.specs.RowModel.{row_world}
use Rattle.theory.specs.TermModel.{term_world}
use Rattle.theory.specs.Machine.{Line, State, exec}
use Rattle.theory.proofs.Fitting.{ByteFits, good_word_fits}
use Rattle.theory.proofs.Related.{OutcomeR, dones}
use Rattle.theory.proofs.RowsRunAsTerms.{ValidState, Reads, terms_of, rows_run_as_terms}
use Rattle.numbers.specs.Kinds.{kind_in}
use Rattle.calls.specs.Run.{Lent, add_line, lines_from, lines_of, state_of}
use Rattle.calls.specs.Valid.{Valid}
use Rattle.calls.proofs.ValidLent.{valid_state}

-- the instructions of good words fit
module _ (kind : ℕ → ℕ) where
  abbrev Fits : Line → Type 0
  Fits l = T (operands_fit kind l.instruction) × ByteFits l.instruction

  pub good_lines : (place : ℕ) (code : List ℕ) → ((i : ℕ) → i < length code → GoodWord kind (get_or code i 0)) → All Fits (lines_from place code)
  unfolding lines_from
  good_lines place [] good = tt
  good_lines place (word ∷ rest) good = add (instruction_of word) refl (good_lines (suc place) rest λ i l. good (suc i) (omega arith))
    where
      fits : (i : Instruction) → instruction_of word ≡ Some i → T (operands_fit kind i) × ByteFits i
      fits i e = good_word_fits kind word i e ((good_iff kind word).1 (good zero (omega arith)))

      add : (o : Option Instruction) → instruction_of word ≡ o → All Fits (lines_from (suc place) rest) → All Fits (add_line place o (lines_from (suc place) rest))
      add (Some i) e h = (fits i e, h)
      add None e h = h

module _ (x : Lent) (code : List ℕ) (valid : Valid x) (good : bad_word (kind_in x.kinds) code ≡ None) (t : State row_world) where
  pub state_valid : exec row_world (kind_in x.kinds) (lines_of code) (state_of x) ≡ done t → ValidState (kind_in x.kinds) t
  state_valid steps =
      done_valid (rw steps at (rows_run_as_terms (kind_in x.kinds) (lines_of code) (state_of x) (terms_of (state_of x))
      (good_lines (kind_in x.kinds) zero code ((no_bad_word_iff (kind_in x.kinds) code).0 good)) (valid_state x valid, refl)))
    where
      done_valid : {o : Outcome (State term_world)} → OutcomeR (Reads (kind_in x.kinds)) (done t) o → ValidState (kind_in x.kinds) t
      done_valid (dones r) = r.0
