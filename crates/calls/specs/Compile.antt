-- Compile's answer: it looks in the order 1, 3, 4, 5, then 6 and 7 by emission, then 8.
use Rattle.std.specs.Prelude.{ℕ, Bool, true, false, cond, not, ◌&&◌, ◌≡◌, List, [], ◌∷◌, ◌++◌, map, length, get_or, take, drop, eqb, leb}
use Rattle.std.specs.Option.{option_map}
use Rattle.std.specs.Prelude.{Option, None, Some}
use Rattle.numbers.specs.Kinds.{kind_in}
use Rattle.numbers.specs.Limits.{variables, most_pattern_rows}
use Rattle.answers.specs.First.{when, first}
use Rattle.answers.specs.Numbers.{compiled_place}
use Rattle.answers.specs.declared.Compiled.{Compiled}
use Rattle.answers.specs.declared.Compiled.TheVariants.{Done, Limit, BadStore, BadPattern, WrongKind, CodeTooShort}
use Rattle.code.specs.Instruction.{word_of}
use Rattle.stores.specs.Cells.{unset, is_set}
use Rattle.stores.specs.Valid.{declared}
use Rattle.patterns.specs.Pattern.{Pattern}
use Rattle.patterns.specs.Rules.{bad_pattern}
use Rattle.patterns.specs.Tree.{pattern_of}
use Rattle.patterns.specs.Kinds.{wrong_kind}
use Rattle.theory.specs.Machine.{Line}
use Rattle.theory.specs.Emission.{Env, Emitted, ok, refuse}
use Rattle.theory.specs.Compilers.{compile↓, compile↑}

-- which cells are set; no scratch is taken yet
abbrev pub entry : List ℕ → List ℕ → Env
entry objects named = record { objects = λ v. is_set (get_or objects v unset); raws = λ r. is_set (get_or named r unset); next = 0 }

-- as many cells, and the same ones set
pub record SameSet (cells others : List ℕ) : Type 0 where
  pub same_length : length cells ≡ length others
  pub same_set : (i : ℕ) → is_set (get_or cells i unset) ≡ is_set (get_or others i unset)

-- figure 6 for creating, figure 5 for matching
abbrev pub tables : Bool → (ℕ → ℕ) → Pattern → Env → Emitted
tables true kind p e = compile↑ kind p e
tables false kind p e = compile↓ p e

abbrev pub code_words : List Line → List ℕ
code_words lines = map (λ l. word_of l.instruction) lines

-- the answer, and the lent code slice afterwards
pub record CompileOutcome : Type 0 where
  pub answer : Compiled
  pub code : List ℕ

abbrev pub leaves : Compiled → List ℕ → CompileOutcome
leaves answer code = record { answer = answer; code = code }

-- the used part of a code slice: its first n words, or an empty part where n exceeds its length
unfoldable pub used_part : ℕ → List ℕ → List ℕ
used_part n code = cond (leb n (length code)) (take n code) []

-- the code that compile wrote: as many words as it answers
abbrev pub compiled_code : CompileOutcome → List ℕ
compiled_code o = used_part (compiled_place o.answer) o.code

-- 8 where the words do not fit; words past the written ones stay
abbrev pub written : List ℕ → List ℕ → CompileOutcome
written words code =
    cond (leb (length words) (length code))
    (leaves (Done (length words)) (words ++ drop (length words) code))
    (leaves (CodeTooShort (length words)) code)

abbrev pub finished : Emitted → List ℕ → CompileOutcome
finished (ok lines e) code = written (code_words lines) code
finished (refuse answer) code = leaves answer code

module _ (create : Bool) (pattern kinds objects named : List ℕ) where
  abbrev pub lengths_fit : Bool
  lengths_fit =
      leb 1 (length pattern) && leb (length pattern) most_pattern_rows && eqb (length kinds) variables && eqb (length objects) variables
      && eqb (length named) variables

  -- 1, 3, 4, 5
  abbrev pub refusals : List (Option Compiled)
  refusals =
      when (not lengths_fit) Limit
      ∷ when (not (declared kinds objects)) BadStore
      ∷ option_map BadPattern (bad_pattern pattern)
      ∷ option_map WrongKind (wrong_kind create (kind_in kinds) pattern)
      ∷ []

  -- 6 and 7
  abbrev pub emitted : Emitted
  emitted = tables create (kind_in kinds) (pattern_of pattern) (entry objects named)

  abbrev pub compile_by : Option Compiled → List ℕ → CompileOutcome
  compile_by (Some answer) code = leaves answer code
  compile_by None code = finished emitted code

  unfoldable pub compile : List ℕ → CompileOutcome
  compile code = compile_by (first refusals) code
