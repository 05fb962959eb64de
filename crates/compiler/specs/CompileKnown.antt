-- A half into a buffer that is long enough for every code.
use Rattle.std.specs.Prelude.{ℕ, Bool, List, ◌++◌, length, drop, replicate}
use Rattle.numbers.specs.Limits.{most_code_words}
use Rattle.answers.specs.declared.Compiled.{Compiled}
use Rattle.answers.specs.declared.Compiled.TheVariants.{Done}
use Rattle.theory.specs.Emission.{Env, Emitted, ok, refuse}
use Rattle.calls.specs.Compile.{code_words}
use Rattle.calls.specs.Half.{half}

-- a buffer without a word
unfoldable pub no_words : List ℕ
no_words = replicate most_code_words 0

-- the answer, the buffer's words, and which cells are set afterwards
pub record KnownOutcome : Type 0 where
  pub answer : Compiled
  pub words : List ℕ
  pub objects : ℕ → Bool
  pub named : ℕ → Bool

-- the code in front of what was there, and what its emission has set
abbrev pub known_done : List ℕ → Env → List ℕ → KnownOutcome
known_done words env buffer =
    record { answer = Done (length words); words = words ++ drop (length words) buffer; objects = env.objects; named = env.raws }

module _ (objects named : ℕ → Bool) where
  -- cells that are set; no scratch is taken yet
  abbrev pub from_known : Env
  from_known = record { objects = objects; raws = named; next = 0 }

  -- a refusal: no word, and the cells that were set
  abbrev pub known_refused : Compiled → KnownOutcome
  known_refused answer = record { answer = answer; words = no_words; objects = objects; named = named }

  abbrev pub known_finished : Emitted → List ℕ → KnownOutcome
  known_finished (ok lines env) buffer = known_done (code_words lines) env buffer
  known_finished (refuse answer) buffer = known_refused answer

unfoldable pub compile_known : Bool → List ℕ → List ℕ → (ℕ → Bool) → (ℕ → Bool) → List ℕ → KnownOutcome
compile_known create pattern kinds objects named buffer = known_finished objects named (half create pattern kinds (from_known objects named)) buffer
