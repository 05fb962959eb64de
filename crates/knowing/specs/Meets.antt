-- When the compiler's emission and its words are what the tables say.
use Rattle.std.specs.Prelude.{ℕ, ◌+◌, ◌≤◌, ◌≡◌, List, length}
use Rattle.std.specs.Prelude.{None, Some}
use Rattle.std.specs.Option.{option_or}
use Rattle.std.proofs.lemmas.List.Edits.{sets}
use Rattle.numbers.specs.Limits.{most_code_words}
use Rattle.answers.specs.declared.Compiled.{Compiled}
use Rattle.theory.specs.Machine.{Line}
use Rattle.theory.specs.Emission.{Env, Emitted, ok, refuse, and_then}
use Rattle.calls.specs.Compile.{code_words}
use Rattle.knowing.specs.Known.{known}
use Rattle.knowing.specs.declared.Emission.{Emission}

abbrev pub env_of : Emission → Env
env_of e = record { objects = known e.objects; raws = known e.raws; next = e.next }

-- an earlier refusal stays
unfoldable pub refusing : Compiled → Emission → Emission
refusing answer e = record e { refusal = option_or e.refusal (Some answer) }

-- no refusal so far: the words of the lines stand from a place on
pub record Fine (lines : List Line) (reached : Env) (start : ℕ) (blank : List ℕ) (e : Emission) (code : List ℕ) : Type 0 where
  pub fine : e.refusal ≡ None
  pub env : env_of e ≡ reached
  pub written : e.written ≡ start + length lines
  pub words : code ≡ sets blank start (code_words lines)

unfoldable pub MeetsBy : Emitted → ℕ → List ℕ → Emission → List ℕ → Type 0
MeetsBy (ok lines env) start blank e code = Fine lines env start blank e code
MeetsBy (refuse answer) start blank e code = e.refusal ≡ Some answer

pub record Meets (a : Emitted) (start : ℕ) (blank : List ℕ) (e : Emission) (code : List ℕ) : Type 0 where
  pub met : MeetsBy a start blank e code

-- the step f leads from e and code to e' and code': whatever emission came to e, that and then f comes to e';
-- w words and m scratch numbers are enough for it
pub record Does (f : Env → Emitted) (w m : ℕ) (e : Emission) (code : List ℕ) (e' : Emission) (code' : List ℕ) : Type 0 where
  pub go : (a : Emitted) (start : ℕ) (blank : List ℕ) → Meets a start blank e code → Meets (and_then a f) start blank e' code'
  pub place : e'.written ≤ e.written + w
  pub free : e'.next ≤ e.next + m
  pub kept : length code' ≡ length code

-- a step without a word, whatever the code is
pub record Quiet (f : Env → Emitted) (m : ℕ) (e e' : Emission) : Type 0 where
  pub does : (code : List ℕ) → Does f 0 m e code e' code
  pub place : e'.written ≤ e.written
  pub free : e'.next ≤ e.next + m

-- there is room for w words and m scratch numbers
pub record RoomFor (w m : ℕ) (e : Emission) : Type 0 where
  pub place : e.written + w ≤ most_code_words
  pub free : e.next + m ≤ 191
