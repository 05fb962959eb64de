-- A role's words are counted before one is written.
use Rattle.std.specs.Prelude.{ℕ, Bool, length}
use Rattle.answers.specs.declared.Compiled.{Compiled}
use Rattle.answers.specs.declared.Compiled.TheVariants.{Done}
use Rattle.theory.specs.Emission.{Env, Emitted, ok, refuse}
use Rattle.calls.specs.Compile.{code_words}
use Rattle.calls.specs.Role.{Halves, compiled, refused_in, rounds_of, in_turn}
use Rattle.knowing.specs.Known.{known}
use Rattle.compiler.specs.CompileKnown.{from_known}
use Rattle.role_counting.specs.declared.RoleCompiled.{RoleCompiled}
use Rattle.role_counting.specs.declared.SetCells.{SetCells}

-- where emission begins, with these cells set
abbrev pub set_env : SetCells → Env
set_env set = from_known (known set.objects) (known set.named)

-- a half's answer, and which cells are set after it
pub record HalfCounted : Type 0 where
  pub answer : Compiled
  pub objects : ℕ → Bool
  pub named : ℕ → Bool

abbrev pub half_counted : Env → Emitted → HalfCounted
half_counted e (ok lines e') = record { answer = Done (length (code_words lines)); objects = e'.objects; named = e'.raws }
half_counted e (refuse answer) = record { answer = answer; objects = e.objects; named = e.raws }

-- the words of all rounds, or the first refusal and its half
abbrev pub counted_by : Halves → RoleCompiled
counted_by (compiled halves) = record { answer = Done (length (in_turn (rounds_of halves))); half = 0 }
counted_by (refused_in n answer) = record { answer = answer; half = n }
