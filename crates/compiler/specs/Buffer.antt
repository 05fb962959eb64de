-- What the walk leaves in a buffer.
use Rattle.std.specs.Prelude.{ℕ, Bool, List, ◌≡◌}
use Rattle.std.specs.Prelude.{Result, Ok, Err}
use Rattle.answers.specs.declared.Compiled.{Compiled}
use Rattle.calls.specs.Compile.{tables}
use Rattle.numbers.specs.Kinds.{kind_in}
use Rattle.knowing.specs.Known.{known}
use Rattle.knowing.specs.Meets.{Does}
use Rattle.knowing.specs.declared.Emission.{Emission}
use Rattle.patterns.specs.Standing.{pattern_in}
use Rattle.emission.specs.Budget.{most_words, most_scratches}
use Rattle.compiler.specs.CompileKnown.{KnownOutcome, known_refused, compile_known}
use Rattle.compiler.specs.declared.KnownAnswer.{KnownAnswer}

-- the code of a row's pattern, within its budget
abbrev pub EmitsRow : Bool → List ℕ → List ℕ → ℕ → Emission → List ℕ → Emission → List ℕ → Type 0
EmitsRow create rows kinds row e code e' code' =
    let p = pattern_in rows row in
    Does (tables create (kind_in kinds) p) (most_words p) (most_scratches p) e code e' code'

-- an answer with its two numbers, and the buffer afterwards
abbrev pub outcome_of : KnownAnswer → List ℕ → KnownOutcome
outcome_of r buffer = record { answer = r.answer; words = buffer; objects = known r.objects; named = known r.named }

-- what a walk leaves: its words, or a refusal
abbrev pub Leaves : Bool → List ℕ → List ℕ → (ℕ → Bool) → (ℕ → Bool) → List ℕ → Result KnownAnswer Compiled → List ℕ → Type 0
Leaves create pattern kinds objects named blank (Ok left) buffer = outcome_of left buffer ≡ compile_known create pattern kinds objects named blank
Leaves create pattern kinds objects named blank (Err answer) buffer = known_refused objects named answer ≡ compile_known create pattern kinds objects named blank
