-- What comes back, by document 01's numbers: number and place, and run's reason.
use Rattle.std.specs.Prelude.{ℕ, ◌≡◌}
use Rattle.answers.specs.Numbers.{compiled_number, compiled_place, ran_number, ran_place, ran_reason}
use Rattle.calls.specs.Compile.{CompileOutcome}
use Rattle.calls.specs.Run.{RunOutcome}

abbrev pub CompileAnswers : CompileOutcome → ℕ → ℕ → Type 0
CompileAnswers o number place = (compiled_number o.answer ≡ number) × (compiled_place o.answer ≡ place)

abbrev pub RunAnswers : RunOutcome → ℕ → ℕ → ℕ → Type 0
RunAnswers o number place reason = (ran_number o.answer ≡ number) × (ran_place o.answer ≡ place) × (ran_reason o.answer ≡ reason)

-- the number alone
abbrev pub compile_number : CompileOutcome → ℕ
compile_number o = compiled_number o.answer

abbrev pub run_number : RunOutcome → ℕ
run_number o = ran_number o.answer
