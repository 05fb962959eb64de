-- What a bundle gives: a refusal with its number and place, or code words and the outcome of their run.
use Rattle.std.specs.Prelude.{ℕ, ◌-◌, true, false, List, ◌++◌, length, replicate, eqb}
use Rattle.std.specs.Prelude.{Option, None, Some}
use Rattle.answers.specs.Numbers.{compiled_number, compiled_place}
use Rattle.stores.specs.Cells.{unset}
use Rattle.numbers.specs.Limits.{scratch_cells, most_code_words, most_term_rows}
use Rattle.calls.specs.Compile.{CompileOutcome, compiled_code, compile}
use Rattle.calls.specs.Run.{Lent, RunOutcome, run}
use Rattle.bundles.specs.Bundle.{Bundle, read_bundle, certificates_clear}

pub data Given : Type 0 where
  refused : ℕ → ℕ → Given
  ran : List ℕ → RunOutcome → Given

-- the bundle's rows, then zero rows; scratch starts unset
abbrev pub lent_to : Bundle → Lent
lent_to b = record {
  kinds = b.kinds;
  objects = b.objects;
  messages = b.named ++ replicate scratch_cells unset;
  certificates = b.certificates;
  accumulator = b.accumulator;
  terms = b.terms ++ replicate (most_term_rows - length b.terms) 0;
  counter = b.counter;
}

-- what compile answers for a bundle, into any slice and into 768 words
abbrev pub compile_of : Bundle → List ℕ → CompileOutcome
compile_of b code = compile b.create b.pattern b.kinds b.objects b.named code

abbrev pub compiled_from : Bundle → CompileOutcome
compiled_from b = compile_of b (replicate most_code_words 0)

abbrev pub given_compiled : Bundle → CompileOutcome → Given
given_compiled b c =
    elim (eqb (compiled_number c.answer) 0) [
      | true ↦ ran (compiled_code c) (run (lent_to b) (compiled_code c))
      | false ↦ refused (compiled_number c.answer) (compiled_place c.answer)
    ]

-- 1, then a spare certificate bit, then compile into 768 words, then run
abbrev pub given_read : Option Bundle → Given
given_read None = refused 1 0
given_read (Some b) = elim (certificates_clear b) [ true ↦ given_compiled b (compiled_from b) | false ↦ refused 3 0 ]

unfoldable pub given_by : List ℕ → Given
given_by bytes = given_read (read_bundle bytes)
