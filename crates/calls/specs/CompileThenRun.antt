-- The other path: compile with 768 words lent, then run of the code that it wrote, with what comes back in the engine's terms.
use Rattle.std.specs.Prelude.{ℕ, Bool, true, false, List, ◌++◌, map, get_or, take, replicate}
use Rattle.answers.specs.declared.Compiled.{Compiled}
use Rattle.answers.specs.declared.Compiled.TheVariants as Compiled
use Rattle.answers.specs.declared.Ran.{Ran}
use Rattle.answers.specs.declared.Ran.TheVariants as Ran
use Rattle.answers.specs.declared.direct.Direct.{Direct}
use Rattle.answers.specs.declared.direct.Direct.TheVariants.{Done, Limit, BadTerm, BadStore, Stuck, NoRoom}
use Rattle.numbers.specs.Limits.{named_cells, scratch_cells, most_code_words}
use Rattle.stores.specs.Cells.{unset}
use Rattle.theory.specs.Emission.{Emitted, ok, refuse}
use Rattle.calls.specs.Compile.{compile, compiled_code, emitted}
use Rattle.calls.specs.Run.{Lent, RunOutcome, run}
use Rattle.calls.specs.Direct.{DirectOutcome, as_given, refused_as}

-- what run is lent: the named cells, and after them the scratch cells, all unset
abbrev pub lent_to_run : Lent → Lent
lent_to_run x = record {
  kinds = x.kinds;
  objects = x.objects;
  messages = x.messages ++ replicate scratch_cells unset;
  certificates = x.certificates;
  accumulator = x.accumulator;
  terms = x.terms;
  counter = x.counter;
}

-- the pattern row whose form emits a word
abbrev pub row_of_word : Emitted → ℕ → ℕ
row_of_word (ok lines e) word = get_or (map (λ l. l.place) lines) word 0
row_of_word (refuse answer) word = 0

-- run's answer, with rows for words; no word of compiled code is bad
abbrev pub ran_as : (ℕ → ℕ) → Ran → Direct
ran_as row (Ran.Done words) = Done
ran_as row Ran.Limit = Limit
ran_as row (Ran.BadTerm term) = BadTerm term
ran_as row Ran.BadStore = BadStore
ran_as row (Ran.BadWord word) = Done
ran_as row (Ran.Stuck word reason) = Stuck (row word) reason
ran_as row (Ran.NoRoom word) = NoRoom (row word)

-- a creation hands back run's accumulator, which holds its message; a match the one that it was given
abbrev pub handed_back : Bool → ℕ → ℕ → ℕ
handed_back true given left = left
handed_back false given left = given

module _ (creates : Bool) (pattern : List ℕ) (x : Lent) where
  -- the pattern row of a word of the code
  abbrev pub row_emitting : ℕ → ℕ
  row_emitting word = row_of_word (emitted creates pattern x.kinds x.objects x.messages) word

  -- what run leaves; of the message cells the named ones are lent
  abbrev pub ran_outcome : RunOutcome → DirectOutcome
  ran_outcome o = record {
    answer = ran_as row_emitting o.answer;
    objects = o.objects;
    named = take named_cells o.messages;
    accumulator = handed_back creates x.accumulator o.accumulator;
    terms = o.terms;
    counter = o.counter;
  }

  -- an answer but 0 is handed back, with nothing changed
  abbrev pub then_run : Compiled → List ℕ → DirectOutcome
  then_run (Compiled.Done words) code = ran_outcome (run (lent_to_run x) code)
  then_run Compiled.Limit code = as_given (refused_as Compiled.Limit) x
  then_run Compiled.BadStore code = as_given (refused_as Compiled.BadStore) x
  then_run (Compiled.BadPattern row) code = as_given (refused_as (Compiled.BadPattern row)) x
  then_run (Compiled.WrongKind row) code = as_given (refused_as (Compiled.WrongKind row)) x
  then_run (Compiled.WrittenWhileSet row) code = as_given (refused_as (Compiled.WrittenWhileSet row)) x
  then_run (Compiled.ReadWhileUnset row) code = as_given (refused_as (Compiled.ReadWhileUnset row)) x
  then_run (Compiled.CodeTooShort words) code = as_given (refused_as (Compiled.CodeTooShort words)) x

  unfoldable pub compile_then_run : DirectOutcome
  compile_then_run =
      let o = compile creates pattern x.kinds x.objects x.messages (replicate most_code_words 0) in
      then_run o.answer (compiled_code o)
