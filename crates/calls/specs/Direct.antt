-- Straight from the pattern: compile's refusals but for 8, then run's 1, 2 and 3, then the rules of figures 2 and 3 at rows. Any answer but 0 leaves the values on entry.
use Rattle.std.specs.Prelude.{ℕ, Bool, true, false, not, ◌&&◌, List, [], ◌∷◌, ◌++◌, length, leb}
use Rattle.std.specs.Prelude.{Option, None, Some}
use Rattle.std.specs.Option.{option_map}
use Rattle.answers.specs.First.{when, first}
use Rattle.answers.specs.Numbers.{reason_of}
use Rattle.answers.specs.declared.Compiled.{Compiled}
use Rattle.answers.specs.declared.Compiled.TheVariants as Compiled
use Rattle.answers.specs.declared.direct.Direct.{Direct}
use Rattle.answers.specs.declared.direct.Direct.TheVariants.{Done, Limit, BadTerm, BadStore, BadPattern, WrongKind, WrittenWhileSet, ReadWhileUnset, Stuck, NoRoom}
use Rattle.numbers.specs.Kinds.{kind_in}
use Rattle.numbers.specs.Limits.{variables, named_cells, most_term_rows, most_certificates, most_names}
use Rattle.terms.specs.Rules.{used_rows, bad_term}
use Rattle.stores.specs.Cells.{held, cells_from}
use Rattle.stores.specs.Valid.{valid}
use Rattle.patterns.specs.Tree.{pattern_of}
use Rattle.theory.specs.Outcome.{Outcome, done, stuck, room, bind}
use Rattle.theory.specs.RowModel.{row_world}
use Rattle.theory.specs.Machine.{Stores}
use Rattle.theory.specs.Emission.{Emitted, ok, refuse}
use Rattle.theory.specs.Rules.{match, create}
use Rattle.calls.specs.Compile as Compile
use Rattle.calls.specs.Run.{Lent, state_of}

-- the answer, and what was lent afterwards; of the message cells the 64 named ones are lent
pub record DirectOutcome : Type 0 where
  pub answer : Direct
  pub objects : List ℕ
  pub named : List ℕ
  pub accumulator : ℕ
  pub terms : List ℕ
  pub counter : ℕ

-- the values on entry
abbrev pub as_given : Direct → Lent → DirectOutcome
as_given answer x =
    record { answer = answer; objects = x.objects; named = x.messages; accumulator = x.accumulator; terms = x.terms; counter = x.counter }

-- compile's refusals; no code is written, so none is too short
abbrev pub refused_as : Compiled → Direct
refused_as (Compiled.Done words) = Done
refused_as Compiled.Limit = Limit
refused_as Compiled.BadStore = BadStore
refused_as (Compiled.BadPattern row) = BadPattern row
refused_as (Compiled.WrongKind row) = WrongKind row
refused_as (Compiled.WrittenWhileSet row) = WrittenWhileSet row
refused_as (Compiled.ReadWhileUnset row) = ReadWhileUnset row
refused_as (Compiled.CodeTooShort words) = Done

abbrev pub refused_by : Emitted → Option Compiled
refused_by (ok lines e) = None
refused_by (refuse answer) = Some answer

-- what the rules give: a message, and the stores
abbrev pub direct_ends : Lent → Outcome (ℕ × Stores row_world) → DirectOutcome
direct_ends x (done r) = record {
  answer = Done;
  objects = cells_from 0 variables r.1.σ;
  named = cells_from 0 named_cells r.1.ρ;
  accumulator = r.0;
  terms = r.1.memory.rows;
  counter = r.1.memory.counter;
}
direct_ends x (stuck row why) = as_given (Stuck row (reason_of why)) x
direct_ends x (room row) = as_given (NoRoom row) x

module _ (x : Lent) where
  -- 1, 2, 3 of run
  abbrev pub table_fits : Bool
  table_fits = leb (length x.certificates) most_certificates && leb (length x.terms) most_term_rows && leb x.counter most_names

  abbrev pub store_refusals : List (Option Direct)
  store_refusals =
      when (not table_fits) Limit
      ∷ option_map BadTerm (bad_term x.terms x.counter)
      ∷ when
      (not (valid x.terms (used_rows x.terms) x.kinds x.objects x.messages x.certificates x.accumulator))
      BadStore
      ∷ []

module _ (creates : Bool) (pattern : List ℕ) (x : Lent) where
  -- 1, 3, 4, 5 of compile, then 6 and 7 over the whole pattern
  abbrev pub pattern_refusals : List (Option Compiled)
  pattern_refusals =
      Compile.refusals creates pattern x.kinds x.objects x.messages
      ++ (refused_by (Compile.emitted creates pattern x.kinds x.objects x.messages) ∷ [])

  -- a creation gives its message; a match leaves the accumulator
  abbrev pub ruled : Bool → Outcome (ℕ × Stores row_world)
  ruled true = create row_world (kind_in x.kinds) (pattern_of pattern) (state_of x).stores
  ruled false = bind (match row_world (kind_in x.kinds) (pattern_of pattern) (held x.accumulator) (state_of x).stores) λ n. done (x.accumulator, n)

  abbrev pub direct_by : Option Direct → DirectOutcome
  direct_by (Some answer) = as_given answer x
  direct_by None = direct_ends x (ruled creates)

  unfoldable pub direct : DirectOutcome
  direct = direct_by (first (option_map refused_as (first pattern_refusals) ∷ store_refusals x))
