-- Straight from the pattern: the engine is compile, then run. Its numbers come in the order of that path, each exactly where its condition holds:
-- compile's 1, 3, 4, 5, then 6 and 7 over the whole pattern, run's 1, 2, 3, then the rules.
use Rattle.std.specs.Prelude.{ℕ, ◌≤◌, ◌≡◌, ◌↔◌, ◌≢◌, ◌⊎◌, Bool, true, false, List, replicate}
use Rattle.std.specs.Prelude.{Option, Some}
use Rattle.numbers.specs.Limits.{most_code_words}
use Rattle.answers.specs.DirectNumbers.{direct_number, direct_place, direct_reason}
use Rattle.answers.specs.declared.Compiled.{Compiled}
use Rattle.answers.specs.declared.Compiled.TheVariants.{WrittenWhileSet, ReadWhileUnset}
use Rattle.terms.specs.Table.{ValidTable}
use Rattle.theory.specs.Outcome.{Outcome, done, stuck, room}
use Rattle.theory.specs.RowModel.{row_world}
use Rattle.theory.specs.TermModel.{Term}
use Rattle.theory.specs.Machine.{Stores}
use Rattle.theory.specs.Emission.{refuse}
use Rattle.theory.specs.Figure2.{TermStores}
use Rattle.calls.specs.Compile.{CompileOutcome, compiled_code, compile}
use Rattle.calls.specs.Run.{Lent, RunOutcome, run}
use Rattle.calls.specs.Direct.{DirectOutcome, as_given, direct_ends, ruled, direct}
use Rattle.calls.specs.CompileThenRun.{lent_to_run, compile_then_run}
use Rattle.promises.specs.Answers.{compile_number, run_number}
use Rattle.promises.specs.Reading.{term_in, stores_in, message_before}
use Rattle.promises.specs.Conditions.{CompileWithin, LentWithin, ValidStores, Valid, BadVariable, BadPatternAt, GoodPattern, WrongKindAt, CompileChecked, emission, Emits, BadTermAt, Room}
use Rattle.promises.specs.Demand3.{MatchesTo, CreatesTo}

-- what comes back, by number, place and reason
abbrev pub DirectAnswers : DirectOutcome → ℕ → ℕ → ℕ → Type 0
DirectAnswers o number place reason = (direct_number o.answer ≡ number) × (direct_place o.answer ≡ place) × (direct_reason o.answer ≡ reason)

-- what was lent, after a call
abbrev pub lent_back : Lent → DirectOutcome → Lent
lent_back x o = record {
  kinds = x.kinds;
  objects = o.objects;
  messages = o.named;
  certificates = x.certificates;
  accumulator = o.accumulator;
  terms = o.terms;
  counter = o.counter;
}

module _ (creates : Bool) (pattern : List ℕ) (x : Lent) where
  abbrev outcome : DirectOutcome
  outcome = direct creates pattern x

  -- the other path: what compile answers, and run
  abbrev pub compiled_first : CompileOutcome
  compiled_first = compile creates pattern x.kinds x.objects x.messages (replicate most_code_words 0)

  abbrev pub ran_second : RunOutcome
  ran_second = run (lent_to_run x) (compiled_code compiled_first)

  abbrev Within : Type 0
  Within = CompileWithin pattern x.kinds x.objects x.messages

  abbrev Bad : Type 0
  Bad = BadVariable x.kinds x.objects

  abbrev Checked : Type 0
  Checked = CompileChecked creates pattern x.kinds x.objects x.messages

  abbrev stops : Compiled → Type 0
  stops answer = emission creates pattern x.kinds x.objects x.messages ≡ refuse answer

  -- compile refuses nothing: its code would have so many words
  pub record Compilable : Type 0 where
    pub checked : Checked
    pub words : ℕ
    pub emits : Emits creates pattern x.kinds x.objects x.messages words

  -- nor does run: the rules are asked
  pub record Asked : Type 0 where
    pub compilable : Compilable
    pub valid : Valid (lent_to_run x)

  -- what figure 3 gives for creating, figure 2 for matching, at rows
  abbrev pub RuleGives : Outcome (ℕ × Stores row_world) → Type 0
  RuleGives o = ruled creates pattern x creates ≡ o

  pub record StraightTable : Type 0 where
    pub limit : DirectAnswers outcome 1 0 0 ↔ ((Within → ⊥) ⊎ (Compilable × (LentWithin (lent_to_run x) → ⊥)))
    pub bad_term_lem : (row : ℕ) → DirectAnswers outcome 2 row 0 ↔ (Compilable × LentWithin (lent_to_run x) × BadTermAt x row)
    pub bad_store : DirectAnswers outcome 3 0 0
        ↔ ((Within × Bad) ⊎ (Compilable × LentWithin (lent_to_run x) × ValidTable x.terms x.counter × (ValidStores (lent_to_run x) → ⊥)))
    pub bad_pattern : (row : ℕ) → DirectAnswers outcome 4 row 0 ↔ (Within × (Bad → ⊥) × BadPatternAt pattern row)
    pub wrong_kind : (row : ℕ) → DirectAnswers outcome 5 row 0 ↔ (Within × (Bad → ⊥) × GoodPattern pattern × WrongKindAt creates x.kinds pattern row)
    pub written_while_set : (row : ℕ) → DirectAnswers outcome 6 row 0 ↔ (Checked × stops (WrittenWhileSet row))
    pub read_while_unset : (row : ℕ) → DirectAnswers outcome 7 row 0 ↔ (Checked × stops (ReadWhileUnset row))
    -- stuck with the rules' own reason, which is never 0
    pub sticks : (row reason : ℕ) → DirectAnswers outcome 10 row reason ↔ (Asked × RuleGives (stuck row reason))
    pub reasoned : Asked → {row reason : ℕ} → RuleGives (stuck row reason) → (1 ≤ reason) × (reason ≤ 7)
    pub no_room : (row : ℕ) → DirectAnswers outcome 11 row 0 ↔ (Asked × RuleGives (room row))
    pub finishes : DirectAnswers outcome 0 0 0 ↔ (Asked × ((r : ℕ × Stores row_world) × RuleGives (done r)))
    -- what is left: what the rules give, or everything as on entry
    pub given : (r : ℕ × Stores row_world) → Asked → RuleGives (done r) → outcome ≡ direct_ends x (done r)
    pub left : direct_number outcome.answer ≢ 0 → outcome ≡ as_given outcome.answer x
    -- 0 to 7, 10 or 11; done has place 0; the reason is 0 unless stuck
    pub range : (direct_number outcome.answer ≤ 7) ⊎ (direct_number outcome.answer ≡ 10) ⊎ (direct_number outcome.answer ≡ 11)
    pub no_place : direct_number outcome.answer ≡ 0 → direct_place outcome.answer ≡ 0
    pub no_reason : direct_number outcome.answer ≢ 10 → direct_reason outcome.answer ≡ 0
    -- what was lent is valid again
    pub valid_again : direct_number outcome.answer ≡ 0 → Valid (lent_to_run (lent_back x outcome))

-- what the cells and the accumulator mean after a call
abbrev pub after_direct : Lent → DirectOutcome → TermStores
after_direct x o = stores_in o.terms x.certificates o.objects o.named o.counter

abbrev pub created_message : DirectOutcome → Option Term
created_message o = term_in o.terms o.accumulator

-- the rules are asked, with as many free rows and names as compile's code has words
pub record Roomy (creates : Bool) (pattern : List ℕ) (x : Lent) : Type 0 where
  pub asked : Asked creates pattern x
  pub room : Room x asked.compilable.words

-- The engine finishes exactly where figure 2 leads from the stores and the message m to some stores, and leaves those;
-- it is stuck exactly where figure 2 leads to none; it is never out of room.
pub record DecidesDirectMatch (pattern : List ℕ) (x : Lent) (m : Term) : Type 0 where
  pub finishes : (n : TermStores) → MatchesTo pattern x m n ↔ (DirectAnswers (direct false pattern x) 0 0 0 × (after_direct x (direct false pattern x) ≡ n))
  pub sticks : (direct_number (direct false pattern x).answer ≡ 10) ↔ ((n : TermStores) → MatchesTo pattern x m n → ⊥)
  pub room : direct_number (direct false pattern x).answer ≢ 11

-- The same for figure 3, with the message in the accumulator.
pub record DecidesDirectCreation (pattern : List ℕ) (x : Lent) : Type 0 where
  pub finishes : (m : Term) (n : TermStores)
      → CreatesTo pattern x m n
      ↔ (DirectAnswers (direct true pattern x) 0 0 0 × (created_message (direct true pattern x) ≡ Some m) × (after_direct x (direct true pattern x) ≡ n))
  pub sticks : (direct_number (direct true pattern x).answer ≡ 10) ↔ ((m : Term) (n : TermStores) → CreatesTo pattern x m n → ⊥)
  pub room : direct_number (direct true pattern x).answer ≢ 11

pub record Straight : Type 0 where
  -- the same refusals 1 to 7, the same done with the same cells, terms and counter; stuck for the same reason, and out of room, on the same inputs, with the row for the word
  pub equal : (creates : Bool) (pattern : List ℕ) (x : Lent) → direct creates pattern x ≡ compile_then_run creates pattern x
  -- on that path neither 8 nor 9 occurs
  pub fits : (creates : Bool) (pattern : List ℕ) (x : Lent) → compile_number (compiled_first creates pattern x) ≢ 8
  pub good : (creates : Bool) (pattern : List ℕ) (x : Lent) → compile_number (compiled_first creates pattern x) ≡ 0 → run_number (ran_second creates pattern x) ≢ 9
  pub table : (creates : Bool) (pattern : List ℕ) (x : Lent) → StraightTable creates pattern x
  pub matching : {pattern : List ℕ} {x : Lent} {m : Term} → Roomy false pattern x → message_before x ≡ Some m → DecidesDirectMatch pattern x m
  pub creating : {pattern : List ℕ} {x : Lent} → Roomy true pattern x → DecidesDirectCreation pattern x
