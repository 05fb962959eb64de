-- What firmware calls: the entries over bytes, fields high byte first. Demands 1, 2 and 3 for them.
use Rattle.std.specs.Prelude.{ℕ, ◌*◌, ◌<◌, ◌≤◌, ◌%◌, ◌≡◌, ◌↔◌, ◌≢◌, List, ◌++◌, eqb, length, take, drop}
use Rattle.std.specs.Prelude.{Some}
use Rattle.word.specs.All.{All}
use Rattle.word.specs.Bytes.{elements, spelled}
use Rattle.numbers.specs.Limits.{named_cells}
use Rattle.theory.specs.TermModel.{Term}
use Rattle.calls.specs.Compile.{SameSet, CompileOutcome, compiled_code, compile}
use Rattle.calls.specs.Run.{Lent, RunOutcome, run}
use Rattle.lending.specs.Entries.{CompileLeft, compile_entry, RunLeft, lent_elements, run_entry}
use Rattle.promises.specs.Answers.{CompileAnswers, RunAnswers}
use Rattle.promises.specs.Reading.{message_before}
use Rattle.promises.specs.Conditions.{CompileWithin, RunWithin, Valid, Room}
use Rattle.promises.specs.Demand3.{DecidesMatch, DecidesCreation}

-- a byte is below 256
abbrev pub Bytes : List ℕ → Type 0
Bytes bytes = All (λ byte. byte < 256) bytes

-- so many bytes an element, and no byte over
abbrev pub Whole : ℕ → List ℕ → Type 0
Whole size bytes = length bytes % size ≡ 0

-- COMPILE
module _ (create : ℕ) (pattern kinds objects named code : List ℕ) where
  abbrev pub compile_left : CompileLeft
  compile_left = compile_entry create pattern kinds objects named code

  -- compile of the elements that the bytes spell
  abbrev pub compile_means : CompileOutcome
  compile_means = compile (eqb create 1) (elements 8 pattern) kinds (elements 2 objects) (elements 2 named) (elements 4 code)

  -- a direction, and slices of whole elements
  pub record CompileWhole : Type 0 where
    pub direction : create ≤ 1
    pub pattern_bytes : Whole 8 pattern
    pub object_bytes : Whole 2 objects
    pub named_bytes : Whole 2 named
    pub code_bytes : Whole 4 code

  abbrev pub CompileComes : ℕ → ℕ → Type 0
  CompileComes number place = (compile_left.answer.number ≡ number) × (compile_left.answer.place ≡ place)

  pub record CompileForC : Type 0 where
    -- 1 exactly where a slice is not whole or a length is outside its limit; every other number exactly where compile has it for the elements
    pub limit : CompileComes 1 0 ↔ (CompileWhole × CompileWithin (elements 8 pattern) kinds (elements 2 objects) (elements 2 named) → ⊥)
    pub numbers : (number place : ℕ) → number ≢ 1 → CompileComes number place ↔ (CompileWhole × CompileAnswers compile_means number place)
    -- with any answer but 0 every byte is as it was; with 0 the words in front, and every byte behind them as it was
    pub left : compile_left.answer.number ≢ 0 → compile_left.code ≡ code
    pub written : compile_left.answer.number ≡ 0 → compile_left.code ≡ spelled 4 (compiled_code compile_means) ++ drop (4 * compile_left.answer.place) code

-- RUN
module _ (x : Lent) (code : List ℕ) where
  -- run of the elements that the bytes spell
  abbrev pub run_means : RunOutcome
  run_means = run (lent_elements x) (elements 4 code)

  pub record RunWhole : Type 0 where
    pub object_bytes : Whole 2 x.objects
    pub message_bytes : Whole 2 x.messages
    pub certificate_bytes : Whole 8 x.certificates
    pub term_bytes : Whole 8 x.terms
    pub code_bytes : Whole 4 code

  abbrev pub RunComes : ℕ → ℕ → ℕ → Type 0
  RunComes number place reason =
      ((run_entry x code).answer.number ≡ number) × ((run_entry x code).answer.place ≡ place) × ((run_entry x code).answer.reason ≡ reason)

  -- lent bytes as they were, counter and accumulator as given
  pub record AsLent (o : RunLeft) : Type 0 where
    pub objects : o.objects ≡ x.objects
    pub messages : o.messages ≡ x.messages
    pub terms : o.terms ≡ x.terms
    pub counter : o.answer.counter ≡ x.counter
    pub accumulator : o.answer.accumulator ≡ x.accumulator

  -- the bytes of what run leaves, and its numbers
  pub record Spells (o : RunLeft) (means : RunOutcome) : Type 0 where
    pub objects : o.objects ≡ spelled 2 means.objects
    pub messages : o.messages ≡ spelled 2 means.messages
    pub terms : o.terms ≡ spelled 8 means.terms
    pub counter : o.answer.counter ≡ means.counter
    pub accumulator : o.answer.accumulator ≡ means.accumulator

  pub record RunForC : Type 0 where
    pub limit : RunComes 1 0 0 ↔ (RunWhole × RunWithin (lent_elements x) (elements 4 code) → ⊥)
    pub numbers : (number place reason : ℕ) → number ≢ 1 → RunComes number place reason ↔ (RunWhole × RunAnswers run_means number place reason)
    pub left : (run_entry x code).answer.number ≢ 0 → AsLent (run_entry x code)
    pub done : (run_entry x code).answer.number ≡ 0 → Spells (run_entry x code) run_means
    pub used : (run_entry x code).answer.number ≡ 1 → (run_entry x code).answer.used ≡ 0

-- Bytes that a call of compile left in front with answer 0, for cells of which the same are set as of those that run is lent.
pub record BytesFor (create : ℕ) (pattern : List ℕ) (x : Lent) (code : List ℕ) : Type 0 where
  pub objects : List ℕ
  pub named : List ℕ
  pub slice : List ℕ
  pub bytes : Bytes slice
  pub done : (compile_entry create pattern x.kinds objects named slice).answer.number ≡ 0
  pub part : take (4 * (compile_entry create pattern x.kinds objects named slice).answer.place) (compile_entry create pattern x.kinds objects named slice).code ≡ code
  pub same_objects : SameSet (elements 2 objects) (elements 2 x.objects)
  pub same_named : SameSet (elements 2 named) (take named_cells (elements 2 x.messages))

-- Such bytes, whole slices that spell valid stores, and as many free rows and names as code words.
pub record PreparedForC (create : ℕ) (pattern : List ℕ) (x : Lent) (code : List ℕ) : Type 0 where
  pub compiled : BytesFor create pattern x code
  pub whole : RunWhole x code
  pub valid : Valid (lent_elements x)
  pub room : Room (lent_elements x) (length (elements 4 code))

pub record ForC : Type 0 where
  pub compiles : (create : ℕ) (pattern kinds objects named code : List ℕ) → Bytes code → CompileForC create pattern kinds objects named code
  pub runs : (x : Lent) (code : List ℕ) → Bytes x.objects → Bytes x.messages → Bytes x.terms → RunForC x code
  -- demand 3, from the bytes that compile leaves to what run does: it decides as figures 2 and 3 do
  pub matching : {pattern code : List ℕ} {x : Lent} {m : Term} → PreparedForC 0 pattern x code → message_before (lent_elements x) ≡ Some m
      → DecidesMatch (elements 8 pattern) (lent_elements x) (elements 4 code) m
  pub creating : {pattern code : List ℕ} {x : Lent} → PreparedForC 1 pattern x code → DecidesCreation (elements 8 pattern) (lent_elements x) (elements 4 code)
