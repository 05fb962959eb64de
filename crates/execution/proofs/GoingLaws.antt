-- A run that has come to a word: the rows only grew, and what is left of the code gives the outcome of the whole.
use Prim.Native.Nat.{ℕ, suc, ◌+◌, ◌<◌, ◌≤◌}
use mathlib.Core.Path.{◌≡◌, refl, sym, ◌∙◌, ap}
use Rattle.std.specs.Prelude.{None, Ok, Err}
use mathlib.Core.List.{List, [], ◌∷◌}
use native.Mathlib.Numerals.{add-one}
use native.Mathlib.Omega.{arith}
use lib.Dec.{T}
use lib.ListN.{length, get_or, drop, drop_of_length-le}
use lib.Seq.{drop-cons}
use Rattle.answers.specs.Numbers.{reason_number}
use Rattle.answers.proofs.NumberLaws.{reason_known}
use Rattle.answers.specs.declared.Ran.{Ran}
use Rattle.code.specs.Words.{good_word}
use Rattle.code.specs.declared.Instruction.{Instruction}
use Rattle.code.proofs.WordLaws.{GoodWord, good_iff, no_bad_word_iff}
use Rattle.terms.specs.Rules.{used_rows}
use Rattle.terms.proofs.TableLaws.{used_rows_lem}
use Rattle.theory.specs.Outcome.{Outcome, done, bind}
use Rattle.theory.specs.RowModel.{Table, row_world}
use Rattle.theory.specs.Machine.{line_at, State, step, exec}
use Rattle.numbers.specs.Kinds.{kind_in}
use Rattle.calls.specs.Run.{Lent, RunOutcome, state_over, state_of, lines_from, lines_of, run_by}
use Rattle.theory.proofs.Places.{moved_to, moved_step}
use Rattle.theory.proofs.RowsKept.{Appended, appended_none, exec_appends}
use Rattle.machine.specs.Machine.{Slices, Answered, slices, state_at, Within, SameLengths, Agrees, next, stuck, no_room}
use Rattle.machine.specs.declared.Registers.{Registers}
use Rattle.machine.specs.declared.Halt.{Halt}
use Rattle.machine.specs.declared.Halt.TheVariants.{Stuck, NoRoom}
use Rattle.execution.specs.Steps.{Cleared, halted, cells_after, lent_from, left_with, Ready, DoesWord}
use Rattle.execution.proofs.ClearLaws.{appended_cleared, appended_more}
use Rattle.execution.proofs.CellLaws.{left_back}
use Rattle.calls.proofs.FinishLaws.{state_valid}

-- what an answer of a step says of its outcome
goes_on : {before after : Slices} {outcome : Outcome (State row_world)} {g : Registers} → Agrees before outcome (Ok g) after
    → (outcome ≡ done (state_at g after)) × SameLengths before after
goes_on (next e lengths) = (ap done (sym e), lengths)

-- the outcome at a step that stops
abbrev stopped : Halt → ℕ → Outcome (State row_world)
stopped (Stuck reason) place = Outcome.stuck place (reason_number reason)
stopped NoRoom place = Outcome.room place

stops : {before after : Slices} {outcome : Outcome (State row_world)} {halt : Halt} → Agrees before outcome (Err halt) after
    → ((place : ℕ) × (outcome ≡ stopped halt place)) × (after ≡ before)
stops (stuck {place} e same) = ((place, ap (Outcome.stuck place) (sym e)), same)
stops (no_room {place} same) = ((place, refl), same)

-- a step that does not go on says its own place
stopped_here : (kind : ℕ → ℕ) (place : ℕ) (i : Instruction) (s : State row_world) (halt : Halt) (other : ℕ) → step row_world kind place i s ≡ stopped halt other
    → step row_world kind place i s ≡ stopped halt place
stopped_here kind place i s (Stuck reason) other e = sym (moved_step row_world kind place place i s) ∙ ap (moved_to place) e
stopped_here kind place i s NoRoom other e = sym (moved_step row_world kind place place i s) ∙ ap (moved_to place) e

module _ (x : Lent) where
  abbrev lent_table : Table
  lent_table = record { rows = x.terms; used = used_rows x.terms; counter = x.counter; certificates = x.certificates }

  abbrev table_at : Registers → List ℕ → Table
  table_at g rows = record { rows = rows; used = g.used; counter = g.counter; certificates = x.certificates }

  abbrev stands : Registers → List ℕ → List ℕ → List ℕ → State row_world
  stands g objects messages rows = state_at g (slices objects messages rows x.certificates)

  pub record Going (code : List ℕ) (g : Registers) (objects messages rows : List ℕ) (i : ℕ) : Type 0 where
    pub objects_length : length objects ≡ 64
    pub messages_length : length messages ≡ 256
    pub grown : Appended lent_table (table_at g rows)
    pub rest : exec row_world (kind_in x.kinds) (lines_from i (drop i code)) (stands g objects messages rows) ≡ exec row_world (kind_in x.kinds) (lines_of code) (state_of x)

module _ (x : Lent) (kind : ℕ → ℕ) (place : ℕ) (i : Instruction) (g g' : Registers) (objects messages objects' messages' : List ℕ) {rows rows' : List ℕ} where
  grows : g.used ≤ length rows → step row_world kind place i (stands x g objects messages rows) ≡ done (stands x g' objects' messages' rows')
      → Appended (table_at x g rows) (table_at x g' rows')
  unfolding state_over
  grows inside goes = exec_appends kind (line_at place i ∷ []) (stands x g objects messages rows) (stands x g' objects' messages' rows') inside (rw goes)

module _ {g : Registers} {kinds objects messages certificates rows code : List ℕ} (ready : Ready (lent_from g kinds objects messages certificates rows) g.used code) where
  pub going_start : length objects ≡ 64 → length messages ≡ 256 → Going (lent_from g kinds objects messages certificates rows) code g objects messages rows 0
  going_start few named = record {
    objects_length = few;
    messages_length = named;
    grown = rw ready.counted (appended_none (lent_table (lent_from g kinds objects messages certificates rows)) (used_rows_lem rows).inside);
    rest = rw ready.counted;
  }

module _ (x : Lent) (code : List ℕ) {g : Registers} {objects messages rows : List ℕ} {i : ℕ} (w : Going x code g objects messages rows i) where
  abbrev kind : ℕ → ℕ
  kind = kind_in x.kinds

  -- the code's end
  module _ (past : length code ≤ i) where
    at_end : exec row_world kind (lines_of code) (state_of x) ≡ done (stands x g objects messages rows)
    unfolding lines_from
    at_end = sym (rw (drop_of_length-le code {i = i} past) at w.rest)

    pub going_counted : {used : ℕ} → Ready x used code → g.used ≡ used_rows rows
    unfolding state_over
    going_counted ready = (state_valid x code ready.valid ready.good_words _ at_end).table.counted

    pub going_end : left_with (Ran.Done (length code)) g objects messages rows ≡ run_by x code None
    going_end =
        rw at_end (sym (left_back (Ran.Done (length code)) g.accumulator.0 objects messages (table_at x g rows) w.objects_length w.messages_length))

  pub going_within : {used : ℕ} → Ready x used code → Within rows g.used
  going_within ready = record {
    used_rows_lem = omega (arith, w.grown.inside, w.grown.same_length);
    few_rows = omega (arith, w.grown.same_length, ready.valid.within.terms);
  }

  module _ {used : ℕ} (ready : Ready x used code) (more : i < length code) where
    good : GoodWord kind (get_or code i 0)
    good = (no_bad_word_iff kind code).0 ready.good_words i more

    pub going_good : T (good_word kind (get_or code i 0))
    going_good = (good_iff kind (get_or code i 0)).1 good

    here : lines_from i (drop i code) ≡ line_at i good.instruction ∷ lines_from (suc i) (drop (suc i) code)
    unfolding lines_from
    here = rw (drop-cons code i 0 more, good.says)

    now : bind (step row_world kind i good.instruction (stands x g objects messages rows)) (exec row_world kind (lines_from (suc i) (drop (suc i) code)))
        ≡ exec row_world kind (lines_of code) (state_of x)
    now = rw here at w.rest

    module _ {objects' messages' rows' : List ℕ} {answer : Answered}
        (does : DoesWord kind i (get_or code i 0) g (slices objects messages rows x.certificates) answer (slices objects' messages' rows' x.certificates)) where
      agrees : Agrees (slices objects messages rows x.certificates) (step row_world kind i good.instruction (stands x g objects messages rows)) answer
          (slices objects' messages' rows' x.certificates)
      agrees = does good.instruction good.says

      pub going_next : {g' : Registers} → answer ≡ Ok g' → Going x code g' objects' messages' rows' (i + 1)
      going_next {g'} q =
          let (goes, lengths) = goes_on (rw q at agrees) in
          record {
            objects_length = lengths.objects_length ∙ w.objects_length;
            messages_length = lengths.messages_length ∙ w.messages_length;
            grown = appended_more w.grown (grows x kind i good.instruction g g' objects messages objects' messages' (going_within ready).used_rows_lem goes);
            rest = rw (add-one i) (rw goes at now);
          }

      -- a step that does not go on left the rows, so that what was appended can be cleared
      module _ (same : slices objects' messages' rows' x.certificates ≡ slices objects messages rows x.certificates) where
        undone : {rows'' : List ℕ} → Cleared rows' used g.used rows'' → rows'' ≡ x.terms
        undone {rows''} cleared =
            let e : rows' ≡ rows = ap (λ s. s.rows) same in
            appended_cleared w.grown ready.valid.table.zeros (rw (e, ready.counted) at cleared)

      -- such a run keeps the cells and the registers of its start
      abbrev left : Ran → List ℕ → RunOutcome
      left ran rows'' = record {
        answer = ran;
        objects = cells_after ran x.objects objects';
        messages = cells_after ran x.messages messages';
        accumulator = x.accumulator;
        terms = rows'';
        counter = x.counter;
      }

      module _ {rows'' : List ℕ} (cleared : Cleared rows' used g.used rows'') where
        halt_left : (halt : Halt) → answer ≡ Err halt → left (halted halt i) rows'' ≡ run_by x code None
        halt_left (Stuck reason) q =
            let ((place, goes), same) = stops (rw q at agrees) in
            let e : exec row_world kind (lines_of code) (state_of x) ≡ Outcome.stuck i (reason_number reason) =
            sym (rw (stopped_here kind i good.instruction _ (Stuck reason) place goes) at now) in
            rw (e, undone same cleared, reason_known reason)
        halt_left NoRoom q =
            let ((place, goes), same) = stops (rw q at agrees) in
            let e : exec row_world kind (lines_of code) (state_of x) ≡ Outcome.room i = sym (rw (stopped_here kind i good.instruction _ NoRoom place goes) at now) in
            rw (e, undone same cleared)

        pub halt_ends : (ran : Ran) (halt : Halt) → ran ≡ halted halt i → answer ≡ Err halt → (left ran rows'' ≡ run_by x code None) × (used ≡ used_rows rows'')
        halt_ends ran halt is q = (rw is (halt_left halt q), rw (undone (stops (rw q at agrees)).1 cleared) ready.counted)
