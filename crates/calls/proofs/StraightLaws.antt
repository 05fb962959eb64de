-- Straight from the pattern is compile, then run.
use mathlib.Core.Path.{◌≡◌, refl, sym, ◌∙◌, ap}
use mathlib.Core.Bool.{Bool, true, false, not, ◌&&◌, and-true}
use Rattle.std.specs.Option.{option_map}
use Rattle.std.specs.Prelude.{Option, None, Some}
use mathlib.Core.List.{List, [], ◌∷◌, ◌++◌, map}
use Prim.Native.Nat.{ℕ, zero, suc, ◌≤◌}
use native.Mathlib.Omega.{arith}
use borrow.Author.Tests.{le-leb}
use lib.ListN.{length, get_or, take, drop, replicate, length-map, length-append, length-replicate}
use lib.Seq.{take_at, take_all}
use Rattle.word.specs.Lowest.{each}
use Rattle.word.proofs.ScanLaws.{each_none, each_more}
use Rattle.answers.specs.First.{when, first}
use Rattle.answers.specs.Numbers.{reason_of}
use Rattle.answers.specs.declared.Compiled.{Compiled}
use Rattle.answers.specs.declared.Compiled.TheVariants as Compiled
use Rattle.answers.specs.declared.Ran.{Ran}
use Rattle.answers.specs.declared.Ran.TheVariants as Ran
use Rattle.answers.specs.declared.direct.Direct.{Direct}
use Rattle.answers.specs.declared.direct.Direct.TheVariants as Direct
use Rattle.code.specs.Instruction.{word_of}
use Rattle.numbers.specs.Kinds.{kind_in}
use Rattle.numbers.specs.Limits.{named_cells, scratch_cells, message_cells, most_code_words}
use Rattle.terms.specs.Rules.{used_rows, bad_term}
use Rattle.stores.specs.Cells.{unset, held, cell_of, cells_from}
use Rattle.stores.specs.Valid.{cell_fits, valid}
use Rattle.patterns.specs.Tree.{pattern_of}
use Rattle.patterns.proofs.TreeLaws.{raws_below}
use Rattle.theory.specs.Outcome.{Outcome, done, stuck, room, bind}
use Rattle.theory.specs.RowModel.{row_world}
use Rattle.theory.specs.Machine.{Line, Stores, State, exec}
use Rattle.theory.specs.Emission.{Env, Emitted, ok, refuse}
use Rattle.theory.specs.Bounds.{InLimits}
use Rattle.theory.specs.Rules.{match, create}
use Rattle.theory.proofs.Compiled.{known, stores_of, message_of, made_of, matching_runs, creating_runs}
use Rattle.theory.proofs.Simulation.{bind_assoc, bind_done}
use Rattle.calls.specs.Compile as Compile
use Rattle.calls.specs.Compile.{CompileOutcome, code_words, compiled_code, finished, compile, compile_by, emitted, refusals, tables}
use Rattle.calls.specs.Run.{Lent, state_over, state_of, left_by, unchanged, ended, lines_of, lengths_fit, run_by, run}
use Rattle.calls.specs.Direct.{DirectOutcome, as_given, refused_as, refused_by, direct_ends, pattern_refusals, table_fits, store_refusals, ruled, direct_by, direct}
use Rattle.calls.specs.Valid.{CompileWithin}
use Rattle.calls.specs.CompileThenRun.{lent_to_run, row_of_word, row_emitting, handed_back, ran_outcome, ran_as, then_run, compile_then_run}
use Rattle.calls.proofs.CompileLaws.{NotDone, refusal_not_done, compile_within, part_written, first_before, first_behind, Checked, checked, checks_not_done}
use Rattle.calls.proofs.CompiledWords.{compiled_words_good}
use Rattle.calls.proofs.PlaceLaws.{moved_by, rows_for_words}
use Rattle.calls.proofs.Product.{checked_refuses, checked_limits}
use Rattle.calls.proofs.RunLaws.{stores_fit}
use Rattle.calls.proofs.SetCells.{lent_known}
use Rattle.calls.proofs.ValidAgain.{length_cells}

-- cells that are unset fit
unset_fit : (used count : ℕ) → each (cell_fits used) (replicate count unset) ≡ true
unfolding each
unset_fit used zero = refl
unset_fit used (suc count) = unset_fit used count

more_unset_fit : (used count : ℕ) (cells : List ℕ) → each (cell_fits used) (cells ++ replicate count unset) ≡ each (cell_fits used) cells
more_unset_fit used count [] = unset_fit used count ∙ sym (each_none (cell_fits used))
more_unset_fit used count (cell ∷ cells) =
    each_more (cell_fits used) cell (cells ++ replicate count unset) ∙ ap (λ rest. cell_fits used cell && rest) (more_unset_fit used count cells)
    ∙ sym (each_more (cell_fits used) cell cells)

-- so run's test of 3 sees the named cells alone
pub scratch_fits : (x : Lent) → stores_fit (lent_to_run x) ≡ stores_fit x
unfolding valid
scratch_fits x = rw (more_unset_fit (used_rows x.terms) scratch_cells x.messages)

module _ (creates : Bool) (pattern : List ℕ) (x : Lent) where
  abbrev kind : ℕ → ℕ
  kind = kind_in x.kinds

  -- what is not done is handed back
  refused_back : (answer : Compiled) → NotDone answer → (code : List ℕ) → as_given (refused_as answer) x ≡ then_run creates pattern x answer code
  refused_back (Compiled.Done words) n code = absurd (n words refl)
  refused_back Compiled.Limit n code = refl
  refused_back Compiled.BadStore n code = refl
  refused_back (Compiled.BadPattern row) n code = refl
  refused_back (Compiled.WrongKind row) n code = refl
  refused_back (Compiled.WrittenWhileSet row) n code = refl
  refused_back (Compiled.ReadWhileUnset row) n code = refl
  refused_back (Compiled.CodeTooShort words) n code = refl

  module _ (c : Checked creates pattern x.kinds x.objects x.messages) where
    abbrev within : CompileWithin pattern x.kinds x.objects x.messages
    within = (compile_within creates pattern x.kinds x.objects x.messages).0 c.lengths

    pub named_taken : take named_cells (x.messages ++ replicate scratch_cells unset) ≡ x.messages
    named_taken = take_at x.messages (replicate scratch_cells unset) named_cells within.named_length

    named_all : take named_cells x.messages ≡ x.messages
    named_all = take_all named_cells x.messages (omega (arith, within.named_length))

    -- the rules start from the same stores as the run
    same_stores : (state_of (lent_to_run x)).stores ≡ (state_of x).stores
    unfolding state_over
    same_stores = rw (named_taken, named_all)

    same_accumulator : (state_of (lent_to_run x)).accumulator ≡ held x.accumulator
    unfolding state_over
    same_accumulator = refl

    -- what run leaves as it was is as given
    left_untouched : (answer : Ran) → ran_outcome creates pattern x (unchanged answer (lent_to_run x)) ≡ as_given (ran_as (row_emitting creates pattern x) answer) x
    left_untouched answer = rw named_taken (given creates)
      where
        given : (b : Bool) → record {
          answer = ran_as (row_emitting creates pattern x) answer;
          objects = x.objects;
          named = x.messages;
          accumulator = handed_back b x.accumulator x.accumulator;
          terms = x.terms;
          counter = x.counter;
        } ≡ as_given (ran_as (row_emitting creates pattern x) answer) x
        given true = refl
        given false = refl

    pub cells_length : length (x.messages ++ replicate scratch_cells unset) ≡ message_cells
    cells_length = length-append x.messages (replicate scratch_cells unset) ∙ omega (arith, within.named_length, length-replicate scratch_cells unset)

    pub lengths_same : (code : List ℕ) → length code ≤ most_code_words → lengths_fit (lent_to_run x) code ≡ table_fits x
    lengths_same code few =
        rw (within.kinds_length, within.objects_length, cells_length, le-leb (length code) most_code_words few) (and-true (table_fits x))

    -- where emission does not refuse
    module _ (lines : List Line) (e : Env) (emits : emitted creates pattern x.kinds x.objects x.messages ≡ ok lines e) where
      abbrev row : ℕ → ℕ
      row word = get_or (map (λ l. l.place) lines) word 0

      rows_same : row_emitting creates pattern x ≡ row
      rows_same = ap row_of_word emits

      limits : InLimits kind lines e
      limits = checked_limits creates pattern x.kinds x.objects x.messages within.kinds_length c lines e emits

      -- the lines are those of the tables for the cells that run is lent
      emits_run : tables creates kind (pattern_of pattern) (known row_world (state_of (lent_to_run x)).stores) ≡ ok lines e
      emits_run =
          ap (tables creates kind (pattern_of pattern)) (sym (lent_known (lent_to_run x)) ∙ ap (Compile.entry x.objects) named_taken) ∙ emits

      abbrev steps : Outcome (State row_world)
      steps = exec row_world kind (lines_of (code_words lines)) (state_of (lent_to_run x))

      stops : moved_by row steps ≡ exec row_world kind lines (state_of (lent_to_run x))
      stops = rows_for_words row_world kind lines limits.lines (state_of (lent_to_run x))

      -- what is seen of a finished run: the accumulator that is handed back, and the stores
      abbrev pub seen : Bool → State row_world → Outcome (ℕ × Stores row_world)
      seen b t = done (handed_back b x.accumulator (cell_of t.accumulator), t.stores)

      run_ends : (words : ℕ) (o : Outcome (State row_world)) → direct_ends x (bind (moved_by row o) (seen creates)) ≡ ran_outcome creates pattern x (ended words (lent_to_run x) o)
      unfolding left_by
      run_ends words (done t) =
          rw (take_at (cells_from 0 named_cells t.stores.ρ) (cells_from 0 scratch_cells t.scratches) named_cells (length_cells 0 named_cells t.stores.ρ))
      run_ends words (stuck place why) =
          ap (λ at. as_given (Direct.Stuck (at place) (reason_of why)) x) (sym rows_same) ∙ sym (left_untouched (Ran.Stuck place (reason_of why)))
      run_ends words (room place) = ap (λ at. as_given (Direct.NoRoom (at place)) x) (sym rows_same) ∙ sym (left_untouched (Ran.NoRoom place))

      -- the lines come to what the rules give
      rules_end : (b : Bool) → tables b kind (pattern_of pattern) (known row_world (state_of (lent_to_run x)).stores) ≡ ok lines e
          → bind (exec row_world kind lines (state_of (lent_to_run x))) (seen b) ≡ ruled creates pattern x b
      unfolding cell_of
      rules_end true q =
          sym (bind_assoc (exec row_world kind lines (state_of (lent_to_run x))) (message_of row_world) λ r. done (cell_of r.0, r.1))
          ∙ ap (λ o. bind o λ r. done (cell_of r.0, r.1)) (creating_runs row_world kind (pattern_of pattern) (raws_below pattern) (state_of (lent_to_run x)) q)
          ∙ bind_assoc (create row_world kind (pattern_of pattern) (state_of (lent_to_run x)).stores) (made_of row_world) (λ r. done (cell_of r.0, r.1))
          ∙ bind_done (create row_world kind (pattern_of pattern) (state_of (lent_to_run x)).stores)
          ∙ ap (create row_world kind (pattern_of pattern)) same_stores
      rules_end false q =
          sym (bind_assoc (exec row_world kind lines (state_of (lent_to_run x))) (stores_of row_world) λ n. done (x.accumulator, n))
          ∙ ap (λ o. bind o λ n. done (x.accumulator, n))
          (matching_runs row_world kind (pattern_of pattern) (raws_below pattern) (state_of (lent_to_run x)) q
          ∙ (λ i. match row_world kind (pattern_of pattern) (same_accumulator i) (same_stores i)))

      pub rules_run : bind (exec row_world kind lines (state_of (lent_to_run x))) (seen creates) ≡ ruled creates pattern x creates
      rules_run = rules_end creates emits_run

      steps_straight : (words : ℕ) → direct_ends x (ruled creates pattern x creates) ≡ ran_outcome creates pattern x (ended words (lent_to_run x) steps)
      steps_straight words = ap (direct_ends x) (sym (ap (λ o. bind o (seen creates)) stops ∙ rules_run)) ∙ run_ends words steps

      -- one look of run's after another, then the rules
      by_looks : (a b : Bool) (rows : Option ℕ)
          → direct_by creates pattern x (first (when (not a) Direct.Limit ∷ option_map Direct.BadTerm rows ∷ when (not b) Direct.BadStore ∷ []))
          ≡ ran_outcome creates pattern x
          (run_by (lent_to_run x) (code_words lines) (first (when (not a) Ran.Limit ∷ option_map Ran.BadTerm rows ∷ when (not b) Ran.BadStore ∷ None ∷ [])))
      unfolding first
      by_looks false b rows = sym (left_untouched Ran.Limit)
      by_looks true b (Some term) = sym (left_untouched (Ran.BadTerm term))
      by_looks true false None = sym (left_untouched Ran.BadStore)
      by_looks true true None = steps_straight (length (code_words lines))

      few_words : length (code_words lines) ≤ 767
      few_words = omega (arith, length-map lines (λ l. word_of l.instruction), limits.words)

      run_straight : direct_by creates pattern x (first (store_refusals x)) ≡ ran_outcome creates pattern x (run (lent_to_run x) (code_words lines))
      unfolding run
      run_straight =
          rw (lengths_same (code_words lines) (omega (arith, few_words)), scratch_fits x, compiled_words_good kind lines limits.lines)
          (by_looks (table_fits x) (stores_fit x) (bad_term x.terms x.counter))

      -- the words fit, and the code is theirs
      code_straight : (slice : List ℕ) → length slice ≡ most_code_words
          → direct_by creates pattern x (first (store_refusals x))
          ≡ then_run creates pattern x (finished (ok lines e) slice).answer (compiled_code (finished (ok lines e) slice))
      code_straight slice long =
          rw (le-leb (length (code_words lines)) (length slice) (omega (arith, few_words)))
          (run_straight ∙ ap (λ code. ran_outcome creates pattern x (run (lent_to_run x) code)) (sym (part_written (code_words lines) (drop (length (code_words lines)) slice))))

  module _ (slice : List ℕ) (long : length slice ≡ most_code_words) where
    abbrev after_compile : CompileOutcome → DirectOutcome
    after_compile o = then_run creates pattern x o.answer (compiled_code o)

    by_emission : Checked creates pattern x.kinds x.objects x.messages → (E : Emitted) → emitted creates pattern x.kinds x.objects x.messages ≡ E
        → direct_by creates pattern x (first (option_map refused_as (first (refused_by E ∷ [])) ∷ store_refusals x)) ≡ after_compile (finished E slice)
    unfolding first
    by_emission c (ok lines e) q = code_straight c lines e q slice long
    by_emission c (refuse answer) q =
        refused_back answer
        (refusal_not_done (checked_refuses creates pattern x.kinds x.objects x.messages (within c).kinds_length c answer q)) _

    by_refusal : (o : Option Compiled) → first (refusals creates pattern x.kinds x.objects x.messages) ≡ o
        → direct_by creates pattern x (first (option_map refused_as (first (pattern_refusals creates pattern x)) ∷ store_refusals x))
        ≡ after_compile (compile_by creates pattern x.kinds x.objects x.messages o slice)
    unfolding first
    by_refusal (Some answer) q =
        rw (first_before (refusals creates pattern x.kinds x.objects x.messages) _ answer q)
        (refused_back answer (checks_not_done creates pattern x.kinds x.objects x.messages answer q) _)
    by_refusal None q =
        rw (first_behind (refusals creates pattern x.kinds x.objects x.messages) (refused_by (emitted creates pattern x.kinds x.objects x.messages) ∷ []) q)
        (by_emission (checked creates pattern x.kinds x.objects x.messages q) (emitted creates pattern x.kinds x.objects x.messages) refl)

    slice_straight : direct creates pattern x ≡ after_compile (compile creates pattern x.kinds x.objects x.messages slice)
    unfolding direct compile
    slice_straight = by_refusal (first (refusals creates pattern x.kinds x.objects x.messages)) refl

-- the same refusals 1 to 7, and otherwise the same stores, table and counter, or stuck or out of room on the same inputs
pub straight : (creates : Bool) (pattern : List ℕ) (x : Lent) → direct creates pattern x ≡ compile_then_run creates pattern x
unfolding compile_then_run
straight creates pattern x = slice_straight creates pattern x (replicate most_code_words 0) (length-replicate {A = ℕ} most_code_words 0)
