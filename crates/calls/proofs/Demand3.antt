-- The run of compiled code on valid stores with those set cells, and enough room: finished with what the figures give, or stuck where they give nothing.
use mathlib.Core.Path.{◌≡◌, refl, sym, ◌∙◌, ap, subst}
use mathlib.Core.Bool.{Bool, true, false}
use Rattle.std.specs.Prelude.{Option, None, Some}
use Rattle.std.specs.Option.{option_map}
use mathlib.Core.List.{List}
use Prim.Native.Nat.{ℕ}
use native.Mathlib.Omega.{arith}
use lib.Dec.{T}
use lib.ListN.{length, get_or, take, length-map}
use Rattle.word.proofs.All.{all_map}
use Rattle.answers.specs.Numbers.{reason_of}
use Rattle.answers.specs.declared.Reason.{Reason}
use Rattle.answers.specs.declared.Compiled.TheVariants as Compiled
use Rattle.answers.specs.declared.Ran.TheVariants as Ran
use Rattle.code.specs.Instruction.{word_of}
use Rattle.code.specs.Words.{operands_fit}
use Rattle.code.specs.declared.Instruction.{Instruction}
use Rattle.code.specs.declared.Instruction.TheVariants.{Load, Store, StoreConst, Decode, Encode, Create, AnalyzeTuple, CreateTuple, Opposite, KeyOf, Match, Encrypt, Decrypt, Sign, Verify, Hash}
use Rattle.stores.specs.Cells.{unset, is_set, held, store_of}
use Rattle.patterns.specs.Pattern.{Pattern}
use Rattle.patterns.specs.Tree.{pattern_of}
use Rattle.patterns.specs.Kinds.{RightKinds}
use Rattle.patterns.proofs.TreeLaws.{raws_below}
use Rattle.theory.specs.Outcome.{Outcome, done, stuck, room, bind, is_some}
use Rattle.theory.specs.RowModel.{row_world}
use Rattle.theory.specs.TermModel.{Term, term_world}
use Rattle.theory.specs.Machine.{Line, State, exec}
use Rattle.numbers.specs.Limits.{named_cells}
use Rattle.theory.specs.Emission.{ok}
use Rattle.theory.specs.Rules.{match, create}
use Rattle.theory.specs.Figure2.{TermStores, Matches}
use Rattle.theory.specs.Figure3.{Creates}
use Rattle.numbers.specs.Kinds.{kind_in}
use Rattle.calls.specs.Compile.{CompileOutcome, code_words, used_part, entry, tables, compile}
use Rattle.calls.specs.Run.{Lent, RunOutcome, state_over, state_of, left_by, unchanged, ended, lines_of, run}
use Rattle.theory.proofs.Compiled.{known, stores_of, message_of, made_of, matching_runs, creating_runs}
use Rattle.theory.proofs.FigureLaws.{done_inj}
use Rattle.theory.proofs.MatchingRules.{matches_is_done, done_is_matches}
use Rattle.theory.proofs.CreatingRules.{creates_is_done, done_is_creates}
use Rattle.theory.specs.Bounds.{InRange}
use Rattle.theory.proofs.Fitting.{ByteFits}
use Rattle.theory.proofs.Places.{moved_to, form, same_instructions}
use Rattle.theory.proofs.Related.{SameEnd, both_done, both_stuck}
use Rattle.theory.specs.Meaning.{meaning}
use Rattle.theory.proofs.RowsRunAsTerms.{ValidState, terms_of, Reads}
use Rattle.theory.proofs.Room.{Free, rows_end_as_terms}
use Rattle.calls.specs.Valid.{Valid}
use Rattle.calls.proofs.ValidLent.{valid_state}
use Rattle.calls.proofs.CompiledWords.{compiled_words_good, compiled_words_read}
use Rattle.calls.proofs.Product.{Written, compile_writes}
use Rattle.calls.proofs.RunLaws.{run_steps, valid_passes}
use Rattle.calls.proofs.SetCells.{set_held, entry_known}

-- compile sees of a cell what the rules see of its term: whether it is set
set_some : (means : ℕ → Term) (cell : ℕ) → is_set cell ≡ is_some (option_map means (held cell))
set_some means cell = set_held cell ∙ go (held cell)
  where
    go : (row : Option ℕ) → is_some row ≡ is_some (option_map means row)
    go None = refl
    go (Some row) = refl

module _ (x : Lent) where
  abbrev kind : ℕ → ℕ
  kind = kind_in x.kinds

  -- the stores on entry, read as terms
  abbrev pub before : TermStores
  before = (terms_of (state_of x)).stores

  before_known : entry x.objects (take named_cells x.messages) ≡ known term_world before
  unfolding state_over store_of
  before_known =
      entry_known term_world x.objects (take named_cells x.messages) before
      (λ v. set_some (meaning x.terms) (get_or x.objects v unset))
      (λ r. set_some (meaning x.terms) (get_or (take named_cells x.messages) r unset))

  -- compile for these stores, and the words that it wrote
  abbrev pub compiled_for : Bool → List ℕ → List ℕ → CompileOutcome
  compiled_for create pattern slice = compile create pattern x.kinds x.objects (take named_cells x.messages) slice

  abbrev pub code_for : Bool → List ℕ → List ℕ → ℕ → List ℕ
  code_for create pattern slice words = used_part words (compiled_for create pattern slice).code

  abbrev runs : List Line → Outcome (State row_world)
  runs lines = exec row_world kind lines (state_of x)

  -- the steps of code words end in a state
  abbrev pub Steps : List ℕ → State row_world → Type 0
  Steps code t = exec row_world kind (lines_of code) (state_of x) ≡ done t

  -- what a run comes to, for a pattern and a message
  pub data MatchEnds (p : Pattern) (m : Term) (words : ℕ) (code : List ℕ) : RunOutcome → Type 0 where
    finishes : (t : State row_world) → Steps code t → ValidState kind t → Matches kind before p m (terms_of t).stores
        → MatchEnds p m words code (left_by (Ran.Done words) t)
    sticks : (place : ℕ) (reason : Reason) → ((n : TermStores) → Matches kind before p m n → ⊥)
        → MatchEnds p m words code (unchanged (Ran.Stuck place reason) x)

  -- and for a creation: the accumulator holds the message; the counter is among the stores
  pub data CreateEnds (p : Pattern) (words : ℕ) (code : List ℕ) : RunOutcome → Type 0 where
    finishes : (t : State row_world) (m : Term) → Steps code t → ValidState kind t → (terms_of t).accumulator ≡ Some m
        → Creates kind before p m (terms_of t).stores → CreateEnds p words code (left_by (Ran.Done words) t)
    sticks : (place : ℕ) (reason : Reason) → ((m : Term) (n : TermStores) → Creates kind before p m n → ⊥)
        → CreateEnds p words code (unchanged (Ran.Stuck place reason) x)

  module _ (p : Pattern) (words : ℕ) (code : List ℕ) where
    match_ends : (m : Term) → RightKinds false kind p → (o o' : Outcome (State row_world)) (o'' : Outcome (State term_world))
        → runs (lines_of code) ≡ o → moved_to 0 o ≡ moved_to 0 o' → SameEnd (Reads kind) o' o''
        → bind o'' (stores_of term_world) ≡ match term_world kind p (Some m) before → MatchEnds p m words code (ended words x o)
    match_ends m right (done s) o' o'' comes moved (both_done {a = s'} {b = t'} r) e =
        let same : s ≡ s' = done_inj moved in
        let read : t' ≡ terms_of s = r.1 ∙ ap terms_of (sym same) in
        finishes s comes (subst (ValidState kind) (sym same) r.0)
        (done_is_matches kind p before (terms_of s).stores m right (sym e ∙ ap (λ t. done t.stores) read))
    match_ends m right (stuck place why) o' o'' comes moved (both_done r) e = absurd (omega (arith, ap form moved))
    match_ends m right (room place) o' o'' comes moved (both_done r) e = absurd (omega (arith, ap form moved))
    match_ends m right (done s) o' o'' comes moved both_stuck e = absurd (omega (arith, ap form moved))
    match_ends m right (stuck place why) o' o'' comes moved both_stuck e =
        sticks place (reason_of why) λ n h. omega (arith, ap form (e ∙ matches_is_done kind right h))
    match_ends m right (room place) o' o'' comes moved both_stuck e = absurd (omega (arith, ap form moved))

    -- a state that holds what the rule made
    made : (s : State row_world) → RightKinds true kind p → Steps code s → ValidState kind s → (y : Outcome (Term × TermStores))
        → create term_world kind p before ≡ y → done ((terms_of s).accumulator, (terms_of s).stores) ≡ bind y (made_of term_world)
        → CreateEnds p words code (left_by (Ran.Done words) s)
    made s right comes valid (done b) q f =
        let both = done_inj f in
        let rule : create term_world kind p before ≡ done (b.0, (terms_of s).stores) = q ∙ ap (λ (n : TermStores). done (b.0, n)) (sym (ap (λ c. c.1) both)) in
        finishes s b.0 comes valid (ap (λ c. c.0) both) (done_is_creates kind p before (terms_of s).stores b.0 right rule)
    made s right comes valid (stuck place why) q f = absurd (omega (arith, ap form f))
    made s right comes valid (room place) q f = absurd (omega (arith, ap form f))

    create_ends : RightKinds true kind p → (o o' : Outcome (State row_world)) (o'' : Outcome (State term_world))
        → runs (lines_of code) ≡ o → moved_to 0 o ≡ moved_to 0 o' → SameEnd (Reads kind) o' o''
        → bind o'' (message_of term_world) ≡ bind (create term_world kind p before) (made_of term_world) → CreateEnds p words code (ended words x o)
    create_ends right (done s) o' o'' comes moved (both_done {a = s'} {b = t'} r) e =
        let same : s ≡ s' = done_inj moved in
        let read : t' ≡ terms_of s = r.1 ∙ ap terms_of (sym same) in
        made s right comes (subst (ValidState kind) (sym same) r.0) (create term_world kind p before) refl
        (sym (ap (λ t. done (t.accumulator, t.stores)) read) ∙ e)
    create_ends right (stuck place why) o' o'' comes moved (both_done r) e = absurd (omega (arith, ap form moved))
    create_ends right (room place) o' o'' comes moved (both_done r) e = absurd (omega (arith, ap form moved))
    create_ends right (done s) o' o'' comes moved both_stuck e = absurd (omega (arith, ap form moved))
    create_ends right (stuck place why) o' o'' comes moved both_stuck e =
        sticks place (reason_of why) λ m n h.
        omega (arith, ap form (e ∙ ap (λ y. bind y (made_of term_world)) (creates_is_done kind right h)))
    create_ends right (room place) o' o'' comes moved both_stuck e = absurd (omega (arith, ap form moved))

-- an instruction in range has a byte that fits
byte_fits : (kind : ℕ → ℕ) (i : Instruction) → InRange kind i → T (operands_fit kind i) × ByteFits i
byte_fits kind (StoreConst c b) f = (f.operands, f.cells)
byte_fits kind (Load r) f = (f.operands, tt)
byte_fits kind (Store r) f = (f.operands, omega (arith, f.cells))
byte_fits kind (Decode v) f = (f.operands, tt)
byte_fits kind (Encode v) f = (f.operands, tt)
byte_fits kind (Create v) f = (f.operands, tt)
byte_fits kind (AnalyzeTuple t b n) f = (f.operands, tt)
byte_fits kind (CreateTuple t b n) f = (f.operands, tt)
byte_fits kind (Opposite K k) f = (f.operands, tt)
byte_fits kind KeyOf f = (f.operands, tt)
byte_fits kind (Match r) f = (f.operands, tt)
byte_fits kind (Encrypt v) f = (f.operands, tt)
byte_fits kind (Decrypt v) f = (f.operands, tt)
byte_fits kind (Sign v) f = (f.operands, tt)
byte_fits kind (Verify v r) f = (f.operands, tt)
byte_fits kind (Hash h) f = (f.operands, tt)

module _ (create : Bool) (pattern slice : List ℕ) (x : Lent) (a : Valid x) (words : ℕ)
    (answer : (compiled_for x create pattern slice).answer ≡ Compiled.Done words) (free : Free words words (state_of x).stores.memory) where
  abbrev compiled : Written create pattern x.kinds x.objects (take named_cells x.messages) a.within.kinds words (compiled_for x create pattern slice).code
  compiled = compile_writes create pattern x.kinds x.objects (take named_cells x.messages) a.within.kinds slice words answer

  abbrev lines : List Line
  lines = compiled.compiles.lines

  code_words_lem : code_for x create pattern slice words ≡ code_words lines
  code_words_lem = compiled.compiles.writes

  code_length : length (code_words lines) ≡ words
  code_length = length-map lines (λ l. word_of l.instruction) ∙ sym compiled.compiles.counts

  -- the run is its steps
  steps : run x (code_for x create pattern slice words) ≡ ended words x (runs x (lines_of (code_words lines)))
  steps =
      rw code_words_lem
      (run_steps x (code_words lines)
      (valid_passes a (omega (arith, code_length, compiled.limits.words, compiled.compiles.counts))
      (compiled_words_good (kind x) lines compiled.limits.lines))
      ∙ ap (λ n. ended n x (runs x (lines_of (code_words lines)))) code_length)

  -- for the code that was written
  written : runs x (lines_of (code_for x create pattern slice words)) ≡ runs x (lines_of (code_words lines))
  written = ap (λ c. runs x (lines_of c)) code_words_lem

  moved : moved_to 0 (runs x (lines_of (code_words lines))) ≡ moved_to 0 (runs x lines)
  moved =
      same_instructions row_world (kind x) (lines_of (code_words lines)) lines (state_of x) (compiled_words_read (kind x) lines compiled.limits.lines)

  -- rows and terms end the same
  ends_same : SameEnd (Reads (kind x)) (runs x lines) (exec term_world (kind x) lines (terms_of (state_of x)))
  ends_same =
      rows_end_as_terms (kind x) lines (state_of x) (terms_of (state_of x))
      (all_map lines (λ l f. byte_fits (kind x) l.instruction f) compiled.limits.lines) (valid_state x a, refl)
      (subst (λ n. Free n n (state_of x).stores.memory) compiled.compiles.counts free)

  -- the lines are those of the tables for the terms that are set
  emits : tables create (kind x) (pattern_of pattern) (known term_world (before x)) ≡ ok lines compiled.compiles.env
  emits = ap (tables create (kind x) (pattern_of pattern)) (sym (before_known x)) ∙ compiled.compiles.emits

-- Matching: the accumulator's term is the message.
module _ (pattern slice : List ℕ) (x : Lent) (a : Valid x) (words : ℕ) where
  pub matching_demand : (row : ℕ) → held x.accumulator ≡ Some row
      → (compiled_for x false pattern slice).answer ≡ Compiled.Done words → Free words words (state_of x).stores.memory
      → MatchEnds x (pattern_of pattern) (meaning x.terms row) words (code_for x false pattern slice words) (run x (code_for x false pattern slice words))
  unfolding state_over
  matching_demand row set answer free =
      let c = compiled false pattern slice x a words answer free in
      let runs_as = matching_runs term_world (kind x) (pattern_of pattern) (raws_below pattern) (terms_of (state_of x)) (emits false pattern slice x a words answer free) in
      let message = ap (λ m. match term_world (kind x) (pattern_of pattern) m (before x)) (ap (option_map (meaning x.terms)) set) in
      rw (steps false pattern slice x a words answer free)
      (match_ends x (pattern_of pattern) words (code_for x false pattern slice words) (meaning x.terms row) c.right _ _ _
      (written false pattern slice x a words answer free) (moved false pattern slice x a words answer free)
      (ends_same false pattern slice x a words answer free) (runs_as ∙ message))

  -- Creating: the message is in the accumulator afterwards.
  pub creating_demand : (compiled_for x true pattern slice).answer ≡ Compiled.Done words → Free words words (state_of x).stores.memory
      → CreateEnds x (pattern_of pattern) words (code_for x true pattern slice words) (run x (code_for x true pattern slice words))
  creating_demand answer free =
      let c = compiled true pattern slice x a words answer free in
      rw (steps true pattern slice x a words answer free)
      (create_ends x (pattern_of pattern) words (code_for x true pattern slice words) c.right _ _ _
      (written true pattern slice x a words answer free) (moved true pattern slice x a words answer free)
      (ends_same true pattern slice x a words answer free)
      (creating_runs term_world (kind x) (pattern_of pattern) (raws_below pattern) (terms_of (state_of x)) (emits true pattern slice x a words answer free)))
