-- Where compile refuses nothing the engine's answer is run's; so what is said of the run of compiled code holds of the engine.
use Prim.Native.Nat.{ℕ, zero, suc, ◌≤◌}
use mathlib.Core.Path.{◌≡◌, refl, sym, ◌∙◌, ap, subst}
use mathlib.Core.Logic.{◌≢◌, inl, inr}
use mathlib.Core.Bool.{Bool, true, false}
use Rattle.std.specs.Prelude.{Some}
use mathlib.Core.List.{List, [], ◌∷◌, ◌++◌}
use native.Mathlib.Omega.{arith}
use lib.ListN.{length, take, replicate, length-append, length-replicate, length-map}
use lib.Seq.{take-take, length-take-le, take_all}
use Rattle.word.proofs.All.{All, all_append}
use Rattle.numbers.specs.Kinds.{kind_in}
use Rattle.numbers.specs.Limits.{named_cells, scratch_cells, most_code_words}
use Rattle.answers.specs.Numbers.{compiled_number, compiled_place, ran_number, ran_place, ran_reason}
use Rattle.answers.specs.DirectNumbers.{direct_number, direct_place, direct_reason}
use Rattle.answers.specs.declared.Compiled.{Compiled}
use Rattle.answers.specs.declared.Compiled.TheVariants as Compiled
use Rattle.answers.specs.declared.Ran.{Ran}
use Rattle.answers.specs.declared.Ran.TheVariants as Ran
use Rattle.answers.specs.declared.direct.Direct.{Direct}
use Rattle.answers.specs.declared.direct.Direct.TheVariants as Direct
use Rattle.code.specs.Instruction.{word_of}
use Rattle.code.specs.Words.{bad_word}
use Rattle.code.proofs.WordLaws.{no_bad_word_iff}
use Rattle.terms.specs.Rules.{used_rows}
use Rattle.stores.specs.Cells.{unset}
use Rattle.stores.specs.GoodStores.{UnsetOrUsed}
use Rattle.patterns.specs.Tree.{pattern_of}
use Rattle.theory.specs.TermModel.{Term}
use Rattle.theory.specs.Figure2.{TermStores, Matches}
use Rattle.theory.specs.Figure3.{Creates}
use Rattle.calls.specs.Compile.{SameSet, code_words, compiled_code}
use Rattle.calls.specs.Run.{Lent, RunOutcome, state_over, lent_after, left_by, run}
use Rattle.calls.specs.Direct.{DirectOutcome, direct}
use Rattle.calls.specs.CompileThenRun.{lent_to_run, ran_as, row_emitting, handed_back, ran_outcome, then_run, compile_then_run}
use Rattle.calls.proofs.CompileLaws.{Checked}
use Rattle.calls.proofs.Product.{checked_limits}
use Rattle.calls.proofs.StateBack.{last_valid, rows_appended}
use Rattle.calls.proofs.StraightLaws.{named_taken, straight}
use Rattle.promises.specs.Answers.{RunAnswers, compile_number, run_number}
use Rattle.promises.specs.Reading.{before, after, message_before}
use Rattle.promises.specs.Conditions.{Valid, Room}
use Rattle.promises.specs.Demand3.{Prepared, MatchesTo, CreatesTo}
use Rattle.promises.specs.Straight.{DirectAnswers, lent_back, compiled_first, ran_second, Compilable, Asked, after_direct, created_message, Roomy, DecidesDirectMatch, DecidesDirectCreation}
use Rattle.promises.proofs.CompileLaws.{compile_answered, gives_compile}
use Rattle.promises.proofs.DecisionLaws.{decided_match, decided_creation}
use Rattle.promises.proofs.NumberLaws.{checked}
use Rattle.promises.proofs.RunLaws.{RunGives, run_gives, Finished, finished}
use Rattle.promises.proofs.TableLaws.{table_written, used_words}
use Rattle.promises.proofs.ValidLaws.{run_valid_again}
use Rattle.promises.proofs.StraightLaws.{direct_answered, asked}

-- done has place 0, and the reason is 0 unless stuck
pub done_place : (answer : Direct) → direct_number answer ≡ 0 → direct_place answer ≡ 0
done_place Direct.Done e = refl
done_place Direct.Limit e = refl
done_place (Direct.BadTerm row) e = absurd (omega arith)
done_place Direct.BadStore e = refl
done_place (Direct.BadPattern row) e = absurd (omega arith)
done_place (Direct.WrongKind row) e = absurd (omega arith)
done_place (Direct.WrittenWhileSet row) e = absurd (omega arith)
done_place (Direct.ReadWhileUnset row) e = absurd (omega arith)
done_place (Direct.Stuck row reason) e = absurd (omega arith)
done_place (Direct.NoRoom row) e = absurd (omega arith)

pub no_direct_reason : (answer : Direct) → direct_number answer ≢ 10 → direct_reason answer ≡ 0
no_direct_reason Direct.Done n = refl
no_direct_reason Direct.Limit n = refl
no_direct_reason (Direct.BadTerm row) n = refl
no_direct_reason Direct.BadStore n = refl
no_direct_reason (Direct.BadPattern row) n = refl
no_direct_reason (Direct.WrongKind row) n = refl
no_direct_reason (Direct.WrittenWhileSet row) n = refl
no_direct_reason (Direct.ReadWhileUnset row) n = refl
no_direct_reason (Direct.Stuck row reason) n = absurd (n refl)
no_direct_reason (Direct.NoRoom row) n = refl

done_answers : (o : DirectOutcome) → direct_number o.answer ≡ 0 → DirectAnswers o 0 0 0
done_answers o e = (e, done_place o.answer e, no_direct_reason o.answer λ z. omega (arith, e, z))

-- the number is run's
same_number : (row : ℕ → ℕ) (answer : Ran) → ran_number answer ≢ 9 → direct_number (ran_as row answer) ≡ ran_number answer
same_number row (Ran.Done words) n = refl
same_number row Ran.Limit n = refl
same_number row (Ran.BadTerm term) n = refl
same_number row Ran.BadStore n = refl
same_number row (Ran.BadWord word) n = absurd (n refl)
same_number row (Ran.Stuck word reason) n = refl
same_number row (Ran.NoRoom word) n = refl

no_nine : (x : Lent) (code : List ℕ) (answer : Ran) → RunGives x code answer → ((word : ℕ) → RunGives x code (Ran.BadWord word) → ⊥) → ran_number answer ≢ 9
no_nine x code (Ran.Done words) g n e = omega (arith, e)
no_nine x code Ran.Limit g n e = omega (arith, e)
no_nine x code (Ran.BadTerm term) g n e = omega (arith, e)
no_nine x code Ran.BadStore g n e = omega (arith, e)
no_nine x code (Ran.BadWord word) g n e = n word g
no_nine x code (Ran.Stuck word reason) g n e = omega (arith, e)
no_nine x code (Ran.NoRoom word) g n e = omega (arith, e)

module _ (creates : Bool) (pattern : List ℕ) (x : Lent) where
  -- compile that answers 0 hands over to run
  handed_over : (answer : Compiled) (code : List ℕ) → compiled_number answer ≡ 0 → then_run creates pattern x answer code ≡ ran_outcome creates pattern x (run (lent_to_run x) code)
  handed_over (Compiled.Done words) code e = refl
  handed_over Compiled.Limit code e = absurd (omega arith)
  handed_over Compiled.BadStore code e = absurd (omega arith)
  handed_over (Compiled.BadPattern row) code e = absurd (omega arith)
  handed_over (Compiled.WrongKind row) code e = absurd (omega arith)
  handed_over (Compiled.WrittenWhileSet row) code e = absurd (omega arith)
  handed_over (Compiled.ReadWhileUnset row) code e = absurd (omega arith)
  handed_over (Compiled.CodeTooShort words) code e = absurd (omega arith)

  pub direct_ran : compile_number (compiled_first creates pattern x) ≡ 0 → direct creates pattern x ≡ ran_outcome creates pattern x (ran_second creates pattern x)
  unfolding compile_then_run
  direct_ran e =
      straight creates pattern x ∙ handed_over (compiled_first creates pattern x).answer (compiled_code (compiled_first creates pattern x)) e

  -- 768 words are enough
  checks : Compilable creates pattern x → Checked creates pattern x.kinds x.objects x.messages
  checks c = (checked creates pattern x.kinds x.objects x.messages []).1 c.checked

  words_few : (c : Compilable creates pattern x) → c.words ≤ 767
  words_few c =
      let limits =
      checked_limits creates pattern x.kinds x.objects x.messages c.checked.within.kinds_length (checks c) c.emits.lines c.emits.env c.emits.emits in
      omega (arith, limits.words, c.emits.count)

  first_done : (c : Compilable creates pattern x) → (compiled_first creates pattern x).answer ≡ Compiled.Done c.words
  first_done c =
      gives_compile creates pattern x.kinds x.objects x.messages (replicate most_code_words 0) (Compiled.Done c.words)
      (checks c, c.emits, omega (arith, words_few c, length-replicate {A = ℕ} most_code_words 0))

  -- compiled words are good
  pub never_nine : compile_number (compiled_first creates pattern x) ≡ 0 → run_number (ran_second creates pattern x) ≢ 9
  never_nine e =
      let w = table_written creates pattern x.kinds x.objects x.messages (replicate most_code_words 0) e in
      no_nine (lent_to_run x) (compiled_code (compiled_first creates pattern x)) (ran_second creates pattern x).answer
      (run_gives (lent_to_run x) (compiled_code (compiled_first creates pattern x)) refl)
      λ word g.
      let good = (no_bad_word_iff (kind_in x.kinds) (code_words w.lines)).1 w.good in
      let named : bad_word (kind_in x.kinds) (code_words w.lines) ≡ Some word = ap (bad_word (kind_in x.kinds)) (sym (used_words w)) ∙ g.3 in
      let z : ◌≡◌ {A = ℕ} 0 1 = cc in
      omega arith

  pub never_eight : compile_number (compiled_first creates pattern x) ≢ 8
  never_eight e =
      let (c, E, short) = compile_answered creates pattern x.kinds x.objects x.messages (replicate most_code_words 0) (e, refl) in
      let all = checked creates pattern x.kinds x.objects x.messages [] in
      let few = words_few (record { checked = all.0 c; words = compiled_place (compiled_first creates pattern x).answer; emits = E }) in
      omega (arith, few, short, length-replicate {A = ℕ} most_code_words 0)

-- so many cells of good ones are good, and unset ones are
all_take : {A : Type 0} (P : A → Type 0) (n : ℕ) (all : List A) → All P all → All P (take n all)
all_take P zero all h = tt
all_take P (suc n) [] h = tt
all_take P (suc n) (a ∷ rest) h = (h.0, all_take P n rest h.1)

all_same : {A : Type 0} (P : A → Type 0) (n : ℕ) (a : A) → P a → All P (replicate n a)
all_same P zero a h = tt
all_same P (suc n) a h = (h, all_same P n a h)

-- named cells of valid stores, with another accumulator that fits, are valid stores again
named_valid : (y : Lent) (accumulator : ℕ) → Valid y → UnsetOrUsed (used_rows y.terms) accumulator
    → Valid (lent_to_run (record {
      kinds = y.kinds;
      objects = y.objects;
      messages = take named_cells y.messages;
      certificates = y.certificates;
      accumulator = accumulator;
      terms = y.terms;
      counter = y.counter;
    }))
named_valid y accumulator v fits = record {
  within = record {
    kinds = v.within.kinds;
    objects = v.within.objects;
    messages =
        length-append (take named_cells y.messages) (replicate scratch_cells unset)
        ∙ omega (arith, length-take-le named_cells y.messages (omega (arith, v.within.messages)), length-replicate scratch_cells unset);
    certificates = v.within.certificates;
    terms = v.within.terms;
    counter = v.within.counter;
  };
  table = v.table;
  stores = record {
    known = v.stores.known;
    undeclared = v.stores.undeclared;
    typed = v.stores.typed;
    cells =
        all_append (UnsetOrUsed (used_rows y.terms)) (take named_cells y.messages) (replicate scratch_cells unset)
        (all_take (UnsetOrUsed (used_rows y.terms)) named_cells y.messages v.stores.cells)
        (all_same (UnsetOrUsed (used_rows y.terms)) scratch_cells unset (inl refl));
    certified = v.stores.certified;
    held = fits;
  };
}

-- a finished run has at least as many used rows
more_used : {x : Lent} {code : List ℕ} → Finished x code → used_rows x.terms ≤ used_rows (run x code).terms
unfolding state_over left_by
more_used f =
    let more = (rows_appended f.passed f.state f.steps).more in
    let counted = (last_valid f.passed f.state f.steps).table.counted in
    rw f.left (omega (arith, more, counted))

more_fits : (used more cell : ℕ) → used ≤ more → UnsetOrUsed used cell → UnsetOrUsed more cell
more_fits used more cell l (inl e) = inl e
more_fits used more cell l (inr b) = inr (omega (arith, l, b))

finished_answers : {x : Lent} {code : List ℕ} → Finished x code → RunAnswers (run x code) 0 (length code) 0
unfolding left_by
finished_answers f = (ap (λ o. ran_number o.answer) f.left, ap (λ o. ran_place o.answer) f.left, ap (λ o. ran_reason o.answer) f.left)

module _ (creates : Bool) (pattern : List ℕ) (x : Lent) (q : Asked creates pattern x) where
  abbrev code : List ℕ
  code = compiled_code (compiled_first creates pattern x)

  abbrev ran : RunOutcome
  ran = ran_second creates pattern x

  compiles : compile_number (compiled_first creates pattern x) ≡ 0
  compiles = ap compiled_number (first_done creates pattern x q.compilable)

  same : direct creates pattern x ≡ ran_outcome creates pattern x ran
  same = direct_ran creates pattern x compiles

  number : direct_number (direct creates pattern x).answer ≡ run_number ran
  number = ap (λ o. direct_number o.answer) same ∙ same_number (row_emitting creates pattern x) ran.answer (never_nine creates pattern x compiles)

  finish : direct_number (direct creates pattern x).answer ≡ 0 → Finished (lent_to_run x) code
  finish e = finished (lent_to_run x) code (sym number ∙ e)

  back_fits : (b : Bool) → direct_number (direct creates pattern x).answer ≡ 0 → UnsetOrUsed (used_rows ran.terms) (handed_back b x.accumulator ran.accumulator)
  back_fits true e = (run_valid_again (lent_to_run x) code (sym number ∙ e)).stores.held
  back_fits false e = more_fits (used_rows x.terms) (used_rows ran.terms) x.accumulator (more_used (finish e)) q.valid.stores.held

  valid_back : direct_number (direct creates pattern x).answer ≡ 0 → Valid (lent_to_run (lent_back x (direct creates pattern x)))
  valid_back e =
      subst (λ o. Valid (lent_to_run (lent_back x o))) (sym same)
      (named_valid (lent_after (lent_to_run x) ran) (handed_back creates x.accumulator ran.accumulator)
      (run_valid_again (lent_to_run x) code (sym number ∙ e)) (back_fits creates e))

  -- the stores before and after are read as run's
  taken : take named_cells (x.messages ++ replicate scratch_cells unset) ≡ take named_cells x.messages
  taken =
      named_taken creates pattern x (checks creates pattern x q.compilable)
      ∙ sym (take_all named_cells x.messages (omega (arith, q.compilable.checked.within.named_length)))

  before_same : before (lent_to_run x) ≡ before x
  before_same = rw taken

  after_same : after_direct x (direct creates pattern x) ≡ after (lent_to_run x) ran
  after_same = ap (after_direct x) same ∙ rw (take-take named_cells named_cells ran.messages (omega arith))

  words_counted : length code ≡ q.compilable.words
  words_counted =
      let w = table_written creates pattern x.kinds x.objects x.messages (replicate most_code_words 0) compiles in
      ap length (used_words w) ∙ length-map w.lines (λ l. word_of l.instruction) ∙ sym w.count.1 ∙ ap compiled_place (first_done creates pattern x q.compilable)

  prepared : Room x q.compilable.words → Prepared creates pattern (lent_to_run x) code
  prepared room = record {
    compiled = record {
      objects = x.objects;
      named = x.messages;
      slice = replicate most_code_words 0;
      done = compiles;
      part = refl;
      same_objects = record { same_length = refl; same_set = λ i. refl };
      same_named =
          subst (SameSet x.messages) (sym (named_taken creates pattern x (checks creates pattern x q.compilable)))
          (record { same_length = refl; same_set = λ i. refl });
    };
    valid = q.valid;
    room = record { rows = omega (arith, room.rows, words_counted); names = omega (arith, room.names, words_counted) };
  }

pub direct_valid_again : (creates : Bool) (pattern : List ℕ) (x : Lent) → direct_number (direct creates pattern x).answer ≡ 0
    → Valid (lent_to_run (lent_back x (direct creates pattern x)))
direct_valid_again creates pattern x e =
    valid_back creates pattern x ((asked creates pattern x).0 (direct_answered creates pattern x (done_answers (direct creates pattern x) e)).0) e

pub direct_match : {pattern : List ℕ} {x : Lent} {m : Term} → Roomy false pattern x → message_before x ≡ Some m → DecidesDirectMatch pattern x m
direct_match {pattern} {x} {m} r message =
    let q = r.asked in
    let d = decided_match (prepared false pattern x q r.room) message in
    let to : (n : TermStores) → MatchesTo pattern x m n → MatchesTo pattern (lent_to_run x) m n =
    λ n. subst (λ b. Matches (kind_in x.kinds) b (pattern_of pattern) m n) (sym (before_same false pattern x q)) in
    let from : (n : TermStores) → MatchesTo pattern (lent_to_run x) m n → MatchesTo pattern x m n =
    λ n. subst (λ b. Matches (kind_in x.kinds) b (pattern_of pattern) m n) (before_same false pattern x q) in
    let is = number false pattern x q in
    let left = after_same false pattern x q in
    record {
      finishes = λ n. (
        λ g. let (a, e) = (d.finishes n).0 (to n g) in (done_answers (direct false pattern x) (is ∙ a.0), left ∙ e),
        λ h. from n ((d.finishes n).1 (finished_answers (finish false pattern x q h.0.0), sym left ∙ h.1)),
      );
      sticks = (λ e n g. d.stuck.0 (sym is ∙ e) n (to n g), λ never. is ∙ d.stuck.1 λ n g. never n (from n g));
      room = λ e. d.room (sym is ∙ e);
    }

pub direct_creation : {pattern : List ℕ} {x : Lent} → Roomy true pattern x → DecidesDirectCreation pattern x
direct_creation {pattern} {x} r =
    let q = r.asked in
    let d = decided_creation (prepared true pattern x q r.room) in
    let to : (m : Term) (n : TermStores) → CreatesTo pattern x m n → CreatesTo pattern (lent_to_run x) m n =
    λ m n. subst (λ b. Creates (kind_in x.kinds) b (pattern_of pattern) m n) (sym (before_same true pattern x q)) in
    let from : (m : Term) (n : TermStores) → CreatesTo pattern (lent_to_run x) m n → CreatesTo pattern x m n =
    λ m n. subst (λ b. Creates (kind_in x.kinds) b (pattern_of pattern) m n) (before_same true pattern x q) in
    let is = number true pattern x q in
    let left = after_same true pattern x q in
    let message = ap created_message (same true pattern x q) in
    record {
      finishes = λ m n. (
        λ g. let (a, h, e) = (d.finishes m n).0 (to m n g) in (done_answers (direct true pattern x) (is ∙ a.0), message ∙ h, left ∙ e),
        λ h. from m n ((d.finishes m n).1 (finished_answers (finish true pattern x q h.0.0), sym message ∙ h.1, sym left ∙ h.2)),
      );
      sticks = (λ e m n g. d.stuck.0 (sym is ∙ e) m n (to m n g), λ never. is ∙ d.stuck.1 λ m n g. never m n (from m n g));
      room = λ e. d.room (sym is ∙ e);
    }
