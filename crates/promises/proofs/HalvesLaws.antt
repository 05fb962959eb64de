-- A round's two halves: one run after the other, and what is compiled for them.
use Prim.Native.Nat.{ℕ, zero, suc, ◌+◌, ◌-◌, ◌<◌, ◌≤◌}
use mathlib.Core.Path.{◌≡◌, refl, sym, ◌∙◌, ap, subst}
use mathlib.Core.Logic.{◌≢◌, ◌⊎◌, inl, inr}
use mathlib.Core.Bool.{Bool}
use mathlib.Core.List.{List, [], ◌∷◌, ◌++◌}
use native.Mathlib.Omega.{arith}
use native.Mathlib.Decide.{ℕ_discrete, dec_lt}
use borrow.Author.Tests.{le-leb}
use lib.ListN.{length, get_or, take, drop, replicate, length-append, length-replicate, get_or-append}
use lib.Seq.{get_or-append-add, get_or_at, length-take-le}
use Rattle.word.specs.Lowest.{AllGood}
use Rattle.numbers.specs.Kinds.{kind_in}
use Rattle.numbers.specs.Limits.{named_cells, most_code_words}
use Rattle.answers.specs.Numbers.{ran_number}
use Rattle.answers.specs.RoundNumbers.{rounded_number}
use Rattle.answers.specs.declared.Ran.{Ran as RunAnswer}
use Rattle.answers.specs.declared.Ran.TheVariants.{Done, Limit, BadTerm, BadStore, BadWord, Stuck, NoRoom}
use Rattle.answers.specs.declared.Compiled.TheVariants as Compiled
use Rattle.code.specs.GoodWords.{GoodWord, AllGoodWords}
use Rattle.code.proofs.WordLaws.{no_bad_word_iff}
use Rattle.theory.specs.Outcome.{Outcome, done, stuck, room, bind}
use Rattle.theory.specs.RowModel.{row_world}
use Rattle.theory.specs.Machine.{State, exec}
use Rattle.theory.specs.Emission.{Env}
use Rattle.theory.proofs.InTurn.{from}
use Rattle.calls.specs.Compile.{SameSet, code_words, leaves, written, finished, compile}
use Rattle.calls.specs.Run.{Lent, RunOutcome, lent_after, state_of, left_by, lines_of, ended, run}
use Rattle.calls.specs.Frame.{output_word, framed, middle}
use Rattle.calls.specs.Round.{RoundLent, RoundOutcome, received, answered, sent_by, round_ended, round}
use Rattle.calls.proofs.CompileLaws.{part_written}
use Rattle.calls.proofs.FrameLaws.{middle_framed, middle_length, middle_at, steps_in_turn}
use Rattle.calls.proofs.RunLaws.{steps_of, Passed, run_steps, valid_passes}
use Rattle.calls.proofs.StateBack.{state_back}
use Rattle.calls.proofs.HalfLaws.{half_done, half_words, compile_half}
use Rattle.calls.proofs.CompiledWords.{compiled_words_good}
use Rattle.calls.proofs.CarryLaws.{carried}
use Rattle.promises.specs.Answers.{compile_number, run_number}
use Rattle.promises.specs.Conditions.{Valid, Room}
use Rattle.promises.specs.Demand3.{CodeFor, Prepared}
use Rattle.promises.specs.Rounds.{GoodRoundWord, Due}
use Rattle.promises.specs.Halves.{matched, between, created, after_half, sent, by_halves, set_cells, HalfCode}
use Rattle.promises.proofs.RunLaws as RunLaws
use Rattle.promises.proofs.ValidLaws.{finish_valid}
use Rattle.promises.proofs.RoundLaws.{due_steps}

-- the words between INPUT and OUTPUT are good for run
pub middle_good : (kind : ℕ → ℕ) (code : List ℕ) → 2 ≤ length code → AllGood (GoodRoundWord kind code) (length code) → AllGoodWords kind (middle code)
middle_good kind code two good i inside =
    subst (GoodWord kind) (sym (middle_at code two i inside))
    ((good (1 + i) (omega (arith, middle_length code two))).between (λ e. omega arith) λ e. omega (arith, middle_length code two))

pub framed_length : (m c : List ℕ) → length (framed (m ++ c)) ≡ 2 + length m + length c
framed_length m c = omega (arith, length-append (m ++ c) (output_word ∷ []), length-append m c)

module _ (kind : ℕ → ℕ) (m c : List ℕ) where
  -- both halves' words
  module _ (good : AllGood (GoodRoundWord kind (framed (m ++ c))) (length (framed (m ++ c)))) where
    inner_good : AllGoodWords kind (m ++ c)
    inner_good = subst (AllGoodWords kind) (middle_framed (m ++ c)) (middle_good kind (framed (m ++ c)) (omega (arith, framed_length m c)) good)

    first_good : AllGoodWords kind m
    first_good i inside = subst (GoodWord kind) (get_or-append m c 0 i inside) (inner_good i (omega (arith, length-append m c)))

    second_good : AllGoodWords kind c
    second_good i inside = subst (GoodWord kind) (get_or-append-add m c i 0) (inner_good (length m + i) (omega (arith, length-append m c)))

  -- and back
  module _ (first : AllGoodWords kind m) (second : AllGoodWords kind c) where
    either_good : AllGoodWords kind (m ++ c)
    either_good i inside = go (dec_lt i (length m))
      where
        go : Dec (i < length m) → GoodWord kind (get_or (m ++ c) i 0)
        go (yes before) = rw (get_or-append m c 0 i before) (first i before)
        go (no after) =
            let e : length m + (i - length m) ≡ i = omega arith in
            subst (λ n. GoodWord kind (get_or (m ++ c) n 0)) e (rw (get_or-append-add m c (i - length m) 0) (second (i - length m) (omega (arith, length-append m c))))

    pub framed_good : AllGood (GoodRoundWord kind (framed (m ++ c))) (length (framed (m ++ c)))
    framed_good zero inside = record { first = λ e. refl; last = λ n. absurd (n refl); between = λ n. absurd (n refl) }
    framed_good (suc i) inside = record {
      first = λ e. absurd (omega arith);
      last = λ n e. let end : length (m ++ c) ≡ i = omega (arith, length-append (m ++ c) (output_word ∷ [])) in get_or_at (m ++ c) output_word [] 0 i end;
      between = λ n e.
          let before : i < length (m ++ c) = omega (arith, length-append (m ++ c) (output_word ∷ [])) in
          rw (get_or-append (m ++ c) (output_word ∷ []) 0 i before) (either_good i before);
    }

module _ (x : RoundLent) (m c : List ℕ) (due : Due x (framed (m ++ c))) (few_first : length m ≤ most_code_words) (few_second : length c ≤ most_code_words) where
  abbrev kind : ℕ → ℕ
  kind = kind_in x.kinds

  abbrev words : ℕ
  words = length (framed (m ++ c))

  lent_valid : Valid (received x)
  lent_valid = record { within = due.checked.within.lent; table = due.checked.table; stores = due.checked.record_valid.stores }

  passed : Passed (received x) m
  passed = valid_passes lent_valid few_first ((no_bad_word_iff kind m).1 (first_good kind m c due.checked.words))

  -- the first half is done: the second steps from the state that it left
  module _ (t : State row_world) (steps : steps_of (received x) m ≡ done t) where
    abbrev left : Lent
    left = lent_after (received x) (left_by (Done (length m)) t)

    passed_second : Passed left c
    passed_second = valid_passes (finish_valid passed t steps) few_second ((no_bad_word_iff kind c).1 (second_good kind m c due.checked.words))

    second_steps : run left c ≡ ended (length c) left (exec row_world kind (lines_of c) t)
    second_steps = run_steps left c passed_second ∙ ap (λ s. ended (length c) left (exec row_world kind (lines_of c) s)) (state_back passed t steps (Done (length m)))

    by_second : (o : Outcome (State row_world)) → exec row_world kind (lines_of c) t ≡ o
        → round_ended words x (from (1 + length m) o) ≡ after_half x (1 + length m) (run left c).answer (sent words x (run left c))
    unfolding left_by sent_by answered
    by_second (done u) e = rw (second_steps, e)
    by_second (stuck place why) e = rw (second_steps, e)
    by_second (room place) e = rw (second_steps, e)

  by_first : (o : Outcome (State row_world)) → steps_of (received x) m ≡ o
      → round_ended words x (bind (from 1 o) λ t. from (1 + length m) (exec row_world kind (lines_of c) t))
      ≡ by_halves x m c (ended (length m) (received x) o) (run (lent_after (received x) (ended (length m) (received x) o)) c)
  unfolding left_by
  by_first (done t) e = by_second t e (exec row_world kind (lines_of c) t) refl
  by_first (stuck place why) e = refl
  by_first (room place) e = refl

  pub one_after_the_other : round x (framed (m ++ c)) ≡ by_halves x m c (matched x m) (created x m c)
  one_after_the_other =
      due_steps x (framed (m ++ c)) due ∙ ap (round_ended words x) (steps_in_turn kind m c (state_of (received x)))
      ∙ by_first (steps_of (received x) m) refl
      ∙ ap (λ o. by_halves x m c o (run (lent_after (received x) o) c)) (sym (run_steps (received x) m passed))

-- 0 or another number
pub number_cases : (n : ℕ) → (n ≡ 0) ⊎ (n ≢ 0)
number_cases n = go (ℕ_discrete n 0)
  where
    go : Dec (n ≡ 0) → (n ≡ 0) ⊎ (n ≢ 0)
    go (yes e) = inl e
    go (no u) = inr u

-- after a half that is done, and after another
module _ (x : RoundLent) (place : ℕ) where
  pub half_goes : (answer : RunAnswer) (next : RoundOutcome) → ran_number answer ≡ 0 → after_half x place answer next ≡ next
  half_goes (Done words) next e = refl
  half_goes Limit next e = absurd (omega arith)
  half_goes (BadTerm row) next e = absurd (omega arith)
  half_goes BadStore next e = absurd (omega arith)
  half_goes (BadWord word) next e = absurd (omega arith)
  half_goes (Stuck word reason) next e = absurd (omega arith)
  half_goes (NoRoom word) next e = absurd (omega arith)

  pub half_stops : (answer : RunAnswer) (next : RoundOutcome) → ran_number answer ≢ 0 → rounded_number (after_half x place answer next).answer ≡ ran_number answer
  half_stops (Done words) next n = absurd (n refl)
  half_stops Limit next n = refl
  half_stops (BadTerm row) next n = refl
  half_stops BadStore next n = refl
  half_stops (BadWord word) next n = refl
  half_stops (Stuck word reason) next n = refl
  half_stops (NoRoom word) next n = refl

-- a round whose halves are both done
pub both_done : (x : RoundLent) (m c : List ℕ) (first second : RunOutcome) → run_number first ≡ 0 → run_number second ≡ 0
    → by_halves x m c first second ≡ sent (length (framed (m ++ c))) x second
both_done x m c first second e f = half_goes x 1 first.answer _ e ∙ half_goes x (1 + length m) second.answer _ f

pub done_both : (x : RoundLent) (m c : List ℕ) (first second : RunOutcome) → rounded_number (by_halves x m c first second).answer ≡ 0
    → (run_number first ≡ 0) × (run_number second ≡ 0)
done_both x m c first second e = go (number_cases (run_number first)) (number_cases (run_number second))
  where
    go : (run_number first ≡ 0) ⊎ (run_number first ≢ 0) → (run_number second ≡ 0) ⊎ (run_number second ≢ 0) → (run_number first ≡ 0) × (run_number second ≡ 0)
    go (inl f) (inl s) = (f, s)
    go (inl f) (inr s) =
        absurd (s (sym (half_stops x (1 + length m) second.answer (sent (length (framed (m ++ c))) x second) s)
        ∙ ap (λ (o : RoundOutcome). rounded_number o.answer) (sym (half_goes x 1 first.answer _ f)) ∙ e))
    go (inr f) s = absurd (f (sym (half_stops x 1 first.answer _ f) ∙ e))

-- WHAT IS COMPILED

named_long : (x : Lent) → Valid x → length (take named_cells x.messages) ≡ 64
named_long x v = length-take-le named_cells x.messages (omega (arith, v.within.messages))

same_set : (cells : List ℕ) → SameSet cells cells
same_set cells = record { same_length = refl; same_set = λ i. refl }

module _ {create : Bool} {rows kinds code : List ℕ} {set next : Env} (h : HalfCode create rows kinds set code next) (start : set.next ≡ 0) where
  pub half_few : length code ≤ 767
  half_few = subst (λ words. length words ≤ 767) h.words (half_words create rows kinds set start h.lines h.env h.compiles)

  pub half_good : AllGoodWords (kind_in kinds) code
  half_good =
      subst (AllGoodWords (kind_in kinds)) h.words
      ((no_bad_word_iff (kind_in kinds) (code_words h.lines)).0
      (compiled_words_good (kind_in kinds) h.lines (half_done create rows kinds set start h.lines h.env h.compiles).limits.lines))

module _ (x : Lent) {create : Bool} {rows code : List ℕ} {next : Env} (h : HalfCode create rows x.kinds (set_cells x) code next) where
  -- a slice with room for a half
  abbrev slice : List ℕ
  slice = replicate most_code_words 0

  wrote : Valid x
      → compile create rows x.kinds x.objects (take named_cells x.messages) slice ≡ leaves (Compiled.Done (length code)) (code ++ drop (length code) slice)
  wrote v =
      compile_half create rows x.kinds x.objects (take named_cells x.messages) v.within.objects (named_long x v) slice
      ∙ ap (λ E. finished E slice) h.compiles ∙ ap (λ words. written words slice) h.words
      ∙ rw (le-leb (length code) (length slice) (omega (arith, half_few h refl, length-replicate {A = ℕ} most_code_words 0)))

  pub half_code : Valid x → CodeFor create rows x code
  half_code v = record {
    objects = x.objects;
    named = take named_cells x.messages;
    slice = slice;
    done = ap compile_number (wrote v);
    part = rw (wrote v) (part_written code (drop (length code) slice));
    same_objects = same_set x.objects;
    same_named = same_set (take named_cells x.messages);
  }

  pub half_prepared : Valid x → Room x (length code) → Prepared create rows x code
  half_prepared v r = record { compiled = half_code v; valid = v; room = r }

  pub half_carried : run_number (run x code) ≡ 0 → set_cells (lent_after x (run x code)) ≡ next
  half_carried e =
      let f = RunLaws.finished x code e in
      rw f.left (carried f.passed f.state f.steps (Done (length code)) create rows h.compiles h.words ∙ h.carries)
