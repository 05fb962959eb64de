-- What a round comes to, answer by answer: its checks in their order, then the steps.
use Prim.Native.Nat.{ℕ, suc, ◌<◌, ◌≤◌}
use mathlib.Core.Path.{◌≡◌, refl, sym, ◌∙◌, ap, subst}
use mathlib.Core.Logic.Iff
use mathlib.Core.Logic.{◌↔◌, ◌≢◌}
use mathlib.Core.Bool.{Bool, true, false, cond, not}
use Rattle.std.specs.Prelude.{Option, None, Some}
use Rattle.std.specs.Option.{option_map}
use mathlib.Core.List.{List, [], ◌∷◌}
use native.Mathlib.Omega.{arith}
use lib.Dec.{T, eqb, leb}
use lib.ListN.{length, get_or}
use Rattle.word.specs.Lowest.{LowestBad, AllGood}
use Rattle.word.proofs.TestLaws.{both, chosen, fails, twice, is_true, is_false, equals, at_most}
use Rattle.word.proofs.LowestLaws.{none_bad, lowest_bad}
use Rattle.numbers.specs.Kinds.{kind_in}
use Rattle.answers.specs.First.{when, first}
use Rattle.answers.specs.Numbers.{reason_number, reason_of}
use Rattle.answers.specs.RoundNumbers.{rounded_number, rounded_place, rounded_reason}
use Rattle.answers.specs.declared.Ran.TheVariants as Ran
use Rattle.answers.specs.declared.rounds.Rounded.{Rounded}
use Rattle.answers.specs.declared.rounds.Rounded.TheVariants.{Ran, NoMessage, NotTaken, RoleEnded}
use Rattle.answers.proofs.NumberLaws.{reason_known}
use Rattle.code.specs.Words.{good_word}
use Rattle.code.specs.GoodWords.{GoodWord}
use Rattle.code.proofs.WordLaws.{good_iff}
use Rattle.terms.specs.Rules.{used_rows, bad_term}
use Rattle.terms.proofs.TableLaws.{bad_term_at, valid_table}
use Rattle.stores.specs.Cells.{unset, is_set}
use Rattle.stores.specs.Valid.{cell_fits, valid}
use Rattle.theory.specs.Outcome.{Outcome, done, stuck, room}
use Rattle.theory.specs.RowModel.{row_world}
use Rattle.theory.specs.Machine.{State, exec}
use Rattle.theory.proofs.Models.{calm_rows}
use Rattle.calls.specs.Run.{state_of, lines_from}
use Rattle.calls.specs.Frame.{input_word, output_word, middle, good_round_word, bad_round_word}
use Rattle.calls.specs.Round.{RoundLent, RoundOutcome, untouched, received, sent_by, round_ended, round_lengths_fit, record_fits, round_by, round}
use Rattle.calls.proofs.CompileLaws.{passes_when, fails_when}
use Rattle.calls.proofs.RunLaws.{stores_valid}
use Rattle.promises.specs.Rounds.{RoundAnswers, RoundWithin, ValidRecord, GoodRoundWord, RoundChecked, Due, RoundTable}
use Rattle.promises.proofs.StepLaws.{exec_reasoned, reason_back}
use Rattle.stores.proofs.ValidLaws.{unset_or_used}

-- a set cell, and one that is not
set_cell : (cell : ℕ) → T (is_set cell) ↔ (cell ≢ unset)
set_cell cell = (λ t e. (fails (eqb cell unset)).0 t ((equals cell unset).1 e), λ n. (fails (eqb cell unset)).1 λ t. n ((equals cell unset).0 t))

pub unset_cell : (cell : ℕ) → T (not (is_set cell)) ↔ (cell ≡ unset)
unset_cell cell = (λ t. (equals cell unset).0 ((twice (eqb cell unset)).0 t), λ e. (twice (eqb cell unset)).1 ((equals cell unset).1 e))

module _ (x : RoundLent) (code : List ℕ) where
  abbrev steps_in : Outcome (State row_world)
  steps_in = exec row_world (kind_in x.kinds) (lines_from 1 (middle code)) (state_of (received x))

  abbrev overdue : Bool
  overdue = leb x.rounds x.session.round

  -- nothing is refused by 1, 2, 3 and 9
  record Passed : Type 0 where
    lengths : T (round_lengths_fit x code)
    rows : bad_term x.terms x.session.counter ≡ None
    stores : T (record_fits x code)
    words : bad_round_word (kind_in x.kinds) code ≡ None

  -- nor by 14, 13 and 12
  record Turn : Type 0 where
    passed : Passed
    goes_on : T (not overdue)
    taken : T (not (is_set x.session.answer))
    waiting : T (is_set x.session.message)

  -- what each answer says
  abbrev RoundGives : Rounded → Type 0
  RoundGives (Ran Ran.Limit) = T (round_lengths_fit x code) → ⊥
  RoundGives (Ran (Ran.BadTerm row)) = T (round_lengths_fit x code) × (bad_term x.terms x.session.counter ≡ Some row)
  RoundGives (Ran Ran.BadStore) = T (round_lengths_fit x code) × (bad_term x.terms x.session.counter ≡ None) × (T (record_fits x code) → ⊥)
  RoundGives (Ran (Ran.BadWord word)) =
      T (round_lengths_fit x code) × (bad_term x.terms x.session.counter ≡ None) × T (record_fits x code) × (bad_round_word (kind_in x.kinds) code ≡ Some word)
  RoundGives RoleEnded = Passed × T overdue
  RoundGives NotTaken = Passed × T (not overdue) × T (is_set x.session.answer)
  RoundGives NoMessage = Passed × T (not overdue) × T (not (is_set x.session.answer)) × T (not (is_set x.session.message))
  RoundGives (Ran (Ran.Stuck word reason)) = Turn × (steps_in ≡ stuck word (reason_number reason))
  RoundGives (Ran (Ran.NoRoom word)) = Turn × (steps_in ≡ room word)
  RoundGives (Ran (Ran.Done words)) = Turn × (words ≡ length code) × ((t : State row_world) × (steps_in ≡ done t))

  -- and what it leaves
  abbrev RoundLeaves : RoundOutcome → Type 0
  RoundLeaves o =
      RoundGives o.answer × (rounded_number o.answer ≢ 0 → o ≡ untouched o.answer x)
      × ((t : State row_world) → steps_in ≡ done t → Turn → o ≡ sent_by (length code) x t)

  -- an answer before the steps, whose turn it is not
  refused : (answer : Rounded) → rounded_number answer ≢ 0 → RoundGives answer → (Turn → ⊥) → RoundLeaves (untouched answer x)
  refused answer nonzero gives no-turn = (gives, λ _. refl, λ t e turn. absurd (no-turn turn))

  by_steps : Turn → (o : Outcome (State row_world)) → steps_in ≡ o → RoundLeaves (round_ended (length code) x o)
  unfolding sent_by
  by_steps turn (done t) e = ((turn, refl, (t, e)), λ n. absurd (n refl), λ u q _. let same : t ≡ u = cc in ap (sent_by (length code) x) same)
  by_steps turn (stuck word why) e = (
    (turn, e ∙ ap (stuck word) (sym (reason_back why (exec_reasoned calm_rows (kind_in x.kinds) (lines_from 1 (middle code)) (state_of (received x)) e)))),
    λ _. refl,
    λ t q _. absurd (let z : ◌≡◌ {A = ℕ} 0 1 = cc in omega arith),
  )
  by_steps turn (room word) e = ((turn, e), λ _. refl, λ t q _. absurd (let z : ◌≡◌ {A = ℕ} 0 1 = cc in omega arith))

  -- one look after another
  by_looks : (a b c d e : Bool) (rows words : Option ℕ) → round_lengths_fit x code ≡ a → bad_term x.terms x.session.counter ≡ rows → record_fits x code ≡ b
      → bad_round_word (kind_in x.kinds) code ≡ words → overdue ≡ c → is_set x.session.answer ≡ d → is_set x.session.message ≡ e
      → RoundLeaves
      (round_by x code
      (first
      (when (not a) (Ran Ran.Limit) ∷ option_map (λ row. Ran (Ran.BadTerm row)) rows ∷ when (not b) (Ran Ran.BadStore) ∷ option_map (λ word. Ran (Ran.BadWord word)) words
      ∷ when c RoleEnded ∷ when d NotTaken ∷ when (not e) NoMessage ∷ [])))
  unfolding first
  by_looks false b c d e rows words p q r s u v w = refused (Ran Ran.Limit) (λ z. omega arith) (rw p λ n. n) λ turn. rw p at turn.passed.lengths
  by_looks true b c d e (Some row) words p q r s u v w =
      refused (Ran (Ran.BadTerm row)) (λ z. omega arith) (rw p tt, q) λ turn. let n = turn.passed.rows in let z : ◌≡◌ {A = ℕ} 0 1 = cc in omega arith
  by_looks true false c d e None words p q r s u v w = refused (Ran Ran.BadStore) (λ z. omega arith) (rw p tt, q, rw r λ n. n) λ turn. rw r at turn.passed.stores
  by_looks true true c d e None (Some word) p q r s u v w =
      refused (Ran (Ran.BadWord word)) (λ z. omega arith) (rw p tt, q, rw r tt, s) λ turn. let n = turn.passed.words in let z : ◌≡◌ {A = ℕ} 0 1 = cc in omega arith
  by_looks true true true d e None None p q r s u v w =
      refused RoleEnded (λ z. omega arith) (record { lengths = rw p tt; rows = q; stores = rw r tt; words = s }, rw u tt) λ turn. rw u at turn.goes_on
  by_looks true true false true e None None p q r s u v w =
      refused NotTaken (λ z. omega arith) (record { lengths = rw p tt; rows = q; stores = rw r tt; words = s }, rw u tt, rw v tt) λ turn. rw v at turn.taken
  by_looks true true false false false None None p q r s u v w =
      refused NoMessage (λ z. omega arith) (record { lengths = rw p tt; rows = q; stores = rw r tt; words = s }, rw u tt, rw v tt, rw w tt) λ turn. rw w at turn.waiting
  by_looks true true false false true None None p q r s u v w =
      by_steps (record { passed = record { lengths = rw p tt; rows = q; stores = rw r tt; words = s }; goes_on = rw u tt; taken = rw v tt; waiting = rw w tt }) steps_in refl

  round_leaves : RoundLeaves (round x code)
  unfolding round
  round_leaves =
      by_looks (round_lengths_fit x code) (record_fits x code) overdue (is_set x.session.answer) (is_set x.session.message) (bad_term x.terms x.session.counter)
      (bad_round_word (kind_in x.kinds) code) refl refl refl refl refl refl refl

  -- the answer of a number, a place and a reason
  abbrev rounded_of : ℕ → ℕ → ℕ → Rounded
  rounded_of number place reason =
      get_or
      (Ran (Ran.Done place) ∷ Ran Ran.Limit ∷ Ran (Ran.BadTerm place) ∷ Ran Ran.BadStore ∷ Ran Ran.Limit ∷ Ran Ran.Limit ∷ Ran Ran.Limit ∷ Ran Ran.Limit ∷ Ran Ran.Limit
      ∷ Ran (Ran.BadWord place) ∷ Ran (Ran.Stuck place (reason_of reason)) ∷ Ran (Ran.NoRoom place) ∷ NoMessage ∷ NotTaken ∷ RoleEnded ∷ [])
      number (Ran Ran.Limit)

  rounded_back : (answer : Rounded) → rounded_of (rounded_number answer) (rounded_place answer) (rounded_reason answer) ≡ answer
  rounded_back (Ran (Ran.Done words)) = refl
  rounded_back (Ran Ran.Limit) = refl
  rounded_back (Ran (Ran.BadTerm row)) = refl
  rounded_back (Ran Ran.BadStore) = refl
  rounded_back (Ran (Ran.BadWord word)) = refl
  rounded_back (Ran (Ran.Stuck word reason)) = ap (λ why. Ran (Ran.Stuck word why)) (reason_known reason)
  rounded_back (Ran (Ran.NoRoom word)) = refl
  rounded_back NoMessage = refl
  rounded_back NotTaken = refl
  rounded_back RoleEnded = refl

  answer_is : {number place reason : ℕ} → RoundAnswers (round x code) number place reason → (round x code).answer ≡ rounded_of number place reason
  answer_is a = sym (rounded_back (round x code).answer) ∙ λ i. rounded_of (a.0 i) (a.1 i) (a.2 i)

  means : {number place reason : ℕ} → RoundAnswers (round x code) number place reason → RoundGives (rounded_of number place reason)
  means a = subst RoundGives (answer_is a) round_leaves.0

  -- and what is said is answered
  passed_steps : Passed → first (when overdue RoleEnded ∷ when (is_set x.session.answer) NotTaken ∷ when (not (is_set x.session.message)) NoMessage ∷ [])
      ≡ first
      (when (not (round_lengths_fit x code)) (Ran Ran.Limit) ∷ option_map (λ row. Ran (Ran.BadTerm row)) (bad_term x.terms x.session.counter)
      ∷ when (not (record_fits x code)) (Ran Ran.BadStore) ∷ option_map (λ word. Ran (Ran.BadWord word)) (bad_round_word (kind_in x.kinds) code) ∷ when overdue RoleEnded
      ∷ when (is_set x.session.answer) NotTaken ∷ when (not (is_set x.session.message)) NoMessage ∷ [])
  unfolding first
  passed_steps p =
      rw (passes_when (round_lengths_fit x code) (Ran Ran.Limit) p.lengths, p.rows, passes_when (record_fits x code) (Ran Ran.BadStore) p.stores, p.words)

  turn_steps : Turn → round x code ≡ round_ended (length code) x steps_in
  unfolding round first
  turn_steps turn =
      ap (round_by x code) (sym (passed_steps turn.passed))
      ∙ rw (
        is_false overdue ((fails overdue).0 turn.goes_on),
        is_false (is_set x.session.answer)
            ((fails (is_set x.session.answer)).0 turn.taken),
        is_true (is_set x.session.message) turn.waiting,
      )

  gives_answer : (answer : Rounded) → RoundGives answer → (round x code).answer ≡ answer
  unfolding round first sent_by
  gives_answer (Ran Ran.Limit) h = rw (fails_when (round_lengths_fit x code) (Ran Ran.Limit) h)
  gives_answer (Ran (Ran.BadTerm row)) h = rw (passes_when (round_lengths_fit x code) (Ran Ran.Limit) h.0, h.1)
  gives_answer (Ran Ran.BadStore) h =
      rw (passes_when (round_lengths_fit x code) (Ran Ran.Limit) h.0, h.1, fails_when (record_fits x code) (Ran Ran.BadStore) h.2)
  gives_answer (Ran (Ran.BadWord word)) h =
      rw (passes_when (round_lengths_fit x code) (Ran Ran.Limit) h.0, h.1, passes_when (record_fits x code) (Ran Ran.BadStore) h.2, h.3)
  gives_answer RoleEnded (p, o) = ap (λ r. (round_by x code r).answer) (sym (passed_steps p)) ∙ rw (is_true overdue o)
  gives_answer NotTaken (p, o, a) =
      ap (λ r. (round_by x code r).answer) (sym (passed_steps p)) ∙ rw (is_false overdue ((fails overdue).0 o), is_true (is_set x.session.answer) a)
  gives_answer NoMessage (p, o, a, m) =
      ap (λ r. (round_by x code r).answer) (sym (passed_steps p))
      ∙ rw (
        is_false overdue ((fails overdue).0 o),
        is_false (is_set x.session.answer) ((fails (is_set x.session.answer)).0 a),
        is_false
            (is_set x.session.message) ((fails (is_set x.session.message)).0 m),
      )
  gives_answer (Ran (Ran.Stuck word reason)) (turn, e) = ap (λ o. o.answer) (turn_steps turn) ∙ rw e (ap (λ why. Ran (Ran.Stuck word why)) (reason_known reason))
  gives_answer (Ran (Ran.NoRoom word)) (turn, e) = ap (λ o. o.answer) (turn_steps turn) ∙ rw e
  gives_answer (Ran (Ran.Done words)) (turn, n, (t, e)) = ap (λ o. o.answer) (turn_steps turn) ∙ rw (e, n)

  -- the tests and the conditions say the same
  within : T (round_lengths_fit x code) ↔ RoundWithin x code
  within =
      simp (both, equals, at_most) (
        λ h. record {
          lent = record {
            kinds = h.0.0.0.0.0.0.0.0.0.0;
            objects = h.0.0.0.0.0.0.0.0.0.1;
            messages = h.0.0.0.0.0.0.0.0.1;
            certificates = h.0.0.0.0.0.0.0.1;
            terms = h.0.0.0.0.0.0.1;
            counter = h.0.0.0.0.0.1;
          };
          words = (h.0.0.0.0.1, h.0.0.0.1);
          rounds = (h.0.0.1, h.0.1);
          used = h.1;
        },
        λ w. (
          (((((((((w.lent.kinds, w.lent.objects), w.lent.messages), w.lent.certificates), w.lent.terms), w.lent.counter), w.words.0), w.words.1), w.rounds.0), w.rounds.1),
          w.used,
        ),
      )

  valid_record : T (record_fits x code) ↔ ValidRecord x
  valid_record =
      let tests = both (valid x.terms (used_rows x.terms) x.kinds x.objects x.messages x.certificates x.session.message) (cell_fits (used_rows x.terms) x.session.answer) in
      let stores = stores_valid (received x) in
      let answer = unset_or_used (used_rows x.terms) x.session.answer in (
        λ t. record { stores = stores.0 (tests.0 t).0; answer = answer.0 (tests.0 t).1 },
        λ v. tests.1 (stores.1 v.stores, answer.1 v.answer),
      )

  -- a word's test, taken apart
  module _ (place : ℕ) where
    abbrev word_at : ℕ
    word_at = get_or code place 0

    at_end : T (cond (eqb (suc place) (length code)) (eqb word_at output_word) (good_word (kind_in x.kinds) word_at))
        ↔ ((suc place ≡ length code → word_at ≡ output_word) × (suc place ≢ length code → GoodWord (kind_in x.kinds) word_at))
    at_end =
        let choice = chosen (eqb (suc place) (length code)) (eqb word_at output_word) (good_word (kind_in x.kinds) word_at) in
        let is_last = equals (suc place) (length code) in
        let not_last = fails (eqb (suc place) (length code)) in
        let good = good_iff (kind_in x.kinds) word_at in (
          λ t. let (l, m) = choice.0 t in (λ e. (equals word_at output_word).0 (l (is_last.1 e)), λ n. good.0 (m (not_last.1 λ t. n (is_last.0 t)))),
          λ h. choice.1 (λ t. (equals word_at output_word).1 (h.0 (is_last.0 t)), λ n. good.1 (h.1 λ e. not_last.0 n (is_last.1 e))),
        )

    word_says : T (good_round_word (kind_in x.kinds) (length code) place word_at) ↔ GoodRoundWord (kind_in x.kinds) code place
    unfolding good_round_word
    word_says =
        let choice = chosen (eqb place 0) (eqb word_at input_word) (cond (eqb (suc place) (length code)) (eqb word_at output_word) (good_word (kind_in x.kinds) word_at)) in
        let is-first = equals place 0 in
        let not_first = fails (eqb place 0) in (
          λ t.
              let (f, m) = choice.0 t in
              record {
                first = λ e. (equals word_at input_word).0 (f (is-first.1 e));
                last = λ n. (at_end.0 (m (not_first.1 λ t. n (is-first.0 t)))).0;
                between = λ n. (at_end.0 (m (not_first.1 λ t. n (is-first.0 t)))).1;
              },
          λ g.
              choice.1 (
                λ t. (equals word_at input_word).1 (g.first (is-first.0 t)),
                λ n. let apart : place ≢ 0 = λ e. not_first.0 n (is-first.1 e) in at_end.1 (g.last apart, g.between apart),
              ),
        )

    test_says : place < length code → T (not (not (good_round_word (kind_in x.kinds) (length code) place word_at))) ↔ GoodRoundWord (kind_in x.kinds) code place
    test_says inside = Iff.trans (twice (good_round_word (kind_in x.kinds) (length code) place word_at)) word_says

  words_good : (bad_round_word (kind_in x.kinds) code ≡ None) ↔ AllGood (GoodRoundWord (kind_in x.kinds) code) (length code)
  unfolding bad_round_word
  words_good = none_bad (λ place word. not (good_round_word (kind_in x.kinds) (length code) place word)) (GoodRoundWord (kind_in x.kinds) code) code 0 test_says

  word_bad : (word : ℕ) → (bad_round_word (kind_in x.kinds) code ≡ Some word) ↔ LowestBad (GoodRoundWord (kind_in x.kinds) code) (length code) word
  unfolding bad_round_word
  word_bad = lowest_bad (λ place word. not (good_round_word (kind_in x.kinds) (length code) place word)) (GoodRoundWord (kind_in x.kinds) code) code 0 test_says

  checked : Passed ↔ RoundChecked x code
  checked = (
    λ p. record {
      within = within.0 p.lengths;
      table = (valid_table x.terms x.session.counter).0 p.rows;
      record_valid = valid_record.0 p.stores;
      words = words_good.0 p.words;
    },
    λ c. record {
      lengths = within.1 c.within;
      rows = (valid_table x.terms x.session.counter).1 c.table;
      stores = valid_record.1 c.record_valid;
      words = words_good.1 c.words;
    },
  )

  on_time : T (not overdue) ↔ (x.session.round < x.rounds)
  on_time = (
    λ t. let late : x.rounds ≤ x.session.round → ⊥ = λ l. (fails overdue).0 t ((at_most x.rounds x.session.round).1 l) in before late,
    λ l. (fails overdue).1 λ t. let late = (at_most x.rounds x.session.round).0 t in omega arith,
  )
    where
      before : (x.rounds ≤ x.session.round → ⊥) → x.session.round < x.rounds
      before n = omega arith

  due : Turn ↔ Due x code
  due = (
    λ t. record {
      checked = checked.0 t.passed;
      goes_on = on_time.0 t.goes_on;
      taken = (unset_cell x.session.answer).0 t.taken;
      waiting = (set_cell x.session.message).0 t.waiting;
    },
    λ d. record {
      passed = checked.1 d.checked;
      goes_on = on_time.1 d.goes_on;
      taken = (unset_cell x.session.answer).1 d.taken;
      waiting = (set_cell x.session.message).1 d.waiting;
    },
  )

  -- a round that is due is its steps
  pub due_steps : Due x code → round x code ≡ round_ended (length code) x steps_in
  due_steps d = turn_steps (due.1 d)

  -- and one that is done was due
  pub done_steps : rounded_number (round x code).answer ≡ 0 → Due x code × ((t : State row_world) × (steps_in ≡ done t) × (round x code ≡ sent_by (length code) x t))
  done_steps e = let (turn, _, (t, q)) = means (e, refl, refl) in (due.0 turn, (t, q, round_leaves.2 t q turn))

  says : (answer : Rounded) → RoundGives answer → RoundAnswers (round x code) (rounded_number answer) (rounded_place answer) (rounded_reason answer)
  says answer g = let e = gives_answer answer g in (ap rounded_number e, ap rounded_place e, ap rounded_reason e)

  stuck_so : (word reason : ℕ) → Turn → steps_in ≡ stuck word reason → RoundAnswers (round x code) 10 word reason
  stuck_so word reason turn e =
      let same = reason_back reason (exec_reasoned calm_rows (kind_in x.kinds) (lines_from 1 (middle code)) (state_of (received x)) e) in
      let (number, place, why) = says (Ran (Ran.Stuck word (reason_of reason))) (turn, e ∙ ap (stuck word) (sym same)) in
      (number, place, why ∙ same)

  so_stuck : (word reason : ℕ) → RoundAnswers (round x code) 10 word reason → Turn × (steps_in ≡ stuck word reason)
  so_stuck word reason a =
      let (turn, e) = means a in
      let same : reason_number (reason_of reason) ≡ reason = sym (ap rounded_reason (answer_is a)) ∙ a.2 in
      (turn, e ∙ ap (stuck word) same)

  pub round_table : RoundTable x code
  round_table =
      let table = valid_table x.terms x.session.counter in
      record {
        limit = (λ a w. means a (within.1 w), λ n. says (Ran Ran.Limit) λ t. n (within.0 t));
        bad_term_lem = λ row. (
          λ a. let (t, e) = means a in (within.0 t, (bad_term_at x.terms x.session.counter row).0 e),
          λ h. says (Ran (Ran.BadTerm row)) (within.1 h.0, (bad_term_at x.terms x.session.counter row).1 h.1),
        );
        bad_store = (
          λ a. let (t, e, n) = means a in (within.0 t, table.0 e, λ v. n (valid_record.1 v)),
          λ h. says (Ran Ran.BadStore) (within.1 h.0, table.1 h.1, λ t. h.2 (valid_record.0 t)),
        );
        bad_word = λ word. (
          λ a. let (t, e, s, b) = means a in (within.0 t, table.0 e, valid_record.0 s, (word_bad word).0 b),
          λ h. says (Ran (Ran.BadWord word)) (within.1 h.0, table.1 h.1, valid_record.1 h.2, (word_bad word).1 h.3),
        );
        role_ended = (
          λ a. let (p, o) = means a in (checked.0 p, (at_most x.rounds x.session.round).0 o),
          λ h. says RoleEnded (checked.1 h.0, (at_most x.rounds x.session.round).1 h.1),
        );
        not_taken = (
          λ a. let (p, o, s) = means a in (checked.0 p, on_time.0 o, (set_cell x.session.answer).0 s),
          λ h. says NotTaken (checked.1 h.0, on_time.1 h.1, (set_cell x.session.answer).1 h.2),
        );
        no_message = (
          λ a. let (p, o, s, m) = means a in (checked.0 p, on_time.0 o, (unset_cell x.session.answer).0 s, (unset_cell x.session.message).0 m),
          λ h. says NoMessage (checked.1 h.0, on_time.1 h.1, (unset_cell x.session.answer).1 h.2, (unset_cell x.session.message).1 h.3),
        );
        sticks = λ word reason. (
          λ a. let (turn, e) = so_stuck word reason a in (due.0 turn, e),
          λ h. stuck_so word reason (due.1 h.0) h.1,
        );
        no_room = λ word. (
          λ a. let (turn, e) = means a in (due.0 turn, e),
          λ h. says (Ran (Ran.NoRoom word)) (due.1 h.0, h.1),
        );
        finishes = λ words. (
          λ a. let (turn, n, t) = means a in (due.0 turn, n, t),
          λ h. says (Ran (Ran.Done words)) (due.1 h.0, h.1, h.2),
        );
        sent = λ t d e. round_leaves.2 t e (due.1 d);
        left = round_leaves.1;
      }
