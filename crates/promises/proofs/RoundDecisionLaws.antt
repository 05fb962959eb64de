-- The figures decide a round; what it leaves is valid again, with the set cells that are carried on.
use Prim.Native.Nat.{ℕ, ◌+◌, ◌≤◌}
use mathlib.Core.Path.{◌≡◌, refl, sym, ◌∙◌, ap, subst}
use mathlib.Core.Logic.{◌≢◌, ◌⊎◌, inl, inr}
use mathlib.Core.Bool.{true, false}
use Rattle.std.specs.Prelude.{Some}
use mathlib.Core.List.{List}
use native.Mathlib.Omega.{arith}
use lib.ListN.{length}
use Rattle.word.specs.Lowest.{AllGood}
use Rattle.numbers.specs.Kinds.{kind_in}
use Rattle.answers.specs.RoundNumbers.{rounded_number}
use Rattle.answers.specs.declared.Ran.TheVariants.{Done}
use Rattle.code.proofs.WordLaws.{no_bad_word_iff}
use Rattle.terms.specs.Rules.{used_rows}
use Rattle.terms.proofs.TableLaws.{used_rows_lem}
use Rattle.stores.specs.Cells.{unset, held}
use Rattle.stores.specs.GoodStores.{UnsetOrUsed}
use Rattle.patterns.specs.Tree.{pattern_of}
use Rattle.theory.specs.RowModel.{row_world}
use Rattle.theory.specs.Machine.{State, exec}
use Rattle.theory.specs.Emission.{Env}
use Rattle.theory.specs.TermModel.{Term}
use Rattle.theory.specs.Figure2.{TermStores}
use Rattle.theory.specs.Figure3.{Creates}
use Rattle.theory.proofs.InTurn.{from_done}
use Rattle.theory.proofs.RowsKept.{exec_appends}
use Rattle.calls.specs.Run.{Lent, RunOutcome, lent_after, state_over, state_of, left_by, lines_of, run}
use Rattle.calls.specs.Frame.{middle}
use Rattle.calls.specs.Round.{RoundLent, RoundOutcome, received, answered, sent_by, round}
use Rattle.calls.proofs.FrameLaws.{later_steps}
use Rattle.calls.proofs.FinishLaws.{state_valid}
use Rattle.calls.proofs.ValidAgain.{stays_valid}
use Rattle.calls.proofs.CarryLaws.{still_free}
use Rattle.promises.specs.Answers.{RunAnswers, run_number}
use Rattle.promises.specs.Reading.{after, message_before}
use Rattle.promises.specs.Conditions.{Valid, Room}
use Rattle.promises.specs.Demand3.{Prepared, DecidesMatch, DecidesCreation}
use Rattle.promises.specs.Rounds.{GoodRoundWord, Due}
use Rattle.promises.specs.Halves.{matched, between, created, sent, by_halves, set_cells, HalfCode, RoundHalves, round_words, RoundCode, ValidRound, ReadyRound, Leads, DecidesRound, round_after, put_message}
use Rattle.promises.proofs.RunLaws.{finished}
use Rattle.promises.proofs.ValidLaws.{run_valid_again}
use Rattle.promises.proofs.DecisionLaws.{enough, roomy, held_row, decided_match, decided_creation}
use Rattle.promises.proofs.RoundLaws.{done_steps}
use Rattle.promises.proofs.HalvesLaws.{middle_good, framed_length, framed_good, one_after_the_other, number_cases, half_goes, half_stops, both_done, done_both, half_few, half_good, half_prepared, half_carried}

-- a finished run answers with its words
zero_answers : (x : Lent) (code : List ℕ) → run_number (run x code) ≡ 0 → RunAnswers (run x code) 0 (length code) 0
unfolding left_by
zero_answers x code e = rw (finished x code e).left (refl, refl, refl)

-- a set message
waits : (terms : List ℕ) (message row : ℕ) → held message ≡ Some row → message ≢ unset
unfolding held
waits terms message row h e = let z : ◌≡◌ {A = ℕ} 0 1 = cc in omega arith

module _ {kinds : List ℕ} {set next : Env} {r : RoundHalves} (c : RoundCode kinds set r next) (start : set.next ≡ 0) where
  pub carried_start : c.carried.next ≡ 0
  carried_start = ap (λ (e : Env). e.next) (sym c.matches.carries)

  pub next_start : next.next ≡ 0
  next_start = ap (λ (e : Env). e.next) (sym c.creates.carries)

  few_first : length r.first ≤ 767
  few_first = half_few c.matches start

  few_second : length r.second ≤ 767
  few_second = half_few c.creates carried_start

  pub round_few : length (round_words r) ≤ 1536
  round_few = omega (arith, framed_length r.first r.second, few_first, few_second)

  words_good : AllGood (GoodRoundWord (kind_in kinds) (round_words r)) (length (round_words r))
  words_good = framed_good (kind_in kinds) r.first r.second (half_good c.matches start) (half_good c.creates carried_start)

module _ (x : RoundLent) {set next : Env} {r : RoundHalves} (c : RoundCode x.kinds set r next) (cells : set_cells (received x) ≡ set) where
  pub first_code : HalfCode false r.matching x.kinds (set_cells (received x)) r.first c.carried
  first_code = subst (λ e. HalfCode false r.matching x.kinds e r.first c.carried) (sym cells) c.matches

  pub second_code : run_number (matched x r.first) ≡ 0 → HalfCode true r.creating x.kinds (set_cells (between x r.first)) r.second next
  second_code e = subst (λ e. HalfCode true r.creating x.kinds e r.second next) (sym (half_carried (received x) first_code e)) c.creates

  starts : set.next ≡ 0
  starts = ap (λ (e : Env). e.next) (sym cells)

  round_is : Due x (round_words r) → round x (round_words r) ≡ by_halves x r.first r.second (matched x r.first) (created x r.first r.second)
  round_is due = one_after_the_other x r.first r.second due (omega (arith, few_first c starts)) (omega (arith, few_second c starts))

  -- a done round leaves set what its second half carries on
  pub cells_again : rounded_number (round x (round_words r)).answer ≡ 0 → set_cells (received (round_after x (round x (round_words r)))) ≡ next
  cells_again e =
      let whole = round_is (done_steps x (round_words r) e).0 in
      let first = matched x r.first in
      let second = created x r.first r.second in
      let (f, s) = done_both x r.first r.second first second (ap (λ (o : RoundOutcome). rounded_number o.answer) (sym whole) ∙ e) in
      ap (λ (o : RoundOutcome). set_cells (received (round_after x o))) (whole ∙ both_done x r.first r.second first second f s)
      ∙ half_carried (between x r.first) (second_code f) s

module _ (x : RoundLent) {set next : Env} {r : RoundHalves} (c : RoundCode x.kinds set r next) (ready : ReadyRound set x (round_words r)) where
  room_first : Room (received x) (length r.first + length r.second)
  room_first =
      let long = framed_length r.first r.second in
      record { rows = omega (arith, ready.room.rows); names = omega (arith, ready.room.names) }

  first_prepared : Prepared false r.matching (received x) r.first
  first_prepared =
      half_prepared (received x) (first_code x c ready.cells) ready.valid.valid
      (record { rows = omega (arith, room_first.rows); names = omega (arith, room_first.names) })

  room_second : run_number (matched x r.first) ≡ 0 → Room (between x r.first) (length r.second)
  room_second e =
      let f = finished (received x) r.first e in
      rw f.left (roomy (still_free f.passed f.state f.steps (Done (length r.first)) (length r.second) (enough room_first)))

  pub second_prepared : run_number (matched x r.first) ≡ 0 → Prepared true r.creating (between x r.first) r.second
  second_prepared e = half_prepared (between x r.first) (second_code x c ready.cells e) (run_valid_again (received x) r.first e) (room_second e)

  module _ {m : Term} (message : message_before (received x) ≡ Some m) where
    due : Due x (round_words r)
    due = record {
      checked = record {
        within = record {
          lent = ready.valid.valid.within;
          words = omega (arith, framed_length r.first r.second, round_few c (starts x c ready.cells));
          rounds = omega (arith, ready.few, ready.goes_on);
          used = ready.valid.used;
        };
        table = ready.valid.valid.table;
        record_valid = record { stores = ready.valid.valid.stores; answer = ready.valid.answer };
        words = words_good c (starts x c ready.cells);
      };
      goes_on = ready.goes_on;
      taken = ready.taken;
      waiting = let (row, set, _) = held_row x.terms x.session.message m message in waits x.terms x.session.message row set;
    }

    abbrev outcome : RoundOutcome
    outcome = round x (round_words r)

    abbrev first : RunOutcome
    first = matched x r.first

    abbrev second : RunOutcome
    second = created x r.first r.second

    whole : outcome ≡ by_halves x r.first r.second first second
    whole = round_is x c ready.cells due

    match : DecidesMatch r.matching (received x) r.first m
    match = decided_match first_prepared message

    creation : run_number first ≡ 0 → DecidesCreation r.creating (between x r.first) r.second
    creation e = decided_creation (second_prepared e)

    -- the creation that the figures lead to starts from the stores that the first half left
    from_between : {a : Term} {n : TermStores} → Leads r x m a n → Creates (kind_in x.kinds) (after (received x) first) (pattern_of r.creating) a n
    from_between {a} {n} l =
        let left = ((match.finishes l.stores).0 l.matches).1 in
        subst (λ s. Creates (kind_in x.kinds) s (pattern_of r.creating) a n) (sym left) l.creates

    sticks : rounded_number outcome.answer ≡ 10 → ((a : Term) (n : TermStores) → Leads r x m a n → ⊥) → DecidesRound r x m
    sticks ten never = record {
      finishes = λ a n. (λ l. absurd (never a n l), λ q. absurd (omega (arith, ten, q.0.0)));
      stuck = (λ _. never, λ _. ten);
      room = λ e. omega (arith, ten, e);
    }

    first_sticks : run_number first ≢ 0 → DecidesRound r x m
    first_sticks other =
        let ten = match.stuck.1 (λ n h. other ((match.finishes n).0 h).0.0) in
        sticks (ap (λ (o : RoundOutcome). rounded_number o.answer) whole ∙ half_stops x 1 first.answer _ other ∙ ten)
        λ a n l. other ((match.finishes l.stores).0 l.matches).0.0

    module _ (e : run_number first ≡ 0) where
      second_sticks : run_number second ≢ 0 → DecidesRound r x m
      second_sticks other =
          let ten = (creation e).stuck.1 (λ a n h. other (((creation e).finishes a n).0 h).0.0) in
          let stops = half_stops x (1 + length r.first) second.answer (sent (length (round_words r)) x second) other in
          sticks (ap (λ (o : RoundOutcome). rounded_number o.answer) (whole ∙ half_goes x 1 first.answer _ e) ∙ stops ∙ ten)
          λ a n l. other (((creation e).finishes a n).0 (from_between l)).0.0

      both_finish : run_number second ≡ 0 → DecidesRound r x m
      both_finish f =
          let end : outcome ≡ sent (length (round_words r)) x second = whole ∙ both_done x r.first r.second first second e f in
          let matches = (match.finishes (after (received x) first)).1 (zero_answers (received x) r.first e, refl) in
          record {
            finishes = λ a n. (
              λ l. rw end ((refl, refl, refl), (((creation e).finishes a n).0 (from_between l)).1, (((creation e).finishes a n).0 (from_between l)).2),
              λ q. record {
                stores = after (received x) first;
                matches = matches;
                creates = ((creation e).finishes a n).1 (zero_answers (between x r.first) r.second f, rw end at q.1, rw end at q.2);
              },
            );
            stuck = (
              λ q. absurd (omega (arith, rw end at q)),
              λ never.
                  let ten = (creation e).stuck.1 (λ a n h. never a n (record { stores = after (received x) first; matches = matches; creates = h })) in
                  absurd (omega (arith, ten, f)),
            );
            room = λ q. omega (arith, rw end at q);
          }

    pub round_decided : DecidesRound r x m
    round_decided = go (number_cases (run_number first)) (number_cases (run_number second))
      where
        go : (run_number first ≡ 0) ⊎ (run_number first ≢ 0) → (run_number second ≡ 0) ⊎ (run_number second ≢ 0) → DecidesRound r x m
        go (inr other) f = first_sticks other
        go (inl e) (inr other) = second_sticks e other
        go (inl e) (inl f) = both_finish e f

-- valid stores with another accumulator, and the record of a done round
module _ (x : RoundLent) (code : List ℕ) (t : State row_world) (v : Valid (lent_after (received x) (left_by (Done (length code)) t))) (message : ℕ) where
  put_valid : UnsetOrUsed (used_rows (sent_by (length code) x t).terms) message → ValidRound (put_message message (round_after x (sent_by (length code) x t)))
  unfolding sent_by answered left_by
  put_valid fits = record {
    valid = record {
      within = record {
        kinds = v.within.kinds;
        objects = v.within.objects;
        messages = v.within.messages;
        certificates = v.within.certificates;
        terms = v.within.terms;
        counter = v.within.counter;
      };
      table = v.table;
      stores = record {
        known = v.stores.known;
        undeclared = v.stores.undeclared;
        typed = v.stores.typed;
        cells = v.stores.cells;
        certified = v.stores.certified;
        held = fits;
      };
    };
    used = refl;
    answer = inl refl;
  }

pub round_valid_again : (x : RoundLent) (code : List ℕ) → rounded_number (round x code).answer ≡ 0
    → (message : ℕ) → UnsetOrUsed (used_rows (round x code).terms) message → ValidRound (put_message message (round_after x (round x code)))
unfolding state_over
round_valid_again x code e message fits =
    let (due, (t, comes, left)) = done_steps x code e in
    let kind = kind_in x.kinds in
    let valid : Valid (received x) = record { within = due.checked.within.lent; table = due.checked.table; stores = due.checked.record_valid.stores } in
    let start = state_of (received x) in
    let steps = from_done 1 (exec row_world kind (lines_of (middle code)) start) (sym (later_steps kind 1 (middle code) start) ∙ comes) in
    let good = (no_bad_word_iff kind (middle code)).1 (middle_good kind code due.checked.within.words.0 due.checked.words) in
    let last = state_valid (received x) (middle code) valid good t steps in
    let rows = exec_appends kind (lines_of (middle code)) start t (used_rows_lem x.terms).inside steps in
    rw left (put_valid x code t (stays_valid (received x) valid t last rows (Done (length code))) message (rw left at fits))
