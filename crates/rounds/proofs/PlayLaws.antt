-- What the steps between INPUT and OUTPUT leave of a round.
use mathlib.Core.Path.{◌≡◌, refl, sym, ◌∙◌, ap}
use mathlib.Core.Logic.{⊎_elim}
use Rattle.std.specs.Prelude.{None}
use mathlib.Core.List.{List}
use Prim.Native.Nat.{ℕ, suc, ◌-◌, ◌<◌, ◌≤◌}
use native.Mathlib.Omega.{arith}
use borrow.Author.Tests.{eq-eqb}
use lib.ListN.{length, take, drop}
use Rattle.numbers.specs.Kinds.{kind_in}
use Rattle.numbers.specs.Limits.{most_rounds, most_round_words}
use Rattle.answers.specs.First.{first}
use Rattle.answers.specs.Numbers.{ran_number, ran_place}
use Rattle.answers.specs.declared.Ran.{Ran}
use Rattle.answers.specs.declared.Ran.TheVariants.{Done}
use Rattle.answers.specs.declared.rounds.Session.{Session}
use Rattle.answers.specs.declared.rounds.Rounded.TheVariants as Rounded
use Rattle.terms.specs.Rules.{used_rows}
use Rattle.terms.proofs.TableLaws.{used_rows_lem}
use Rattle.stores.specs.Cells.{unset}
use Rattle.theory.specs.Outcome.{Outcome, done, stuck, room}
use Rattle.theory.specs.RowModel.{row_world}
use Rattle.theory.specs.Machine.{State}
use Rattle.theory.proofs.InTurn.{from}
use Rattle.calls.specs.Run.{RunOutcome, state_of, left_by, ended, run_by}
use Rattle.calls.specs.Frame.{middle}
use Rattle.calls.specs.Round.{RoundLent, RoundOutcome, received, answered, sent_by, round_ended, round_refusals, round}
use Rattle.calls.proofs.FrameLaws.{later_steps, middle_length}
use Rattle.calls.proofs.RunLaws.{steps_of}
use Rattle.execution.specs.Steps.{cells_after, Ready}
use Rattle.running.proofs.EndLaws.{with_cells, not_done}
use Rattle.turns.specs.Found.{GoesOn}
use Rattle.turns.specs.Played.{in_round}
use Rattle.turns.proofs.WordLaws.{good_middle, middle_part}
use Rattle.turns.proofs.CheckLaws.{RoundPassed, round_passed, round_stepped}
use Rattle.rounds.proofs.PlaceLaws.{StopsBefore, stops_before}

-- the words between INPUT and OUTPUT, as the code takes them
abbrev pub between_words : List ℕ → List ℕ
between_words code = take (length code - 1 - 1) (drop 1 code)

module _ {x : RoundLent} {code : List ℕ} {used : ℕ} (goes : GoesOn x code used) where
  pub passed : RoundPassed x code
  passed = round_passed x code goes.passes

  -- a set message is a used row
  pub message_small : x.session.message < 65536
  message_small =
      let p = passed in
      ⊎_elim (λ e. omega (arith, e)) (λ l. omega (arith, l, (used_rows_lem x.terms).inside, p.valid.within.terms)) p.valid.stores.held

  pub few_rounds : x.session.round < most_rounds
  few_rounds = omega (arith, passed.goes_on, passed.within.rounds.1)

  pub ready : {objects messages : List ℕ} → objects ≡ x.objects → messages ≡ x.messages → Ready (with_cells (received x) objects messages) used (between_words code)
  ready o m = let p = passed in rw (o, m, middle_part code) (record {
    valid = p.valid;
    counted = goes.counted;
    good_words = good_middle code p.within.words.0 (kind_in x.kinds) p.good_words;
    few_words = omega (arith, middle_length code p.within.words.0, p.within.words.1);
  })

-- the places of a round's steps are one further on
module _ (x : RoundLent) (code : List ℕ) where
  abbrev pub between : Outcome (State row_world)
  between = steps_of (received x) (middle code)

  pub round_later : first (round_refusals x code) ≡ None → round_ended (length code) x (from 1 between) ≡ round x code
  round_later e = ap (round_ended (length code) x) (sym (later_steps (kind_in x.kinds) 1 (middle code) (state_of (received x)))) ∙ round_stepped x code e

  -- what a done run leaves of a round, and any other
  abbrev sent : RunOutcome → RoundOutcome
  sent o = record {
    answer = Rounded.Ran (in_round o.answer);
    session = record { used = used_rows o.terms; counter = o.counter; round = suc x.session.round; message = unset; answer = o.accumulator };
    objects = o.objects;
    messages = o.messages;
    terms = o.terms;
  }

  abbrev kept : RunOutcome → RoundOutcome
  kept o = record { answer = Rounded.Ran (in_round o.answer); session = x.session; objects = x.objects; messages = x.messages; terms = o.terms }

  sent_ends : 2 ≤ length code → (o : Outcome (State row_world)) → ran_number (ended (length (middle code)) (received x) o).answer ≡ 0
      → sent (ended (length (middle code)) (received x) o) ≡ round_ended (length code) x (from 1 o)
  unfolding left_by sent_by answered
  sent_ends two (done s) e = rw (middle_length code two)
  sent_ends two (stuck place why) e = absurd (omega arith)
  sent_ends two (room place) e = absurd (omega arith)

  kept_ends : (o : Outcome (State row_world)) → (ran_number (ended (length (middle code)) (received x) o).answer ≡ 0 → ⊥)
      → kept (ended (length (middle code)) (received x) o) ≡ round_ended (length code) x (from 1 o)
  unfolding left_by
  kept_ends (done s) other = absurd (other refl)
  kept_ends (stuck place why) other = refl
  kept_ends (room place) other = refl

  place_ends : (o : Outcome (State row_world)) → StopsBefore (length (middle code)) o → ran_place (ended (length (middle code)) (received x) o).answer ≤ length (middle code)
  unfolding left_by
  place_ends (done s) stops = omega arith
  place_ends (stuck place why) stops = omega arith
  place_ends (room place) stops = omega arith

  module _ {used : ℕ} (goes : GoesOn x code used) {ran : Ran} (objects' messages' : List ℕ) {objects messages terms : List ℕ} {accumulator counter : ℕ}
      (o : objects ≡ x.objects) (m : messages ≡ x.messages)
      (e : record { answer = ran; objects = cells_after ran objects objects'; messages = cells_after ran messages messages'; accumulator = accumulator; terms = terms; counter = counter }
      ≡ run_by (with_cells (received x) objects messages) (between_words code) None) where
    lent : record { answer = ran; objects = cells_after ran objects objects'; messages = cells_after ran messages messages'; accumulator = accumulator; terms = terms; counter = counter }
        ≡ ended (length (middle code)) (received x) between
    lent = rw (o, m) (rw (o, m, middle_part code) at e)

    same_answer : ran ≡ (ended (length (middle code)) (received x) between).answer
    same_answer = ap (λ (left : RunOutcome). left.answer) lent

    two : 2 ≤ length code
    two = (passed goes).within.words.0

    pub place_small : ran_place ran ≤ most_round_words
    place_small =
        let within : ran_place ran ≤ length (middle code) = rw same_answer (place_ends between (stops_before row_world (kind_in x.kinds) (middle code) (state_of (received x)))) in
        omega (arith, middle_length code two, (passed goes).within.words.1)

    module _ {answer : Ran} (counts : answer ≡ in_round ran) where
      pub round_stops : ((words : ℕ) → ran ≡ Done words → ⊥)
          → record { answer = Rounded.Ran answer; session = x.session; objects = x.objects; messages = x.messages; terms = terms } ≡ round x code
      round_stops other = rw counts (ap kept lent ∙ kept_ends between (λ z. not_done ran other (ap ran_number same_answer ∙ z)) ∙ round_later goes.passes)

      pub round_sent : {words : ℕ} → ran ≡ Done words → {after : ℕ} → after ≡ used_rows terms
          → {session : Session} → session ≡ record { used = after; counter = counter; round = suc x.session.round; message = unset; answer = accumulator }
          → {objects'' messages'' : List ℕ} → objects'' ≡ objects' → messages'' ≡ messages'
          → record { answer = Rounded.Ran answer; session = session; objects = objects''; messages = messages''; terms = terms }
          ≡ round x code
      round_sent done_words counted sets o' m' =
          let ends = ap ran_number done_words in
          rw (counts, sets, counted, o', m') (ap sent (rw (eq-eqb (ran_number ran) 0 ends) at lent)
          ∙ sent_ends two between (sym (ap ran_number same_answer) ∙ ends) ∙ round_later goes.passes)
