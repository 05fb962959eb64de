-- A round's answer: it looks in the order 1, 2, 3, 9, 14, 13, 12, then steps. Any answer but 0 leaves the values on entry.
use Rattle.std.specs.Prelude.{ℕ, suc, Bool, not, ◌&&◌, List, [], ◌∷◌, length, eqb, leb}
use Rattle.std.specs.Prelude.{Option, None, Some}
use Rattle.std.specs.Option.{option_map}
use Rattle.numbers.specs.Kinds.{kind_in}
use Rattle.numbers.specs.Limits.{variables, message_cells, most_term_rows, most_certificates, most_names, most_rounds, most_round_words}
use Rattle.answers.specs.First.{when, first}
use Rattle.answers.specs.Numbers.{reason_of}
use Rattle.answers.specs.declared.Ran.TheVariants.{Done, Limit, BadTerm, BadStore, BadWord, Stuck, NoRoom}
use Rattle.answers.specs.declared.rounds.Session.{Session}
use Rattle.answers.specs.declared.rounds.Rounded.{Rounded}
use Rattle.answers.specs.declared.rounds.Rounded.TheVariants.{Ran, NoMessage, NotTaken, RoleEnded}
use Rattle.terms.specs.Rules.{used_rows, bad_term}
use Rattle.stores.specs.Cells.{unset, is_set, cell_of}
use Rattle.stores.specs.Valid.{cell_fits, valid}
use Rattle.theory.specs.Outcome.{Outcome, done, stuck, room}
use Rattle.theory.specs.RowModel.{row_world}
use Rattle.theory.specs.Machine.{State, exec}
use Rattle.calls.specs.Run.{Lent, state_of, left_by, lines_from}
use Rattle.calls.specs.Frame.{middle, bad_round_word}

-- what is lent to a round
pub record RoundLent : Type 0 where
  pub session : Session
  pub rounds : ℕ
  pub kinds : List ℕ
  pub objects : List ℕ
  pub messages : List ℕ
  pub certificates : List ℕ
  pub terms : List ℕ

-- the answer, and what was lent afterwards
pub record RoundOutcome : Type 0 where
  pub answer : Rounded
  pub session : Session
  pub objects : List ℕ
  pub messages : List ℕ
  pub terms : List ℕ

-- the values on entry
abbrev pub untouched : Rounded → RoundLent → RoundOutcome
untouched answer x = record { answer = answer; session = x.session; objects = x.objects; messages = x.messages; terms = x.terms }

-- INPUT: the message is the accumulator
abbrev pub received : RoundLent → Lent
received x = record {
  kinds = x.kinds;
  objects = x.objects;
  messages = x.messages;
  certificates = x.certificates;
  accumulator = x.session.message;
  terms = x.terms;
  counter = x.session.counter;
}

-- OUTPUT: the accumulator is the answer; the message is taken, and the next round waits for its own
unfoldable pub answered : Session → State row_world → Session
answered session s = record {
  used = used_rows s.stores.memory.rows;
  counter = s.stores.memory.counter;
  round = suc session.round;
  message = unset;
  answer = cell_of s.accumulator;
}

unfoldable pub sent_by : ℕ → RoundLent → State row_world → RoundOutcome
sent_by words x s =
    let left = left_by (Done words) s in
    record { answer = Ran (Done words); session = answered x.session s; objects = left.objects; messages = left.messages; terms = left.terms }

abbrev pub round_ended : ℕ → RoundLent → Outcome (State row_world) → RoundOutcome
round_ended words x (done s) = sent_by words x s
round_ended words x (stuck place why) = untouched (Ran (Stuck place (reason_of why))) x
round_ended words x (room place) = untouched (Ran (NoRoom place)) x

module _ (x : RoundLent) (code : List ℕ) where
  abbrev pub round_lengths_fit : Bool
  round_lengths_fit =
      eqb (length x.kinds) variables && eqb (length x.objects) variables && eqb (length x.messages) message_cells
      && leb (length x.certificates) most_certificates && leb (length x.terms) most_term_rows && leb x.session.counter most_names
      && leb 2 (length code) && leb (length code) most_round_words && leb 1 x.rounds && leb x.rounds most_rounds
      && eqb x.session.used (used_rows x.terms)

  -- as run, with the message for its accumulator; and the answer is unset or a used row
  abbrev pub record_fits : Bool
  record_fits =
      valid x.terms (used_rows x.terms) x.kinds x.objects x.messages x.certificates x.session.message
      && cell_fits (used_rows x.terms) x.session.answer

  -- 1, 2, 3, 9, 14, 13, 12
  abbrev pub round_refusals : List (Option Rounded)
  round_refusals =
      when (not round_lengths_fit) (Ran Limit)
      ∷ option_map (λ row. Ran (BadTerm row)) (bad_term x.terms x.session.counter)
      ∷ when (not record_fits) (Ran BadStore)
      ∷ option_map (λ word. Ran (BadWord word)) (bad_round_word (kind_in x.kinds) code)
      ∷ when (leb x.rounds x.session.round) RoleEnded
      ∷ when (is_set x.session.answer) NotTaken
      ∷ when (not (is_set x.session.message)) NoMessage
      ∷ []

  -- the words between INPUT, which is word 0, and OUTPUT
  abbrev pub round_by : Option Rounded → RoundOutcome
  round_by (Some answer) = untouched answer x
  round_by None = round_ended (length code) x (exec row_world (kind_in x.kinds) (lines_from 1 (middle code)) (state_of (received x)))

  unfoldable pub round : RoundOutcome
  round = round_by (first round_refusals)

-- the answer that waits is handed back, and none waits any more
pub record TakenOutcome : Type 0 where
  pub session : Session
  pub answer : ℕ

abbrev pub taken_of : Session → TakenOutcome
taken_of s = record {
  session = record { used = s.used; counter = s.counter; round = s.round; message = s.message; answer = unset };
  answer = s.answer;
}
