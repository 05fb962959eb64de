-- Rounds: document 02's numbers, exactly. A number is given where its condition holds and no earlier one does, at its place; with any answer but 0 all that was lent is as on entry.
use Rattle.std.specs.Prelude.{ℕ, suc, ◌<◌, ◌≤◌, ◌≡◌, ◌↔◌, ◌≢◌, List, length, get_or}
use Rattle.word.specs.Lowest.{LowestBad, AllGood}
use Rattle.numbers.specs.Kinds.{kind_in}
use Rattle.numbers.specs.Limits.{most_rounds, most_round_words}
use Rattle.answers.specs.RoundNumbers.{rounded_number, rounded_place, rounded_reason}
use Rattle.code.specs.GoodWords.{GoodWord}
use Rattle.terms.specs.Rules.{used_rows}
use Rattle.terms.specs.Table.{ValidTable}
use Rattle.stores.specs.Cells.{unset}
use Rattle.stores.specs.GoodStores.{UnsetOrUsed}
use Rattle.theory.specs.Outcome.{Outcome, done, stuck, room}
use Rattle.theory.specs.RowModel.{row_world}
use Rattle.theory.specs.Machine.{State, exec}
use Rattle.calls.specs.Run.{state_of, lines_from}
use Rattle.calls.specs.Frame.{input_word, output_word, middle}
use Rattle.calls.specs.Round.{RoundLent, RoundOutcome, untouched, received, sent_by, round}
use Rattle.promises.specs.Conditions.{LentWithin, ValidStores, BadTermAt}

abbrev pub RoundAnswers : RoundOutcome → ℕ → ℕ → ℕ → Type 0
RoundAnswers o number place reason = (rounded_number o.answer ≡ number) × (rounded_place o.answer ≡ place) × (rounded_reason o.answer ≡ reason)

-- not 1: what run is lent is within its limits, 2 to 1,538 words, 1 to 16 rounds, and the record counts the table's used rows
pub record RoundWithin (x : RoundLent) (code : List ℕ) : Type 0 where
  pub lent : LentWithin (received x)
  pub words : (2 ≤ length code) × (length code ≤ most_round_words)
  pub rounds : (1 ≤ x.rounds) × (x.rounds ≤ most_rounds)
  pub used : x.session.used ≡ used_rows x.terms

-- not 3: stores that are valid with the message for their accumulator, and an answer that is unset or a used row
pub record ValidRecord (x : RoundLent) : Type 0 where
  pub stores : ValidStores (received x)
  pub answer : UnsetOrUsed (used_rows x.terms) x.session.answer

-- not 9: INPUT first, OUTPUT last, and between them words that are good for run
pub record GoodRoundWord (kind : ℕ → ℕ) (code : List ℕ) (place : ℕ) : Type 0 where
  pub first : place ≡ 0 → get_or code place 0 ≡ input_word
  pub last : place ≢ 0 → suc place ≡ length code → get_or code place 0 ≡ output_word
  pub between : place ≢ 0 → suc place ≢ length code → GoodWord kind (get_or code place 0)

module _ (x : RoundLent) (code : List ℕ) where
  -- neither 1, 2, 3 nor 9
  pub record RoundChecked : Type 0 where
    pub within : RoundWithin x code
    pub table : ValidTable x.terms x.session.counter
    pub record_valid : ValidRecord x
    pub words : AllGood (GoodRoundWord (kind_in x.kinds) code) (length code)

  -- nor 14, 13, 12: the role goes on, no answer waits, and a message does
  pub record Due : Type 0 where
    pub checked : RoundChecked
    pub goes_on : x.session.round < x.rounds
    pub taken : x.session.answer ≡ unset
    pub waiting : x.session.message ≢ unset

  -- the words between INPUT and OUTPUT, from the message on; INPUT is word 0
  abbrev pub Comes : Outcome (State row_world) → Type 0
  Comes o = exec row_world (kind_in x.kinds) (lines_from 1 (middle code)) (state_of (received x)) ≡ o

  pub record RoundTable : Type 0 where
    pub limit : RoundAnswers (round x code) 1 0 0 ↔ (RoundWithin x code → ⊥)
    pub bad_term_lem : (row : ℕ) → RoundAnswers (round x code) 2 row 0 ↔ (RoundWithin x code × BadTermAt (received x) row)
    pub bad_store : RoundAnswers (round x code) 3 0 0 ↔ (RoundWithin x code × ValidTable x.terms x.session.counter × (ValidRecord x → ⊥))
    pub bad_word : (word : ℕ)
        → RoundAnswers (round x code) 9 word 0
        ↔ (RoundWithin x code × ValidTable x.terms x.session.counter × ValidRecord x × LowestBad (GoodRoundWord (kind_in x.kinds) code) (length code) word)
    pub role_ended : RoundAnswers (round x code) 14 0 0 ↔ (RoundChecked × (x.rounds ≤ x.session.round))
    pub not_taken : RoundAnswers (round x code) 13 0 0 ↔ (RoundChecked × (x.session.round < x.rounds) × (x.session.answer ≢ unset))
    pub no_message : RoundAnswers (round x code) 12 0 0
        ↔ (RoundChecked × (x.session.round < x.rounds) × (x.session.answer ≡ unset) × (x.session.message ≡ unset))
    pub sticks : (word reason : ℕ) → RoundAnswers (round x code) 10 word reason ↔ (Due × Comes (stuck word reason))
    pub no_room : (word : ℕ) → RoundAnswers (round x code) 11 word 0 ↔ (Due × Comes (room word))
    pub finishes : (words : ℕ) → RoundAnswers (round x code) 0 words 0 ↔ (Due × (words ≡ length code) × ((t : State row_world) × Comes (done t)))
    -- what is left: by the last state, or everything as on entry
    pub sent : (t : State row_world) → Due → Comes (done t) → round x code ≡ sent_by (length code) x t
    pub left : rounded_number (round x code).answer ≢ 0 → round x code ≡ untouched (round x code).answer x
