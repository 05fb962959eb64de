-- What firmware calls for a round: the entries over bytes, fields high byte first. The record is 20 bytes: used, counter, round, message, answer.
use Rattle.std.specs.Prelude.{ℕ, ◌≡◌, ◌↔◌, ◌≢◌, List, [], ◌∷◌, ◌++◌, length, take, drop}
use Rattle.word.specs.Bytes.{number, elements, spelled}
use Rattle.stores.specs.Cells.{unset}
use Rattle.calls.specs.Round.{RoundOutcome, round}
use Rattle.lending.specs.RoundEntry.{record_bytes, session_fields, RoundBytes, RoundLeft, round_elements, round_entry, take_entry}
use Rattle.promises.specs.ForC.{Bytes, Whole}
use Rattle.promises.specs.Rounds.{RoundAnswers, RoundWithin}

module _ (x : RoundBytes) (code : List ℕ) where
  -- round of the elements that the bytes spell
  abbrev pub round_means : RoundOutcome
  round_means = round (round_elements x) (elements 4 code)

  -- a record of its length, and slices of whole elements
  pub record RoundWhole : Type 0 where
    pub record_bytes_lem : length x.session ≡ record_bytes
    pub object_bytes : Whole 2 x.objects
    pub message_bytes : Whole 2 x.messages
    pub certificate_bytes : Whole 8 x.certificates
    pub term_bytes : Whole 8 x.terms
    pub code_bytes : Whole 4 code

  abbrev pub RoundComes : ℕ → ℕ → ℕ → Type 0
  RoundComes number place reason =
      ((round_entry x code).answer.number ≡ number) × ((round_entry x code).answer.place ≡ place) × ((round_entry x code).answer.reason ≡ reason)

  -- lent bytes as they were
  pub record RoundAsLent (o : RoundLeft) : Type 0 where
    pub session : o.session ≡ x.session
    pub objects : o.objects ≡ x.objects
    pub messages : o.messages ≡ x.messages
    pub terms : o.terms ≡ x.terms

  -- the bytes of what round leaves
  pub record RoundSpells (o : RoundLeft) (means : RoundOutcome) : Type 0 where
    pub session : o.session ≡ spelled 4 (session_fields means.session)
    pub objects : o.objects ≡ spelled 2 means.objects
    pub messages : o.messages ≡ spelled 2 means.messages
    pub terms : o.terms ≡ spelled 8 means.terms

  pub record RoundForC : Type 0 where
    -- 1 exactly where a slice is not whole or something is outside its limit; every other number exactly where round has it for the elements
    pub limit : RoundComes 1 0 0 ↔ (RoundWhole × RoundWithin (round_elements x) (elements 4 code) → ⊥)
    pub numbers : (number place reason : ℕ) → number ≢ 1 → RoundComes number place reason ↔ (RoundWhole × RoundAnswers round_means number place reason)
    pub left : (round_entry x code).answer.number ≢ 0 → RoundAsLent (round_entry x code)
    pub done : (round_entry x code).answer.number ≡ 0 → RoundSpells (round_entry x code) round_means

-- the last four bytes are handed back as a number, and 65,535 stands there; the other sixteen stay
pub record TakeForC (session : List ℕ) : Type 0 where
  pub taken : length session ≡ record_bytes → ((take_entry session).answer.number ≡ 0) × ((take_entry session).answer.answer ≡ number (drop 16 session))
      × ((take_entry session).session ≡ take 16 session ++ spelled 4 (unset ∷ []))
  pub refused : length session ≢ record_bytes → ((take_entry session).answer.number ≡ 1) × ((take_entry session).answer.answer ≡ unset) × ((take_entry session).session ≡ session)

pub record RoundsForC : Type 0 where
  pub rounds : (x : RoundBytes) (code : List ℕ) → Bytes x.session → Bytes x.objects → Bytes x.messages → Bytes x.terms → RoundForC x code
  pub takes : (session : List ℕ) → Bytes session → TakeForC session
