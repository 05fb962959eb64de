-- What the entries for C of a round leave: plain numbers, and every lent byte afterwards. Fields stand high byte first.
use Rattle.std.specs.Prelude.{ℕ, Bool, cond, ◌&&◌, List, [], ◌∷◌, eqb, length, get_or}
use Rattle.word.specs.Bytes.{elements, spelled}
use Rattle.answers.specs.RoundNumbers.{rounded_number, rounded_place, rounded_reason}
use Rattle.answers.specs.declared.Ran.TheVariants.{Limit}
use Rattle.answers.specs.declared.rounds.Session.{Session}
use Rattle.answers.specs.declared.rounds.Rounded.{Rounded}
use Rattle.answers.specs.declared.rounds.Rounded.TheVariants.{Ran}
use Rattle.stores.specs.Cells.{unset}
use Rattle.calls.specs.Round.{RoundLent, RoundOutcome, TakenOutcome, round, taken_of}
use Rattle.lending.specs.Entries.{slices_whole}
use Rattle.lending.specs.declared.RoundAnswer.{RoundAnswer}
use Rattle.lending.specs.declared.TakeAnswer.{TakeAnswer}

-- the session record: five fields of four bytes
abbrev pub record_bytes : ℕ
record_bytes = 20

abbrev pub session_fields : Session → List ℕ
session_fields s = s.used ∷ s.counter ∷ s.round ∷ s.message ∷ s.answer ∷ []

-- and back
abbrev pub session_of : List ℕ → Session
session_of fields = record {
  used = get_or fields 0 0;
  counter = get_or fields 1 0;
  round = get_or fields 2 0;
  message = get_or fields 3 0;
  answer = get_or fields 4 0;
}

-- what is lent to a round as bytes
pub record RoundBytes : Type 0 where
  pub session : List ℕ
  pub rounds : ℕ
  pub kinds : List ℕ
  pub objects : List ℕ
  pub messages : List ℕ
  pub certificates : List ℕ
  pub terms : List ℕ

-- a call of round: what comes back, and the lent bytes that it may write
pub record RoundLeft : Type 0 where
  pub answer : RoundAnswer
  pub session : List ℕ
  pub objects : List ℕ
  pub messages : List ℕ
  pub terms : List ℕ

abbrev pub rounded_numbers : Rounded → RoundAnswer
rounded_numbers answer = record { number = rounded_number answer; place = rounded_place answer; reason = rounded_reason answer }

-- a record of its length, and slices as run has them
abbrev pub round_whole : RoundBytes → List ℕ → Bool
round_whole x code = eqb (length x.session) record_bytes && slices_whole x.objects x.messages x.certificates x.terms code

-- the elements of what is lent as bytes
abbrev pub round_elements : RoundBytes → RoundLent
round_elements x = record {
  session = session_of (elements 4 x.session);
  rounds = x.rounds;
  kinds = x.kinds;
  objects = elements 2 x.objects;
  messages = elements 2 x.messages;
  certificates = elements 8 x.certificates;
  terms = elements 8 x.terms;
}

-- an outcome with its rows as bytes
abbrev pub round_rows_spelled : RoundOutcome → RoundOutcome
round_rows_spelled o = record { answer = o.answer; session = o.session; objects = o.objects; messages = o.messages; terms = spelled 8 o.terms }

-- an outcome in numbers and bytes
abbrev pub round_spelled : RoundOutcome → RoundLeft
round_spelled o = record {
  answer = rounded_numbers o.answer;
  session = spelled 4 (session_fields o.session);
  objects = spelled 2 o.objects;
  messages = spelled 2 o.messages;
  terms = spelled 8 o.terms;
}

-- 1, with every byte as it was
abbrev pub round_refused : RoundBytes → RoundLeft
round_refused x = record { answer = rounded_numbers (Ran Limit); session = x.session; objects = x.objects; messages = x.messages; terms = x.terms }

-- round, lent bytes: a record of another length, or a slice that is not whole elements, is 1
unfoldable pub round_entry : RoundBytes → List ℕ → RoundLeft
round_entry x code = cond (round_whole x code) (round_spelled (round (round_elements x) (elements 4 code))) (round_refused x)

-- a call of take: what comes back, and the record afterwards
pub record TakeLeft : Type 0 where
  pub answer : TakeAnswer
  pub session : List ℕ

abbrev pub taken_spelled : TakenOutcome → TakeLeft
taken_spelled o = record { answer = record { number = 0; answer = o.answer }; session = spelled 4 (session_fields o.session) }

abbrev pub take_refused : List ℕ → TakeLeft
take_refused session = record { answer = record { number = 1; answer = unset }; session = session }

-- take, lent bytes: a record of another length is 1
unfoldable pub take_entry : List ℕ → TakeLeft
take_entry session = cond (eqb (length session) record_bytes) (taken_spelled (taken_of (session_of (elements 4 session)))) (take_refused session)
