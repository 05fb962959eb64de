-- What the entry for C that reads a listing back leaves: plain numbers, and every lent byte afterwards.
use Rattle.std.specs.Prelude.{ℕ, Bool, true, false, cond, List}
use Rattle.std.specs.Prelude.{Option, None, Some}
use Rattle.word.specs.Bytes.{whole, elements, spelled}
use Rattle.code_reading.specs.ReadBackNumbers.{read_back_number, read_back_place}
use Rattle.code_reading.specs.Reading.{bad_line, ReadOutcome, read_into, read_code}
use Rattle.code_reading.specs.declared.answer.ReadBack.{ReadBack}
use Rattle.code_reading.specs.declared.answer.ReadBack.TheVariants.{BadLine, Limit}
use Rattle.read_lending.specs.declared.ReadAnswer.{ReadAnswer}

pub record ReadLeft : Type 0 where
  pub answer : ReadAnswer
  pub code : List ℕ

abbrev pub read_back_numbers : ReadBack → ReadAnswer
read_back_numbers answer = record { number = read_back_number answer; place = read_back_place answer }

-- an answer, with every byte as it was
abbrev pub bytes_kept : ReadBack → List ℕ → ReadLeft
bytes_kept answer code = record { answer = read_back_numbers answer; code = code }

-- an outcome in numbers and bytes
abbrev pub read_spelled : ReadOutcome → ReadLeft
read_spelled o = record { answer = read_back_numbers o.answer; code = spelled 4 o.code }

-- code that is not whole words is 1, before 9 and 8
abbrev pub bytes_read : Bool → Option ReadBack → List ℕ → List ℕ → ReadLeft
bytes_read false refused words code = bytes_kept Limit code
bytes_read true (Some answer) words code = bytes_kept answer code
bytes_read true None words code = read_spelled (read_into words (elements 4 code))

-- but after 15
abbrev pub not_whole : Option ℕ → ReadBack
not_whole (Some line) = BadLine line
not_whole None = Limit

-- reading back, lent bytes: as over words, and of a slice that is not whole words 15 or 1
unfoldable pub read_entry : List ℕ → List ℕ → List ℕ → ReadLeft
read_entry text kinds code =
    cond (whole 4 code) (read_spelled (read_code text kinds (elements 4 code))) (bytes_kept (not_whole (bad_line text)) code)
