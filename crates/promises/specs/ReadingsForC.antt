-- What firmware calls to read a listing back: the entry over bytes, fields high byte first. Code words are four bytes.
use Rattle.std.specs.Prelude.{ℕ, ◌≡◌, ◌↔◌, ◌≢◌, List}
use Rattle.word.specs.Bytes.{elements, spelled}
use Rattle.code_reading.specs.Reading.{read_code}
use Rattle.code_reading.specs.GoodLines.{LowestBadLine, AllGoodLines}
use Rattle.read_lending.specs.ReadEntry.{read_entry}
use Rattle.promises.specs.ForC.{Bytes, Whole}
use Rattle.promises.specs.Readings.{ReadsAs}

module _ (text kinds code : List ℕ) where
  abbrev pub ReadComes : ℕ → ℕ → Type 0
  ReadComes number place = ((read_entry text kinds code).answer.number ≡ number) × ((read_entry text kinds code).answer.place ≡ place)

  pub record ReadingsForC : Type 0 where
    -- whole words: the answer of the words that the bytes spell
    pub of_words : Whole 4 code → (number place : ℕ) → ReadComes number place ↔ ReadsAs (read_code text kinds (elements 4 code)) number place
    -- other bytes: 15 where a line is not good, and else 1
    pub bad_line_lem : (Whole 4 code → ⊥) → (line : ℕ) → ReadComes 15 line ↔ LowestBadLine text line
    pub not_words : (Whole 4 code → ⊥) → ReadComes 1 0 ↔ AllGoodLines text
    pub no_other : (Whole 4 code → ⊥) → (read_entry text kinds code).answer.number ≢ 0
    -- the bytes of what is read; with any answer but 0 every byte is as it was
    pub read : Whole 4 code → (read_entry text kinds code).code ≡ spelled 4 (read_code text kinds (elements 4 code)).code
    pub left : Bytes code → (read_entry text kinds code).answer.number ≢ 0 → (read_entry text kinds code).code ≡ code
