-- The number and the place of each answer; the reason is always 0.
use Rattle.std.specs.Prelude.{ℕ}
use Rattle.code_reading.specs.declared.answer.ReadBack.{ReadBack}
use Rattle.code_reading.specs.declared.answer.ReadBack.TheVariants.{Done, BadLine, Limit, BadWord, CodeTooShort}

abbrev pub read_back_number : ReadBack → ℕ
read_back_number (Done words) = 0
read_back_number (BadLine line) = 15
read_back_number Limit = 1
read_back_number (BadWord word) = 9
read_back_number (CodeTooShort words) = 8

abbrev pub read_back_place : ReadBack → ℕ
read_back_place (Done words) = words
read_back_place (BadLine line) = line
read_back_place Limit = 0
read_back_place (BadWord word) = word
read_back_place (CodeTooShort words) = words
