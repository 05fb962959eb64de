-- The code's answers for a line, for all lines, and for what is looked at after them.
use Rattle.std.specs.Prelude.{ℕ, ◌≤◌, ◌≡◌, List, length}
use Rattle.std.specs.Prelude.{Option, None, Some, Result, Ok, Err}
use Rattle.text.specs.Readers.{TextFront}
use Rattle.text.specs.ReadAnswers.{number_in, read_end}
use Rattle.code_reading.specs.declared.answer.ReadBack.{ReadBack}
use Rattle.code_reading.specs.declared.lines.BadLine.{BadLine}

-- an answer for what is read from a place of a text, and a place behind it that is in the text
pub record ReadsWord (text : List ℕ) (read : Option (TextFront ℕ)) (answer : Option (ℕ × ℕ)) : Type 0 where
  pub says : number_in text answer ≡ read
  pub inside : read_end answer ≤ length text

abbrev pub lines_read : Option ℕ → ℕ → Result ℕ BadLine
lines_read None lines = Ok lines
lines_read (Some line) lines = Err (record { 0 = line })

abbrev pub looked_of : ℕ → Option ReadBack → Result ℕ ReadBack
looked_of lines None = Ok lines
looked_of lines (Some answer) = Err answer
