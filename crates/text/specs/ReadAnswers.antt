-- The code's answers for what stands in front of a text: the values, and the place behind them.
use Rattle.std.specs.Prelude.{ℕ, ◌≤◌, ◌≡◌, List, [], ◌∷◌, length, drop}
use Rattle.std.specs.Prelude.{Option, None, Some}
use Rattle.text.specs.Readers.{TextFront, front}
use Rattle.text.specs.declared.reading.Numbers.{Numbers}

abbrev pub number_in : List ℕ → Option (ℕ × ℕ) → Option (TextFront ℕ)
number_in text (Some read) = Some (front read.0 (drop read.1 text))
number_in text None = None

abbrev pub numbers_of : Numbers → List ℕ
numbers_of numbers = numbers.0 ∷ numbers.1 ∷ numbers.2 ∷ numbers.3 ∷ numbers.4 ∷ []

abbrev pub line_in : List ℕ → Option (Numbers × ℕ) → Option (TextFront (List ℕ))
line_in text (Some read) = Some (front (numbers_of read.0) (drop read.1 text))
line_in text None = None

-- the place behind what was read
abbrev pub read_end : {A : Type 0} → Option (A × ℕ) → ℕ
read_end (Some read) = read.1
read_end None = 0

-- an answer for what is read from a place of a text, and a place behind it that is in the text
pub record ReadsNumber (text : List ℕ) (read : Option (TextFront ℕ)) (answer : Option (ℕ × ℕ)) : Type 0 where
  pub says : number_in text answer ≡ read
  pub inside : read_end answer ≤ length text

pub record ReadsLine (text : List ℕ) (read : Option (TextFront (List ℕ))) (answer : Option (Numbers × ℕ)) : Type 0 where
  pub says : line_in text answer ≡ read
  pub inside : read_end answer ≤ length text
