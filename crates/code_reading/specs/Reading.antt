-- Reading code lines back: 15 over all lines, then 1, 9 and 8. Any answer but 0 leaves the code slice.
use Rattle.std.specs.Prelude.{ℕ, zero, suc, ◌-◌, ◌^◌, Bool, true, false, cond, not, ◌&&◌, List, [], ◌∷◌, ◌++◌, map, length, take, drop, eqb, leb}
use Rattle.std.specs.Option.{option_map}
use Rattle.std.specs.Prelude.{Option, None, Some}
use Rattle.word.specs.Fields.{join}
use Rattle.word.specs.Lowest.{lowest}
use Rattle.numbers.specs.Kinds.{kind_in}
use Rattle.numbers.specs.Limits.{variables, most_code_words}
use Rattle.answers.specs.First.{when, first}
use Rattle.text.specs.Readers.{TextFront, front, read_line, text_lines}
use Rattle.code.specs.Instruction.{word_widths}
use Rattle.code.specs.Words.{bad_word}
use Rattle.code_reading.specs.declared.answer.ReadBack.{ReadBack}
use Rattle.code_reading.specs.declared.answer.ReadBack.TheVariants.{Done, BadLine, Limit, BadWord, CodeTooShort}

-- what the numbers of a code line are at most: its own number, then what fits operation, A, B and n
abbrev pub line_limits : ℕ → List ℕ
line_limits place = place ∷ map (λ width. 2 ^ width - 1) (take 4 word_widths)

-- the word of a line's numbers, if the first is the line's own; the low bits, which no line shows, are zero
abbrev pub numbered_word : ℕ → List ℕ → List ℕ → Option (TextFront ℕ)
numbered_word place [] rest = None
numbered_word place (number ∷ fields) rest = when (eqb number place) (front (join word_widths (fields ++ (0 ∷ []))) rest)

abbrev pub word_by : ℕ → Option (TextFront (List ℕ)) → Option (TextFront ℕ)
word_by place None = None
word_by place (Some read) = numbered_word place read.value read.rest

-- the word of the code line in front of a text
unfoldable pub read_word : ℕ → List ℕ → Option (TextFront ℕ)
read_word place text = word_by place (read_line (line_limits place) text)

-- with nothing behind it
abbrev pub alone : Option (TextFront ℕ) → Option ℕ
alone None = None
alone (Some read) = elim read.rest [ [] ↦ Some read.value | byte ∷ rest ↦ None ]

-- the word of a line, if it is a good line
unfoldable pub line_word : ℕ → List ℕ → Option ℕ
line_word place bytes = alone (read_word place bytes)

abbrev pub no_word : Option ℕ → Bool
no_word None = true
no_word (Some word) = false

-- 15: the lowest line that is malformed, misnumbered or has a number too large for its field
unfoldable pub bad_line : List ℕ → Option ℕ
bad_line text = lowest (λ place bytes. no_word (line_word place bytes)) (text_lines text)

-- the words of lines, up to one that is not good
abbrev pub add_word : Option ℕ → List ℕ → List ℕ
add_word None words = []
add_word (Some word) words = word ∷ words

unfoldable pub line_words : ℕ → List (List ℕ) → List ℕ
line_words place [] = []
line_words place (bytes ∷ rest) = add_word (line_word place bytes) (line_words (suc place) rest)

abbrev pub read_words : List ℕ → List ℕ
read_words text = line_words zero (text_lines text)

-- the answer, and the lent code slice afterwards
pub record ReadOutcome : Type 0 where
  pub answer : ReadBack
  pub code : List ℕ

abbrev pub read_leaves : ReadBack → List ℕ → ReadOutcome
read_leaves answer code = record { answer = answer; code = code }

-- 8 where the words do not fit; words behind the read ones stay
abbrev pub read_into : List ℕ → List ℕ → ReadOutcome
read_into words code =
    cond (leb (length words) (length code))
    (read_leaves (Done (length words)) (words ++ drop (length words) code))
    (read_leaves (CodeTooShort (length words)) code)

-- 1 and 9 of so many good lines and their words
abbrev pub word_refusals : ℕ → List ℕ → List ℕ → List (Option ReadBack)
word_refusals lines words kinds =
    when (not (leb lines most_code_words && eqb (length kinds) variables)) Limit
    ∷ option_map BadWord (bad_word (kind_in kinds) words)
    ∷ []

abbrev pub comes_to : Option ReadBack → List ℕ → List ℕ → ReadOutcome
comes_to (Some answer) words code = read_leaves answer code
comes_to None words code = read_into words code

module _ (text kinds : List ℕ) where
  -- 15, 1, 9
  abbrev pub read_refusals : List (Option ReadBack)
  read_refusals = option_map BadLine (bad_line text) ∷ word_refusals (length (text_lines text)) (read_words text) kinds

  unfoldable pub read_code : List ℕ → ReadOutcome
  read_code code = comes_to (first read_refusals) (read_words text) code
