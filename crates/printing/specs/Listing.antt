-- The listing: what a bundle gives, as the bytes printed.
use Rattle.std.specs.Prelude.{ℕ, zero, suc, true, false, List, [], ◌∷◌, ◌++◌, take, eqb}
use Rattle.word.specs.Fields.{split}
use Rattle.text.specs.Lines.{line, word_line}
use Rattle.answers.specs.Numbers.{ran_number, ran_place, ran_reason}
use Rattle.answers.specs.declared.Ran.{Ran}
use Rattle.code.specs.Instruction.{word_widths}
use Rattle.terms.specs.Rules.{used_rows}
use Rattle.stores.specs.Cells.{is_set}
use Rattle.numbers.specs.Limits.{named_cells}
use Rattle.calls.specs.Run.{RunOutcome}
use Rattle.bundles.specs.Given.{Given, refused, ran, given_by}

-- the words that lines begin with, in ASCII
abbrev pub refused_word : List ℕ
refused_word = 114 ∷ 101 ∷ 102 ∷ 117 ∷ 115 ∷ 101 ∷ 100 ∷ []

abbrev pub end_word : List ℕ
end_word = 101 ∷ 110 ∷ 100 ∷ []

abbrev pub object_word : List ℕ
object_word = 111 ∷ []

abbrev pub message_word : List ℕ
message_word = 109 ∷ []

-- `refused NUMBER PLACE`
abbrev pub refused_line : ℕ → ℕ → List ℕ
refused_line number place = word_line refused_word (number ∷ place ∷ [])

-- a line per word: place, operation, A, B, n
unfoldable pub code_lines : ℕ → List ℕ → List ℕ
code_lines place [] = []
code_lines place (word ∷ rest) = line (place ∷ take 4 (split word_widths word)) ++ code_lines (suc place) rest

-- answer, place, reason, used rows, counter, accumulator
abbrev pub end_numbers : Ran → ℕ → ℕ → ℕ → List ℕ
end_numbers answer used counter accumulator =
    word_line end_word (ran_number answer ∷ ran_place answer ∷ ran_reason answer ∷ used ∷ counter ∷ accumulator ∷ [])

abbrev pub end_line : RunOutcome → List ℕ
end_line r = end_numbers r.answer (used_rows r.terms) r.counter r.accumulator

-- each set cell, numbers rising
unfoldable pub cell_lines : List ℕ → ℕ → List ℕ → List ℕ
cell_lines word n [] = []
cell_lines word n (cell ∷ rest) =
    elim (is_set cell) [ true ↦ word_line word (n ∷ cell ∷ []) ++ cell_lines word (suc n) rest | false ↦ cell_lines word (suc n) rest ]

-- the cells after answer 0; scratch never
abbrev pub set_lines : Ran → List ℕ → List ℕ → List ℕ
set_lines answer objects messages =
    elim (eqb (ran_number answer) 0) [ true ↦ cell_lines object_word 0 objects ++ cell_lines message_word 0 (take named_cells messages) | false ↦ [] ]

abbrev pub store_lines : RunOutcome → List ℕ
store_lines r = set_lines r.answer r.objects r.messages

abbrev pub ran_lines : List ℕ → RunOutcome → List ℕ
ran_lines code r = code_lines zero code ++ end_line r ++ store_lines r

-- what a bundle gives, as lines
abbrev pub given_lines : Given → List ℕ
given_lines (refused number place) = refused_line number place
given_lines (ran code r) = ran_lines code r

unfoldable pub listing : List ℕ → List ℕ
listing bytes = given_lines (given_by bytes)
