-- What the program `reading` prints: the code lines that are read back, or why they are refused.
use Rattle.std.specs.Prelude.{ℕ, ◌+◌, Bool, true, false, cond, ◌&&◌, List, length, take, drop, replicate, eqb, leb}
use Rattle.std.specs.Prelude.{Option, None, Some}
use Rattle.word.specs.Bytes.{number}
use Rattle.numbers.specs.Limits.{most_code_words}
use Rattle.code_reading.specs.ReadBackNumbers.{read_back_number, read_back_place}
use Rattle.code_reading.specs.Reading.{ReadOutcome, read_code}
use Rattle.bundles.specs.Bundle.{Bundle, read_bundle}
use Rattle.printing.specs.Listing.{refused_line, code_lines}

-- one byte less than fills the program's buffer
abbrev pub most_input : ℕ
most_input = 65535

-- eight bytes tell the bundle's length; the bundle and the code lines follow
abbrev pub bundle_size : List ℕ → ℕ
bundle_size input = number (take 8 input)

abbrev pub bundle_part : List ℕ → List ℕ
bundle_part input = take (bundle_size input) (drop 8 input)

abbrev pub lines_part : List ℕ → List ℕ
lines_part input = drop (8 + bundle_size input) input

-- nothing is cut, and the bundle is there to its end
abbrev pub whole_input : List ℕ → Bool
whole_input input = leb (length input) most_input && leb (8 + bundle_size input) (length input)

-- the words that were read, as lines, or a refusal's number and place
abbrev pub outcome_lines : ReadOutcome → List ℕ
outcome_lines o =
    elim (eqb (read_back_number o.answer) 0) [
      | true ↦ code_lines 0 (take (read_back_place o.answer) o.code)
      | false ↦ refused_line (read_back_number o.answer) (read_back_place o.answer)
    ]

-- read into room for 768 words
unfoldable pub code_again : List ℕ → List ℕ → List ℕ
code_again text kinds = outcome_lines (read_code text kinds (replicate most_code_words 0))

-- no bundle is refused as 1; a bundle gives its kinds
abbrev pub reread_by : Option Bundle → List ℕ → List ℕ
reread_by None text = refused_line 1 0
reread_by (Some b) text = code_again text b.kinds

unfoldable pub reread : List ℕ → List ℕ
reread input = cond (whole_input input) (reread_by (read_bundle (bundle_part input)) (lines_part input)) (refused_line 1 0)
