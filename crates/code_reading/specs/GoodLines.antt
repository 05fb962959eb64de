-- Refusal 15 in words: which line is good, and which is the lowest that is not.
use Rattle.std.specs.Prelude.{ℕ, ◌≤◌, ◌≡◌, List, [], ◌∷◌, length, get_or}
use Rattle.word.specs.Fields.{join}
use Rattle.word.specs.Lowest.{LowestBad, AllGood}
use Rattle.text.specs.Lines.{line}
use Rattle.text.specs.Readers.{text_lines}
use Rattle.code.specs.Instruction.{word_widths}

-- operation, A, B and n that fit their fields
pub record CodeFields : Type 0 where
  pub operation : ℕ
  pub a : ℕ
  pub b : ℕ
  pub n : ℕ
  pub operation_fits : operation ≤ 31
  pub a_fits : a ≤ 255
  pub b_fits : b ≤ 255
  pub n_fits : n ≤ 7

-- what the listing prints of such fields, and their word
abbrev pub fields_line : ℕ → CodeFields → List ℕ
fields_line place f = line (place ∷ f.operation ∷ f.a ∷ f.b ∷ f.n ∷ [])

abbrev pub fields_word : CodeFields → ℕ
fields_word f = join word_widths (f.operation ∷ f.a ∷ f.b ∷ f.n ∷ 0 ∷ [])

-- a good line is a code line of its own number, with its line feed
pub record GoodLine (place : ℕ) (bytes : List ℕ) : Type 0 where
  pub fields : CodeFields
  pub printed : bytes ≡ fields_line place fields

-- 15: this line is not good, and all before it are
abbrev pub LowestBadLine : List ℕ → ℕ → Type 0
LowestBadLine text place = LowestBad (λ place. GoodLine place (get_or (text_lines text) place [])) (length (text_lines text)) place

-- not 15
abbrev pub AllGoodLines : List ℕ → Type 0
AllGoodLines text = AllGood (λ place. GoodLine place (get_or (text_lines text) place [])) (length (text_lines text))
