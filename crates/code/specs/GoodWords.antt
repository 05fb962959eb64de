-- Refusal 9 in the words of document 01.
use Rattle.std.specs.Prelude.{ℕ, ◌≡◌, List, T, length, get_or}
use Rattle.std.specs.Prelude.{Some}
use Rattle.word.specs.Lowest.{LowestBad, AllGood}
use Rattle.code.specs.Instruction.{word_of, instruction_of}
use Rattle.code.specs.Words.{operands_fit}
use Rattle.code.specs.declared.Instruction.{Instruction}

-- a good word: it says an instruction, its unused fields are zero, and its operands are what figure 4 wants
pub record GoodWord (kind : ℕ → ℕ) (word : ℕ) : Type 0 where
  pub instruction : Instruction
  pub says : instruction_of word ≡ Some instruction
  pub own : word_of instruction ≡ word
  pub operands : T (operands_fit kind instruction)

-- 9: this word is bad and all before it are good
abbrev pub LowestBadWord : (ℕ → ℕ) → List ℕ → ℕ → Type 0
LowestBadWord kind code place = LowestBad (λ place. GoodWord kind (get_or code place 0)) (length code) place

-- not 9
abbrev pub AllGoodWords : (ℕ → ℕ) → List ℕ → Type 0
AllGoodWords kind code = AllGood (λ place. GoodWord kind (get_or code place 0)) (length code)
