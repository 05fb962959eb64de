-- Good code words: refusal 9.
use Rattle.std.specs.Prelude.{ℕ, ◌+◌, Bool, true, false, not, ◌&&◌, List, [], ◌∷◌, eqb, leb, ltb}
use Rattle.std.specs.Prelude.{Option, None, Some}
use Rattle.word.specs.Lowest.{lowest, one_of}
use Rattle.code.specs.Instruction.{word_of, instruction_of}
use Rattle.numbers.specs.declared.Object.{Object}
use Rattle.numbers.specs.declared.Raw.{Raw}
use Rattle.code.specs.declared.Instruction.{Instruction}
use Rattle.code.specs.declared.Instruction.TheVariants.{Load, Store, StoreConst, Decode, Encode, Create, AnalyzeTuple, CreateTuple, Opposite, KeyOf, Match, Encrypt, Decrypt, Sign, Verify, Hash}

-- an object number is at most 63 and its variable has one of the kinds
abbrev pub has_kind : (ℕ → ℕ) → Object → List ℕ → Bool
has_kind kind v kinds = ltb v.0 64 && one_of kinds (kind v.0)

-- n consecutive message cells
abbrev pub cells_fit : Raw → ℕ → Bool
cells_fit first n = leb n 4 && leb (first.0 + n) 256

-- the kinds that figure 4 wants, and cells that are there
abbrev pub operands_fit : (ℕ → ℕ) → Instruction → Bool
operands_fit kind (Load r) = true
operands_fit kind (Store r) = true
operands_fit kind (StoreConst c b) = has_kind kind c (1 ∷ [])
operands_fit kind (Decode v) = has_kind kind v (1 ∷ 2 ∷ 3 ∷ 4 ∷ 5 ∷ 6 ∷ 7 ∷ 8 ∷ 9 ∷ 10 ∷ [])
operands_fit kind (Encode v) = has_kind kind v (1 ∷ 2 ∷ 3 ∷ 4 ∷ 5 ∷ 6 ∷ 7 ∷ 8 ∷ 9 ∷ 10 ∷ [])
operands_fit kind (Create v) = has_kind kind v (2 ∷ 5 ∷ 6 ∷ [])
operands_fit kind (AnalyzeTuple t b n) = has_kind kind t (10 ∷ []) && cells_fit b n
operands_fit kind (CreateTuple t b n) = has_kind kind t (10 ∷ []) && cells_fit b n
operands_fit kind (Opposite K k) = has_kind kind K (5 ∷ []) && has_kind kind k (4 ∷ [])
operands_fit kind KeyOf = true
operands_fit kind (Match r) = true
operands_fit kind (Encrypt v) = has_kind kind v (4 ∷ 6 ∷ [])
operands_fit kind (Decrypt v) = has_kind kind v (5 ∷ 6 ∷ [])
operands_fit kind (Sign v) = has_kind kind v (5 ∷ 6 ∷ [])
operands_fit kind (Verify v r) = has_kind kind v (4 ∷ 6 ∷ [])
operands_fit kind (Hash h) = has_kind kind h (9 ∷ [])

-- its unused fields are zero where the word is the instruction's own
abbrev pub word_fits : (ℕ → ℕ) → ℕ → Option Instruction → Bool
word_fits kind word (Some instruction) = eqb (word_of instruction) word && operands_fit kind instruction
word_fits kind word None = false

unfoldable pub good_word : (ℕ → ℕ) → ℕ → Bool
good_word kind word = word_fits kind word (instruction_of word)

-- 9: the lowest bad word
unfoldable pub bad_word : (ℕ → ℕ) → List ℕ → Option ℕ
bad_word kind code = lowest (λ place word. not (good_word kind word)) code
