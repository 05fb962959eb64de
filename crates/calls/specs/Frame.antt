-- A round's code: INPUT, the matching code, the creating code, OUTPUT. INPUT and OUTPUT are a frame around code and no instructions.
use Rattle.std.specs.Prelude.{ℕ, suc, ◌-◌, ◌^◌, Bool, cond, not, List, [], ◌∷◌, ◌++◌, length, take, drop, eqb}
use Rattle.std.specs.Prelude.{Option}
use Rattle.word.specs.Lowest.{lowest}
use Rattle.code.specs.Words.{good_word}

-- operations 0 and 1, with every other field zero
abbrev pub input_word : ℕ
input_word = 0

abbrev pub output_word : ℕ
output_word = 2 ^ 27

abbrev pub framed : List ℕ → List ℕ
framed code = input_word ∷ code ++ (output_word ∷ [])

-- what stands between the first and the last word
unfoldable pub middle : List ℕ → List ℕ
middle code = take (length code - 2) (drop 1 code)

-- the first word is INPUT, the last OUTPUT, and each between them is good for run
unfoldable pub good_round_word : (ℕ → ℕ) → ℕ → ℕ → ℕ → Bool
good_round_word kind words place word =
    cond (eqb place 0) (eqb word input_word) (cond (eqb (suc place) words) (eqb word output_word) (good_word kind word))

-- 9: the lowest bad word of a round
unfoldable pub bad_round_word : (ℕ → ℕ) → List ℕ → Option ℕ
bad_round_word kind code = lowest (λ place word. not (good_round_word kind (length code) place word)) code
