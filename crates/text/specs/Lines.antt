-- Decimal numbers without leading zeros, one space between, a line feed after each line.
use Rattle.std.specs.Prelude.{ℕ, zero, suc, ◌+◌, ◌/◌, ◌%◌, true, false, List, [], ◌∷◌, ◌++◌, ltb}

abbrev pub space : ℕ
space = 32

abbrev pub line_feed : ℕ
line_feed = 10

abbrev pub digit : ℕ → ℕ
digit n = 48 + n

-- a number of at most so many digits
unfoldable pub digits : ℕ → ℕ → List ℕ
digits zero n = []
digits (suc most) n = elim (ltb n 10) [ true ↦ digit n ∷ [] | false ↦ digits most (n / 10) ++ (digit (n % 10) ∷ []) ]

-- 64 bits are at most 20 digits
unfoldable pub decimal : ℕ → List ℕ
decimal n = digits 20 n

-- numbers, one space between
unfoldable pub spaced : List ℕ → List ℕ
spaced [] = []
spaced (n ∷ []) = decimal n
spaced (n ∷ m ∷ rest) = decimal n ++ (space ∷ spaced (m ∷ rest))

-- what stands before the number at a place: a space, but for the first
unfoldable pub gap : ℕ → List ℕ
gap zero = []
gap (suc place) = space ∷ []

-- a line of numbers, and one that begins with a word
unfoldable pub line : List ℕ → List ℕ
line numbers = spaced numbers ++ (line_feed ∷ [])

unfoldable pub word_line : List ℕ → List ℕ → List ℕ
word_line word numbers = word ++ (space ∷ line numbers)
