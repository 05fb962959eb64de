-- Chains of rows: each row is linked to the newest earlier one with the same mix of bits.
use Rattle.std.specs.Prelude.{ℕ, ◌+◌, ◌*◌, ◌/◌, ◌%◌, ◌<◌, ◌≤◌, ◌≡◌, List, get_or}
use Rattle.numbers.specs.Limits.{most_term_rows}
use Rattle.terms.specs.Row.{row_at}

-- what the two halves of a row, added, are multiplied by
abbrev pub mix : ℕ
mix = 1327217885

-- the chain of a row, one of as many as there may be rows
unfoldable pub chain_of : ℕ → ℕ
chain_of word = (word % 4294967296 + word / 4294967296) * mix / 1048576 % most_term_rows

-- the newest row of a chain before a place, where the chain has one there
abbrev pub Newest : List ℕ → ℕ → ℕ → ℕ → Type 0
Newest rows chain before newest =
    (row : ℕ) → row < before → chain_of (row_at rows row) ≡ chain → (row ≤ newest) × (newest < before) × (chain_of (row_at rows newest) ≡ chain)

-- the newest row of each chain before a place
abbrev pub Headed : List ℕ → List ℕ → ℕ → Type 0
Headed rows newest before = (chain : ℕ) → Newest rows chain before (get_or newest chain 0)

-- for each row before a place, the newest earlier one on its chain
abbrev pub Linked : List ℕ → List ℕ → ℕ → Type 0
Linked rows older before = (row : ℕ) → row < before → Newest rows (chain_of (row_at rows row)) row (get_or older row 0)
