-- Which rows are children already: a mark a row.
use Rattle.std.specs.Prelude.{ℕ, ◌<◌, ◌≡◌, Bool, true, false, ◌||◌, List, [], ◌∷◌, length, get_or, set}
use Rattle.word.specs.Lowest.{one_of}

-- the marks, and whether a child was taken again
pub record Taken : Type 0 where
  pub marks : List Bool
  pub again : Bool

abbrev pub taking : List Bool → Bool → Taken
taking marks again = record { marks = marks; again = again }

-- a child is taken, perhaps again
abbrev pub take_one : Taken → ℕ → Taken
take_one taken child = taking (set taken.marks child true) (taken.again || get_or taken.marks child false)

unfoldable pub take_every : Taken → List ℕ → Taken
take_every taken [] = taken
take_every taken (child ∷ rest) = take_every (take_one taken child) rest

-- the marks are those of some children, all below 128
pub record Marked (marks : List Bool) (children : List ℕ) : Type 0 where
  pub long : length marks ≡ 128
  pub each : (row : ℕ) → row < 128 → get_or marks row false ≡ one_of children row
