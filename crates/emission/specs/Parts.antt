-- The parts of a tuple, each with the scratch number that holds it.
use Rattle.std.specs.Prelude.{ℕ, ◌+◌, ◌≤◌, ◌<◌, ◌≡◌, List, [], ◌∷◌, map, length, get_or, drop}
use Rattle.numbers.specs.Limits.{scratch_cells}
use Rattle.patterns.specs.Pattern.{Parts}
use Rattle.patterns.specs.Standing.{pattern_in, Stands}
use Rattle.patterns.specs.Tree.{parts_by}
use Rattle.theory.specs.Emission.{Env, Emitted}
use Rattle.emission.specs.declared.Part.{Part}
use Rattle.knowing.specs.Meets.{Does}
use Rattle.emission.specs.Budget.{words_of, scratches_of, RoomParts}
use Rattle.knowing.specs.declared.Emission.{Emission}

-- the four slots, with scratch numbers from the first on
abbrev pub parts_from : List ℕ → ℕ → List Part
parts_from children first =
    record { child = get_or children 0 0; scratch = first }
    ∷ record { child = get_or children 1 0; scratch = first + 1 }
    ∷ record { child = get_or children 2 0; scratch = first + 2 }
    ∷ record { child = get_or children 3 0; scratch = first + 3 }
    ∷ []

abbrev pub part_at : List Part → ℕ → Part
part_at parts k = get_or parts k (record { child = 0; scratch = 0 })

-- the patterns of the parts from the kth on
abbrev pub parts_in : List ℕ → List Part → ℕ → Parts
parts_in rows parts k = parts_by (pattern_in rows) (map (λ p. p.child) (drop k parts))

-- parts below their row, with scratch numbers that follow each other, and room for them
pub record PartsAt (rows : List ℕ) (row : ℕ) (parts : List Part) (e : Emission) : Type 0 where
  pub stands : Stands rows row
  pub below : (k : ℕ) → k < length parts → (part_at parts k).child < row
  pub laid : (k : ℕ) → k < length parts → (part_at parts k).scratch ≡ (part_at parts 0).scratch + k
  pub cells : (part_at parts 0).scratch + length parts ≤ scratch_cells
  pub room : RoomParts (parts_in rows parts 0) e

-- what is emitted for the parts, given for their patterns, the tuple's row and the first scratch number
abbrev pub DoesParts : (Parts → ℕ → ℕ → Env → Emitted) → List ℕ → ℕ → List Part → Emission → List ℕ → Emission → List ℕ → Type 0
DoesParts all rows row parts e code e' code' =
    let ps = parts_in rows parts 0 in
    Does (all ps row (part_at parts 0).scratch) (words_of ps) (scratches_of ps) e code e' code'
