-- Packed fields: a number as fields of given widths, the most significant first.
use Rattle.std.specs.Prelude.{ℕ, ◌+◌, ◌*◌, ◌/◌, ◌%◌, ◌^◌, List, [], ◌∷◌, get_or}

-- the bits of all fields
abbrev pub total : List ℕ → ℕ
total [] = 0
total (width ∷ widths) = width + total widths

-- a number taken apart into its fields
abbrev pub split : List ℕ → ℕ → List ℕ
split [] number = []
split (width ∷ widths) number = number / 2 ^ total widths % 2 ^ width ∷ split widths number

-- fields put together
abbrev pub join : List ℕ → List ℕ → ℕ
join [] values = 0
join (width ∷ widths) [] = 0
join (width ∷ widths) (value ∷ values) = value * 2 ^ total widths + join widths values

-- one field of many
abbrev pub at : ℕ → List ℕ → ℕ
at place values = get_or values place 0
