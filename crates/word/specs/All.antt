-- A property of each element of a list.
use Rattle.std.specs.Prelude.{List, [], ◌∷◌}

abbrev pub All : {A : Type 0} → (A → Type 0) → List A → Type 0
All P [] = Unit {0}
All P (a ∷ rest) = P a × All P rest
