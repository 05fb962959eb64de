-- A row of a pattern where a walk stands: it is good, as the rows below it are.
use Rattle.std.specs.Prelude.{ℕ, ◌≤◌, ◌<◌, ◌≡◌, List, length, get_or, T}
use Rattle.numbers.specs.Limits.{most_pattern_rows}
use Rattle.patterns.specs.Forms.{encryption_form, tuple_form, let_form}
use Rattle.patterns.specs.Pattern.{Pattern}
use Rattle.patterns.specs.Row.{pattern_fields}
use Rattle.patterns.specs.Rules.{row_fits}
use Rattle.patterns.specs.Tree.{pattern_at, patterns_of}

abbrev pub pattern_in : List ℕ → ℕ → Pattern
pattern_in rows row = pattern_at (patterns_of rows) row

pub record Stands (rows : List ℕ) (row : ℕ) : Type 0 where
  pub good : (place : ℕ) → place ≤ row → T (row_fits place (pattern_fields (get_or rows place 0)))
  pub inside : row < length rows
  pub most : row < most_pattern_rows

-- the same, with the row's word
pub record StandsAt (rows : List ℕ) (row word : ℕ) : Type 0 where
  pub here : word ≡ get_or rows row 0
  pub stands : Stands rows row

-- no form with children
pub record Leaf (tag : ℕ) : Type 0 where
  pub encryption : tag ≡ encryption_form → ⊥
  pub tuple : tag ≡ tuple_form → ⊥
  pub let_in : tag ≡ let_form → ⊥
