-- A table of which the front alone is looked at: behind it every row is zero.
use Rattle.std.specs.Prelude.{ℕ, ◌<◌, ◌≤◌, ◌≡◌, ◌⊎◌, List, length}
use Rattle.numbers.specs.Limits.{most_term_rows}
use Rattle.terms.specs.Row.{row_at}

-- every row from a place on is zero
abbrev pub ZeroFrom : ℕ → List ℕ → Type 0
ZeroFrom from rows = (row : ℕ) → from ≤ row → row_at rows row ≡ 0

-- so many first rows stand for the table; one with too many rows is looked at whole
pub record Front (rows : List ℕ) (front : ℕ) : Type 0 where
  pub inside : front ≤ length rows
  pub zeros : ZeroFrom front rows
  pub few : front < length rows → length rows ≤ most_term_rows

-- two tables of one length, whose rows differ at most from one place up to another
pub record SameBut (before after : List ℕ) (from to : ℕ) : Type 0 where
  pub long : length after ≡ length before
  pub others : (row : ℕ) → (row < from) ⊎ (to ≤ row) → row_at after row ≡ row_at before row
