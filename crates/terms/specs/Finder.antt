-- A new term takes the row that equals it, or else the first unused row.
use Rattle.std.specs.Prelude.{ℕ, zero, suc, ◌+◌, true, false, cond, List, length, set, eqb, ltb}
use Rattle.std.specs.Prelude.{Option, None, Some}
use Rattle.numbers.specs.Sorts.{as_term_row}
use Rattle.terms.specs.Row.{row_at}
use Rattle.numbers.specs.declared.TermRow.{TermRow}

-- the term's row and the number of used rows then, or that there is no room
abbrev pub Found : Type 0
Found = Option (TermRow × ℕ)

-- the finder's answer, and the rows after it
pub record Located : Type 0 where
  pub found : Found
  pub rows : List ℕ

abbrev pub located : Found → List ℕ → Located
located found rows = record { found = found; rows = rows }

-- the row that equals a term, among the used ones: the search goes from the newest down to row 0
unfoldable pub equal_row : List ℕ → ℕ → ℕ → Option ℕ
equal_row rows zero word = None
equal_row rows (suc row) word = elim (eqb (row_at rows row) word) [ true ↦ Some row | false ↦ equal_row rows row word ]

abbrev pub locate_by : List ℕ → ℕ → ℕ → Option ℕ → Located
locate_by rows used word (Some row) = located (Some (as_term_row row, used)) rows
locate_by rows used word None = cond (ltb used (length rows)) (located (Some (as_term_row used, (used + 1))) (set rows used word)) (located None rows)

unfoldable pub locate : List ℕ → ℕ → ℕ → Located
locate rows used word = locate_by rows used word (equal_row rows used word)
