-- How far a table goes before a row repeats an earlier one.
use Rattle.std.specs.Prelude.{ℕ, List, take}
use Rattle.std.specs.Prelude.{None, Some}
use Rattle.word.specs.Lowest.{lowest}
use Rattle.terms.specs.Rules.{earlier_equal}

-- the rows before the first of the used ones that equals an earlier row, or else all of them
unfoldable pub distinct_rows : List ℕ → ℕ → ℕ
distinct_rows rows used = elim (lowest (earlier_equal rows) (take used rows)) [ Some row ↦ row | None ↦ used ]
