-- The code's answer for an agent.
use Rattle.std.specs.Prelude.{ℕ}
use Rattle.std.specs.Prelude.{Option, None, Some}
use Rattle.numbers.specs.Sorts.{as_term_row}
use Rattle.numbers.specs.declared.TermRow.{TermRow}

abbrev pub certificate_of : Option ℕ → Option TermRow
certificate_of (Some row) = Some (as_term_row row)
certificate_of None = None
