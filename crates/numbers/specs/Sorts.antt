-- Numbers of three sorts that are never taken for each other.
use Rattle.std.specs.Prelude.{ℕ}
use Rattle.numbers.specs.declared.Object.{Object}
use Rattle.numbers.specs.declared.Raw.{Raw}
use Rattle.numbers.specs.declared.TermRow.{TermRow}

abbrev pub as_object : ℕ → Object
as_object n = record { 0 = n }

abbrev pub as_raw : ℕ → Raw
as_raw n = record { 0 = n }

abbrev pub as_term_row : ℕ → TermRow
as_term_row n = record { 0 = n }
