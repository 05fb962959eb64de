-- A bundle's bytes, opened: the header as the code holds it.
use Rattle.std.specs.Prelude.{ℕ, ◌+◌, List, eqb}
use Rattle.std.specs.Prelude.{Option, None, Some}
use Rattle.bundles.specs.Bundle.{Bundle, read_bundle}
pub use Rattle.bundles.specs.Bundle.{header_in, bundle_in}
use Rattle.bundles.specs.Bundle as theory
use Rattle.bundles.specs.declared.Header.{Header}

-- a header as the code holds it
abbrev pub held_header : theory.Header → Header
held_header h = record {
  create = eqb h.create 1;
  pattern_rows = h.pattern_rows;
  certificates = h.certificates;
  accumulator = h.accumulator;
  term_rows = h.term_rows;
  counter = h.counter;
}

-- the word at which the kinds begin
abbrev pub kinds_at : Header → ℕ
kinds_at header = 1 + header.pattern_rows + header.term_rows

abbrev pub opened_by : Option Bundle → theory.Header → Option Header
opened_by None h = None
opened_by (Some b) h = Some (held_header h)

-- none exactly where no bundle is read
unfoldable pub opened : List ℕ → Option Header
opened bytes = opened_by (read_bundle bytes) (header_in bytes)
