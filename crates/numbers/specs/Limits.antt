-- The limits of document 01.
use Rattle.std.specs.Prelude.{ℕ, ◌+◌}

-- kinds, object cells and named message cells
abbrev pub variables : ℕ
variables = 64

-- message cells 0..63 are named, 64..255 scratch
abbrev pub named_cells : ℕ
named_cells = 64

abbrev pub scratch_cells : ℕ
scratch_cells = 192

abbrev pub message_cells : ℕ
message_cells = named_cells + scratch_cells

abbrev pub most_pattern_rows : ℕ
most_pattern_rows = 96

abbrev pub most_code_words : ℕ
most_code_words = 768

abbrev pub most_term_rows : ℕ
most_term_rows = 4096

abbrev pub most_certificates : ℕ
most_certificates = 32

-- the parts of a tuple
abbrev pub most_parts : ℕ
most_parts = 4

-- the name counter is 0..65,536
abbrev pub most_names : ℕ
most_names = 65536

-- the rounds of a role
abbrev pub most_rounds : ℕ
most_rounds = 16

-- INPUT, two halves and OUTPUT
abbrev pub most_round_words : ℕ
most_round_words = 2 + most_code_words + most_code_words
