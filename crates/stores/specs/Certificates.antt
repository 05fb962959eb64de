-- Certificates: agent row 12, public key row 12, zero 40. At most 32, no agent twice.
use Rattle.std.specs.Prelude.{ℕ, Bool, true, false, not, ◌&&◌, List, [], ◌∷◌, eqb, ltb}
use Rattle.std.specs.Prelude.{Option, None, Some}
use Rattle.numbers.specs.Kinds.{agent_kind, public_key}
use Rattle.word.specs.Fields.{split, at}
use Rattle.word.specs.Lowest.{each}
use Rattle.terms.specs.Row.{tag_of, row_at}

abbrev pub certificate_widths : List ℕ
certificate_widths = 12 ∷ 12 ∷ 40 ∷ []

unfoldable pub agent_of : ℕ → ℕ
agent_of word = at 0 (split certificate_widths word)

unfoldable pub key_of : ℕ → ℕ
key_of word = at 1 (split certificate_widths word)

unfoldable pub spare_of : ℕ → ℕ
spare_of word = at 2 (split certificate_widths word)

-- the public key row of an agent row
unfoldable pub certified : List ℕ → ℕ → Option ℕ
certified [] agent = None
certified (word ∷ rest) agent = elim (eqb (agent_of word) agent) [ true ↦ Some (key_of word) | false ↦ certified rest agent ]

-- a pair of an agent row and a public key row, both used
unfoldable pub pair_fits : List ℕ → ℕ → ℕ → Bool
pair_fits rows used word =
    eqb (spare_of word) 0 && ltb (agent_of word) used && eqb (tag_of (row_at rows (agent_of word))) agent_kind && ltb (key_of word) used
    && eqb (tag_of (row_at rows (key_of word))) public_key

-- no agent twice
unfoldable pub agents_once : List ℕ → Bool
agents_once [] = true
agents_once (word ∷ rest) = each (λ other. not (eqb (agent_of other) (agent_of word))) rest && agents_once rest
