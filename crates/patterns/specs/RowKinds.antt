-- The kinds that a row wants, by its own fields.
use Rattle.std.specs.Prelude.{ℕ, Bool, true, ◌&&◌, [], ◌∷◌, get_or, eqb, leb}
use Rattle.numbers.specs.Kinds.{byte_kind, agent_kind, public_key, private_key, encryption_kind, signature_kind, hash_kind, tuple_kind}
use Rattle.patterns.specs.Row.{PatternFields}
use Rattle.patterns.specs.Tree.{key_by}
use Rattle.patterns.specs.Kinds.{encryption_key, signature_key}

-- the kinds of V, Y and the key, by a tag
unfoldable pub kinds_by : Bool → (ℕ → ℕ) → PatternFields → ℕ → Bool
kinds_by create kind row tag =
    get_or
    ((leb byte_kind (kind row.v) && leb (kind row.v) hash_kind)
    ∷ true
    ∷ eqb (kind row.v) byte_kind
    ∷ (eqb (kind row.v) public_key && eqb (kind row.y) private_key)
    ∷ (eqb (kind row.v) public_key && eqb (kind row.y) agent_kind)
    ∷ (eqb (kind row.v) encryption_kind && encryption_key create kind (key_by row))
    ∷ (eqb (kind row.v) signature_kind && signature_key create kind (key_by row))
    ∷ eqb (kind row.v) hash_kind
    ∷ eqb (kind row.v) tuple_kind
    ∷ true
    ∷ [])
    tag (leb byte_kind (kind row.v) && leb (kind row.v) hash_kind)

abbrev pub row_kinds : Bool → (ℕ → ℕ) → PatternFields → Bool
row_kinds create kind row = kinds_by create kind row row.tag
