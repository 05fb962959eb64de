-- From rows to the pattern: row after row, each over the patterns of the rows before it.
use Rattle.std.specs.Prelude.{ℕ, zero, suc, ◌-◌, List, [], ◌∷◌, ◌++◌, length, get_or}
use Rattle.patterns.specs.Pattern.{Key, plain_key, op_key, certified_key, Pattern, object, raw, constant, opposite, key_of, encryption, signature, hash, tuple, let_in, Parts, end, part}
use Rattle.patterns.specs.Row.{PatternFields, pattern_fields, children}

abbrev pub key_by : PatternFields → Key
key_by row = get_or (plain_key row.x ∷ op_key row.x row.y ∷ certified_key row.x row.y ∷ []) row.f (plain_key row.x)

abbrev pub parts_by : (ℕ → Pattern) → List ℕ → Parts
parts_by below [] = end
parts_by below (child ∷ rest) = part (below child) (parts_by below rest)

-- the forms of a row, by tag
abbrev pub forms_by : (ℕ → Pattern) → ℕ → PatternFields → List Pattern
forms_by below place row =
    object place row.v
    ∷ raw place row.r
    ∷ constant place row.v row.x
    ∷ opposite place row.v row.y
    ∷ key_of place row.v row.y
    ∷ encryption place row.v (key_by row) (below (get_or row.slots 0 0))
    ∷ signature place row.v (key_by row) row.r
    ∷ hash place row.v row.r
    ∷ tuple place row.v (parts_by below (children row))
    ∷ let_in place row.r (below (get_or row.slots 0 0)) (below (get_or row.slots 1 0))
    ∷ []

abbrev pub form_by : (ℕ → Pattern) → ℕ → PatternFields → Pattern
form_by below place row = get_or (forms_by below place row) row.tag (object place row.v)

-- a row that is not there
abbrev pub no_pattern : Pattern
no_pattern = object 0 0

abbrev pub pattern_at : List Pattern → ℕ → Pattern
pattern_at built row = get_or built row no_pattern

-- the patterns of all rows, after those already built
unfoldable pub patterns_from : List Pattern → ℕ → List ℕ → List Pattern
patterns_from built place [] = built
patterns_from built place (word ∷ rest) =
    patterns_from (built ++ (form_by (pattern_at built) place (pattern_fields word) ∷ [])) (suc place) rest

unfoldable pub patterns_of : List ℕ → List Pattern
patterns_of rows = patterns_from [] zero rows

-- the last row is the root
unfoldable pub pattern_of : List ℕ → Pattern
pattern_of rows = pattern_at (patterns_of rows) (length rows - 1)
