-- The rules of a term table: refusal 2.
use Rattle.std.specs.Prelude.{Result, Ok, Err}
use Rattle.std.specs.Prelude.{ℕ, zero, suc, Bool, true, false, cond, not, ◌&&◌, List, [], ◌∷◌, take, drop, eqb, leb, ltb}
use Rattle.std.specs.Prelude.{Option, None, Some}
use Rattle.numbers.specs.Kinds.{byte_kind, agent_kind, public_key, private_key, shared_key, tuple_kind}
use Rattle.word.specs.Lowest.{lowest_from, lowest, each, one_of}
use Rattle.terms.specs.Shape.{Shape, atom, encrypted, signed, hashed, tupled, parts_of}
use Rattle.terms.specs.Row.{row_of, tag_of, shape_of, row_at}

-- the used rows are those before the first zero row
unfoldable pub used_rows : List ℕ → ℕ
used_rows [] = zero
used_rows (word ∷ rows) = elim (eqb word 0) [ true ↦ zero | false ↦ suc (used_rows rows) ]

unfoldable pub known_tag : ℕ → Bool
known_tag word = leb byte_kind (tag_of word) && leb (tag_of word) tuple_kind

-- a row is the word of its shape
unfoldable pub is_packed : ℕ → Bool
is_packed word = eqb (row_of (shape_of word)) word

-- a byte is at most 255; nonces and keys are below the name counter; agents are any
unfoldable pub number_fits : ℕ → Shape ℕ → Bool
number_fits counter (atom tag number) = cond (eqb tag byte_kind) (ltb number 256) (cond (eqb tag agent_kind) true (ltb number counter))
number_fits counter (encrypted key body) = true
number_fits counter (signed key body) = true
number_fits counter (hashed body) = true
number_fits counter (tupled parts) = true

-- parts have smaller row numbers than their owner
unfoldable pub parts_below : ℕ → Shape ℕ → Bool
parts_below row shape = each (λ part. ltb part row) (parts_of shape)

-- what encrypts is a public or a shared key, what signs a private or a shared one
unfoldable pub key_kind_fits : List ℕ → Shape ℕ → Bool
key_kind_fits rows (atom tag number) = true
key_kind_fits rows (encrypted key body) = one_of (public_key ∷ shared_key ∷ []) (tag_of (row_at rows key))
key_kind_fits rows (signed key body) = one_of (private_key ∷ shared_key ∷ []) (tag_of (row_at rows key))
key_kind_fits rows (hashed body) = true
key_kind_fits rows (tupled parts) = true

-- of two equal rows the later is the bad one
unfoldable pub earlier_equal : List ℕ → ℕ → ℕ → Bool
earlier_equal rows row word = one_of (take row rows) word

-- the rules of a used row's shape
abbrev pub shape_fits : List ℕ → ℕ → ℕ → ℕ → Bool
shape_fits rows counter row word =
    known_tag word && is_packed word && number_fits counter (shape_of word) && parts_below row (shape_of word) && key_kind_fits rows (shape_of word)

-- the rules of a used row
abbrev pub fits : List ℕ → ℕ → ℕ → ℕ → Bool
fits rows counter row word = shape_fits rows counter row word && not (earlier_equal rows row word)

-- a nonzero row after the first zero row is bad
unfoldable pub bad_term_row : List ℕ → ℕ → ℕ → ℕ → Bool
bad_term_row rows counter row word = cond (ltb row (used_rows rows)) (not (fits rows counter row word)) (not (eqb word 0))

-- the first row from a place on that is not zero
unfoldable pub nonzero_row : List ℕ → ℕ → Option ℕ
nonzero_row rows from = lowest_from from (λ row word. not (eqb word 0)) (drop from rows)

-- 2: the lowest bad row
unfoldable pub bad_term : List ℕ → ℕ → Option ℕ
bad_term rows counter = lowest (bad_term_row rows counter) rows

-- the answer of the check
abbrev pub checked_by : Option ℕ → List ℕ → Result ℕ ℕ
checked_by (Some row) rows = Err row
checked_by None rows = Ok (used_rows rows)

abbrev pub checked : List ℕ → ℕ → Result ℕ ℕ
checked rows counter = checked_by (bad_term rows counter) rows
