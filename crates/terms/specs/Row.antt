-- A term row, 64 bits: tag 4, n 4, zero 8, C1 to C4 of 12 each. Tags 1 to 6 have their number in the low 16 bits.
use Rattle.std.specs.Prelude.{ℕ, cond, List, [], ◌∷◌, length, get_or, take, drop, eqb}
use Rattle.numbers.specs.Kinds.{encryption_kind, signature_kind, hash_kind, tuple_kind}
use Rattle.word.specs.Fields.{split, join, at}
use Rattle.terms.specs.Shape.{Shape, atom, encrypted, signed, hashed, tupled}

abbrev pub term_widths : List ℕ
term_widths = 4 ∷ 4 ∷ 8 ∷ 12 ∷ 12 ∷ 12 ∷ 12 ∷ []

abbrev pub atom_widths : List ℕ
atom_widths = 4 ∷ 44 ∷ 16 ∷ []

-- the row at a number of a table; past its end rows are unused
abbrev pub row_at : List ℕ → ℕ → ℕ
row_at rows row = get_or rows row 0

-- fields that are not named are zero
unfoldable pub row_of : Shape ℕ → ℕ
row_of (atom tag number) = join atom_widths (tag ∷ 0 ∷ number ∷ [])
row_of (encrypted key body) = join term_widths (encryption_kind ∷ 0 ∷ 0 ∷ key ∷ body ∷ [])
row_of (signed key body) = join term_widths (signature_kind ∷ 0 ∷ 0 ∷ key ∷ body ∷ [])
row_of (hashed body) = join term_widths (hash_kind ∷ 0 ∷ 0 ∷ body ∷ [])
row_of (tupled parts) = join term_widths (tuple_kind ∷ length parts ∷ 0 ∷ parts)

unfoldable pub tag_of : ℕ → ℕ
tag_of word = at 0 (split term_widths word)

-- the shape by its tag; fields that it does not use are not looked at
abbrev pub shape_by : ℕ → ℕ → Shape ℕ
shape_by tag word =
    let fields = split term_widths word in
    cond (eqb tag encryption_kind) (encrypted (at 3 fields) (at 4 fields))
    (cond (eqb tag signature_kind) (signed (at 3 fields) (at 4 fields))
    (cond (eqb tag hash_kind) (hashed (at 3 fields))
    (cond (eqb tag tuple_kind) (tupled (take (at 1 fields) (drop 3 fields)))
    (atom tag (at 2 (split atom_widths word))))))

unfoldable pub shape_of : ℕ → Shape ℕ
shape_of word = shape_by (tag_of word) word
