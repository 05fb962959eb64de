-- A pattern row, 64 bits: tag 4, V 6, F 2, X 8, Y 6, R 6, n 3, four children of 7, zero 1.
use Rattle.std.specs.Prelude.{ℕ, List, [], ◌∷◌, take, drop}
use Rattle.word.specs.Fields.{split, at}

abbrev pub pattern_widths : List ℕ
pattern_widths = 4 ∷ 6 ∷ 2 ∷ 8 ∷ 6 ∷ 6 ∷ 3 ∷ 7 ∷ 7 ∷ 7 ∷ 7 ∷ 1 ∷ []

-- v, f, x, y and r are V, F, X, Y and R
pub record PatternFields : Type 0 where
  pub tag : ℕ
  pub v : ℕ
  pub f : ℕ
  pub x : ℕ
  pub y : ℕ
  pub r : ℕ
  pub n : ℕ
  pub slots : List ℕ
  pub spare : ℕ

abbrev pub fields_by : List ℕ → PatternFields
fields_by all = record {
  tag = at 0 all;
  v = at 1 all;
  f = at 2 all;
  x = at 3 all;
  y = at 4 all;
  r = at 5 all;
  n = at 6 all;
  slots = take 4 (drop 7 all);
  spare = at 11 all;
}

unfoldable pub pattern_fields : ℕ → PatternFields
pattern_fields word = fields_by (split pattern_widths word)

-- the children, in their slots from the first on
abbrev pub children : PatternFields → List ℕ
children row = take row.n row.slots

abbrev pub children_of : ℕ → List ℕ
children_of word = children (pattern_fields word)
