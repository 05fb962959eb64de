-- The rows of a pattern, and the room that a pattern asks.
use Rattle.std.specs.Prelude.{ℕ, ◌+◌, ◌-◌, ◌*◌, ◌≤◌, List}
use Rattle.numbers.specs.Limits.{most_code_words}
use Rattle.patterns.specs.Pattern.{Pattern, Parts, count, size, sizes}
use Rattle.patterns.specs.Standing.{pattern_in, Stands, StandsAt}
use Rattle.knowing.specs.Meets.{RoomFor}
use Rattle.knowing.specs.declared.Emission.{Emission}

-- what a pattern of so many rows emits and takes at most
abbrev pub most_words : Pattern → ℕ
most_words p = 8 * size p - 1

abbrev pub most_scratches : Pattern → ℕ
most_scratches p = 2 * size p - 1

-- a part has one word and one scratch number more
abbrev pub words_of : Parts → ℕ
words_of ps = 8 * sizes ps

abbrev pub scratches_of : Parts → ℕ
scratches_of ps = 2 * sizes ps - count ps

-- a row of the pattern, and room for its pattern
pub record Row (rows : List ℕ) (row : ℕ) (e : Emission) : Type 0 where
  pub stands : Stands rows row
  pub room : RoomFor (most_words (pattern_in rows row)) (most_scratches (pattern_in rows row)) e

-- the same, with the row's word
pub record RowAt (rows : List ℕ) (row word : ℕ) (e : Emission) : Type 0 where
  pub standing : StandsAt rows row word
  pub room : RoomFor (most_words (pattern_in rows row)) (most_scratches (pattern_in rows row)) e

-- room for the parts of a tuple, whose own scratch numbers are taken already
pub record RoomParts (ps : Parts) (e : Emission) : Type 0 where
  pub place : e.written + words_of ps ≤ most_code_words
  pub free : e.next + 2 * sizes ps ≤ 191 + count ps
