-- The room that a pattern asks, and its parts.
use Prim.Native.Nat.{ℕ, ◌+◌, ◌*◌, ◌≤◌, ◌<◌}
use mathlib.Core.Path.{◌≡◌}
use mathlib.Core.List.{List}
use native.Mathlib.Omega.{arith}
use lib.ListN.{get_or}
use Rattle.patterns.specs.Pattern.{Pattern, size}
use Rattle.patterns.specs.Row.{pattern_fields}
use Rattle.patterns.proofs.PatternLaws.{size_positive}
use Rattle.theory.specs.Emission.{Env, Emitted}
use Rattle.knowing.specs.Meets.{Does, RoomFor}
use Rattle.patterns.specs.Standing.{pattern_in, Stands}
use Rattle.emission.specs.Budget.{most_words, most_scratches, Row, RowAt}
use Rattle.knowing.proofs.MeetsLaws.{does_le}
use Rattle.patterns.proofs.StandingLaws.{stands_below, encryption_row, let_row}
use Rattle.knowing.specs.declared.Emission.{Emission}

-- less room, and what is left of it after a step
pub room_le : {w m x n : ℕ} {e : Emission} → x ≤ w → n ≤ m → RoomFor w m e → RoomFor x n e
room_le h g room = record { place = omega (arith, room.place); free = omega (arith, room.free) }

pub room_then : {f : Env → Emitted} {w m x n y k : ℕ} {e : Emission} {code : List ℕ} {e' : Emission} {code' : List ℕ} → y + x ≤ w → k + n ≤ m → RoomFor w m e → Does f y k e code e' code' → RoomFor x n e'
room_then h g room d =
    record { place = omega (arith, room.place, d.place); free = omega (arith, room.free, d.free) }

-- a row whose pattern is known
pub room_as : (rows : List ℕ) (row : ℕ) {e : Emission} (p : Pattern) → pattern_in rows row ≡ p
    → RoomFor (most_words (pattern_in rows row)) (most_scratches (pattern_in rows row)) e → RoomFor (most_words p) (most_scratches p) e
room_as rows row p h room = rw h at room

-- the code of a row whose pattern is known, and of one with no part
pub as_row : (f : Pattern → Env → Emitted) (rows : List ℕ) (row : ℕ) {e : Emission} {code : List ℕ} {e' : Emission} {code' : List ℕ} (p : Pattern) → pattern_in rows row ≡ p → Does (f p) (most_words p) (most_scratches p) e code e' code'
    → Does (f (pattern_in rows row)) (most_words (pattern_in rows row)) (most_scratches (pattern_in rows row)) e code e' code'
as_row f rows row p h k = rw h k

pub as_leaf : (f : Pattern → Env → Emitted) (rows : List ℕ) (row : ℕ) {e : Emission} {code : List ℕ} {e' : Emission} {code' : List ℕ} (p : Pattern) → pattern_in rows row ≡ p → Does (f p) 7 1 e code e' code'
    → Does (f (pattern_in rows row)) (most_words (pattern_in rows row)) (most_scratches (pattern_in rows row)) e code e' code'
as_leaf f rows row p h k = as_row f rows row p h (does_le (omega (arith, size_positive p)) (omega (arith, size_positive p)) k)

-- every row has room for a form with no part
pub leaf_room : (rows : List ℕ) (row word : ℕ) (e : Emission) → RowAt rows row word e → RoomFor 7 1 e
leaf_room rows row word e m =
    let p = pattern_in rows row in
    let room = m.room in
    record { place = omega (arith, room.place, size_positive p); free = omega (arith, room.free, size_positive p) }

-- a child of a row
pub row_below : (rows : List ℕ) (row child : ℕ) {e' : Emission} → Stands rows row → child < row → RoomFor (most_words (pattern_in rows child))
    (most_scratches (pattern_in rows child)) e' → Row rows child e'
row_below rows row child asked below room =
    record { stands = stands_below asked below; room = room }

-- room for the child of an encryption, and for the two of a let
module _ {rows : List ℕ} {row word : ℕ} {e : Emission} (asked : RowAt rows row word e) (child : ℕ) (first : child ≡ get_or (pattern_fields word).slots 0 0) where
  pub encryption_room : (pattern_fields word).tag ≡ 5 → RoomFor (8 * size (pattern_in rows child) + 7) (2 * size (pattern_in rows child) + 1) e
  unfolding size
  encryption_room five = room_le (omega arith) (omega arith) (room_as rows row _ (encryption_row asked.standing child first five) asked.room)

  pub let_room : (other : ℕ) → other ≡ get_or (pattern_fields word).slots 1 0 → (pattern_fields word).tag ≡ 9
      → RoomFor (8 * (size (pattern_in rows child) + size (pattern_in rows other)) + 7) (2 * (size (pattern_in rows child) + size (pattern_in rows other)) + 1) e
  unfolding size
  let_room other second nine = room_le (omega arith) (omega arith) (room_as rows row _ (let_row asked.standing child first other second nine) asked.room)
