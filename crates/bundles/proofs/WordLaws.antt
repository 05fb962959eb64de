-- Words of a bundle, read from a part of its bytes.
use Prim.Native.Nat.{ℕ, zero, suc, ◌+◌, ◌-◌, ◌*◌, ◌/◌, ◌≤◌}
use mathlib.Core.Path.{◌≡◌, refl, ◌∙◌, ap}
use mathlib.Core.List.{List, [], ◌∷◌, ◌++◌}
use native.Mathlib.Nat.{mul-zero, zero-add, suc-add, sub-zero}
use native.Mathlib.Omega.{arith}
use lib.ListN.{length, take, drop, length-drop}
use lib.Seq.{take-nil, take-take, drop-drop, get_or-drop, length-take-le}
use Rattle.word.specs.Bytes.{number, words, elements}
use Rattle.word.proofs.ByteLaws.{Below}

-- words of a list of words
take_words : (size k count : ℕ) (bytes : List ℕ) → k ≤ count → take k (words size count bytes) ≡ words size k bytes
unfolding words
take_words size zero count bytes fewer = refl
take_words size (suc k) zero bytes fewer = absurd (omega arith)
take_words size (suc k) (suc count) bytes fewer = ap (number (take size bytes) ∷◌) (take_words size k count (drop size bytes) (omega arith))

drop_words : (size from count : ℕ) (bytes : List ℕ) → drop from (words size count bytes) ≡ words size (count - from) (drop (size * from) bytes)
unfolding words
drop_words size zero count bytes = rw (sub-zero, mul-zero)
drop_words size (suc from) zero bytes = let none_left : 0 - suc from ≡ 0 = omega arith in rw none_left
drop_words size (suc from) (suc count) bytes =
    let left : suc count - suc from ≡ count - from = omega arith in
    let past : size * suc from ≡ size + size * from = omega arith in
    drop_words size from count (drop size bytes) ∙ rw (left, past, drop-drop)

drop_take : (n k : ℕ) (l : List ℕ) → drop n (take (n + k) l) ≡ take k (drop n l)
drop_take zero k l = rw zero-add
drop_take (suc n) k [] = rw (suc-add, take-nil)
drop_take (suc n) k (x ∷ l) = rw suc-add (drop_take n k l)

pub front_words : (size count : ℕ) (bytes : List ℕ) → words size count (take (size * count) bytes) ≡ words size count bytes
unfolding words
front_words size zero bytes = refl
front_words size (suc count) bytes =
    let all : size * suc count ≡ size + size * count = omega arith in
    rw (all, take-take size (size + size * count) bytes (omega arith), drop_take, front_words size count (drop size bytes))

-- below a limit, also in what is left
pub below_drop : (limit from : ℕ) (bytes : List ℕ) → Below limit bytes → Below limit (drop from bytes)
below_drop limit from bytes below place = rw get_or-drop (below (from + place))

-- the part of the bytes with so many words from a place on
abbrev pub part : List ℕ → ℕ → ℕ → List ℕ
part bytes from count = take (8 * from + 8 * count - 8 * from) (drop (8 * from) bytes)

pub the_part : (bytes : List ℕ) (from count : ℕ) → part bytes from count ≡ take (8 * count) (drop (8 * from) bytes)
the_part bytes from count = let size : 8 * from + 8 * count - 8 * from ≡ 8 * count = omega arith in rw size

module _ (bytes : List ℕ) (from count : ℕ) (fits : 8 * (from + count) ≤ length bytes) where
  pub part_long : length (part bytes from count) ≡ 8 * count
  part_long = rw the_part (length-take-le (8 * count) (drop (8 * from) bytes) (simp length-drop (omega arith)))

  pub the_words : take count (drop from (elements 8 bytes)) ≡ words 8 count (drop (8 * from) bytes)
  the_words = rw drop_words (take_words 8 count (length bytes / 8 - from) (drop (8 * from) bytes) (omega arith))

  pub words_read : (before : List ℕ)
      → elements 8 (part bytes from count) ++ drop (length (part bytes from count) / 8) before
      ≡ take count (drop from (elements 8 bytes)) ++ drop count before
  words_read before = let many : 8 * count / 8 ≡ count = omega arith in rw (part_long, many, the_part bytes from count, the_words, front_words)
