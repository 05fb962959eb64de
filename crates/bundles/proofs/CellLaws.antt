-- The cells of a bundle: four are a word.
use Prim.Native.Nat.{ℕ, zero, suc, ◌+◌, ◌*◌, ◌/◌, ◌<◌, ◌≤◌}
use mathlib.Core.Path.{◌≡◌, refl, ◌∙◌, ap₂}
use mathlib.Core.List.{List, [], ◌∷◌, ◌++◌, flat_map}
use native.Mathlib.Omega.{arith}
use lib.ListN.{length, take, drop, replicate, length-drop}
use lib.Seq.{drop-drop}
use Rattle.word.specs.Bytes.{number, words, elements}
use Rattle.word.specs.Fields.{split, join}
use Rattle.word.proofs.ByteLaws.{Below, number_word}
use Rattle.word.proofs.FieldLaws.{Fit, split_join}
use Rattle.bundles.specs.Bundle.{cells_of}
use Rattle.bundles.proofs.WordLaws.{front_words, below_drop, the_words, part, the_part, part_long}

pair_below : (bytes : List ℕ) → Below 256 bytes → number (take 2 bytes) < 65536
unfolding number
pair_below [] below = omega arith
pair_below (a ∷ []) below = omega (arith, below 0)
pair_below (a ∷ b ∷ rest) below = omega (arith, below 0, below 1)

pairs_fit : (count : ℕ) (bytes : List ℕ) → Below 256 bytes → Fit (replicate count 16) (words 2 count bytes)
unfolding words
pairs_fit zero bytes below = tt
pairs_fit (suc count) bytes below = (pair_below bytes below, pairs_fit count (drop 2 bytes) (below_drop 256 2 bytes below))

word_cells : (bytes : List ℕ) → 8 ≤ length bytes → Below 256 bytes → split (replicate 4 16) (number (take 8 bytes)) ≡ words 2 4 bytes
unfolding words
word_cells bytes long below =
    let joined : join (replicate 4 16) (words 2 4 bytes) ≡ number (take 8 bytes) = simp drop-drop (omega (arith, number_word bytes 0 long)) in
    rw (← joined) (split_join (replicate 4 16) (words 2 4 bytes) (pairs_fit 4 bytes below) refl)

words_cells : (count : ℕ) (bytes : List ℕ) → 8 * count ≤ length bytes → Below 256 bytes → cells_of (words 8 count bytes) ≡ words 2 (4 * count) bytes
unfolding words flat_map
words_cells zero bytes long below = refl
words_cells (suc count) bytes long below =
    let four : 4 * suc count ≡ suc (suc (suc (suc (4 * count)))) = omega arith in
    ap₂ ◌++◌ (word_cells bytes (omega arith) below) (words_cells count (drop 8 bytes) (simp length-drop (omega arith)) (below_drop 256 8 bytes below))
    ∙ rw four (simp drop-drop)

-- read from a part of the bytes
pub cells_read : (bytes : List ℕ) (from count : ℕ) → 8 * (from + count) ≤ length bytes → Below 256 bytes → (before : List ℕ)
    → elements 2 (part bytes from count) ++ drop (length (part bytes from count) / 2) before
    ≡ cells_of (take count (drop from (elements 8 bytes))) ++ drop (4 * count) before
cells_read bytes from count fits below before =
    let many : 8 * count / 2 ≡ 4 * count = omega arith in
    let pairs : 8 * count ≡ 2 * (4 * count) = omega arith in
    let cells = words_cells count (drop (8 * from) bytes) (simp length-drop (omega arith)) (below_drop 256 (8 * from) bytes below) in
    rw (part_long bytes from count fits, many, the_part bytes from count, the_words bytes from count fits, cells, pairs, front_words)
