-- Numbers on a line, one after another; and how long numbers and lines are.
use Prim.Native.Nat.{ℕ, zero, suc, ◌+◌, ◌*◌, ◌^◌, ◌<◌, ◌≤◌}
use mathlib.Core.Path.{◌≡◌, refl, ap}
use mathlib.Core.List.{List, [], ◌∷◌, ◌++◌, append_assoc}
use native.Mathlib.Numerals.{add-one}
use native.Mathlib.Omega.{arith}
use lib.ListN.{length, get_or, take, length-append, length-take}
use lib.Seq.{take-suc, length-take-le}
use Rattle.word.proofs.All.{All, at_all, all_map}
use Rattle.text.specs.Lines.{space, line_feed, decimal, gap, spaced, line, word_line}
use Rattle.text.specs.Written.{Wrote}
use Rattle.text.proofs.WrittenLaws.{wrote_nothing, wrote_then}
use Rattle.text.proofs.DigitLaws.{few_digits, digits_below}

-- a number after others
spaced_then : (numbers : List ℕ) (n : ℕ) → spaced (numbers ++ (n ∷ [])) ≡ spaced numbers ++ (gap (length numbers) ++ decimal n)
unfolding spaced gap
spaced_then [] n = refl
spaced_then (m ∷ []) n = refl
spaced_then (m ∷ k ∷ rest) n = rw append_assoc (ap (λ (more : List ℕ). decimal m ++ (space ∷ more)) (spaced_then (k ∷ rest) n))

pub no_gap : (place : ℕ) (before : List ℕ) (at : ℕ) → place ≡ 0 → Wrote (gap place) before at before at
unfolding gap
no_gap place before at e = rw e (wrote_nothing before at)

pub one_gap : (place : ℕ) {before after : List ℕ} {at next : ℕ} → (place ≡ 0 → ⊥) → Wrote (space ∷ []) before at after next → Wrote (gap place) before at after next
unfolding gap
one_gap zero some w = absurd (some refl)
one_gap (suc place) some w = w

pub no_numbers : (numbers before : List ℕ) (at : ℕ) → Wrote (spaced (take 0 numbers)) before at before at
unfolding spaced
no_numbers numbers before at = wrote_nothing before at

pub one_number : (numbers : List ℕ) (i : ℕ) {before middle more after : List ℕ} {at next there last : ℕ} → i < length numbers
    → Wrote (spaced (take i numbers)) before at middle next → Wrote (gap i) middle next more there → Wrote (decimal (get_or numbers i 0)) more there after last
    → Wrote (spaced (take (i + 1) numbers)) before at after last
one_number numbers i l f g h =
    rw (add-one, take-suc numbers i 0, spaced_then (take i numbers) (get_or numbers i 0), length-take-le i numbers (omega arith))
    (wrote_then f (wrote_then g h))

pub line_written : (numbers : List ℕ) {before middle after : List ℕ} {at next last : ℕ} → Wrote (spaced numbers) before at middle next
    → Wrote (line_feed ∷ []) middle next after last → Wrote (line numbers) before at after last
unfolding line
line_written numbers f g = wrote_then f g

pub word_line_written : (word numbers : List ℕ) {before middle more after : List ℕ} {at next there last : ℕ} → Wrote word before at middle next
    → Wrote (space ∷ []) middle next more there → Wrote (line numbers) more there after last → Wrote (word_line word numbers) before at after last
unfolding word_line
word_line_written word numbers f g h = wrote_then f (wrote_then g h)

pub ruleset ways = (no_gap, one_gap, line_written, word_line_written)

-- how long a number is: below a power of ten, and at most
pub decimal_below : (k n : ℕ) → n < 10 ^ suc k → length (decimal n) ≤ suc k
unfolding decimal
decimal_below k n l = digits_below 20 k n l

pub gap_most : (place : ℕ) → length (gap place) ≤ 1
unfolding gap
gap_most zero = omega arith
gap_most (suc place) = omega arith

decimal_most : (n : ℕ) → length (decimal n) ≤ 20
unfolding decimal
decimal_most n = few_digits 20 n

-- a line of numbers of which each has at most so many digits
spaced_length : (k : ℕ) (numbers : List ℕ) → All (λ n. length (decimal n) ≤ k) numbers → length (spaced numbers) ≤ suc k * length numbers
unfolding spaced
spaced_length k [] few = omega arith
spaced_length k (n ∷ []) few = omega arith
spaced_length k (n ∷ m ∷ rest) few = simp length-append (omega (arith, few.0, spaced_length k (m ∷ rest) few.1))

-- any numbers, and the first few of them
pub spaced_all : (numbers : List ℕ) → length (spaced numbers) ≤ 21 * length numbers
spaced_all numbers = spaced_length 20 numbers (at_all _ numbers 0 λ i l. decimal_most (get_or numbers i 0))

pub spaced_most : (numbers : List ℕ) (count : ℕ) → length (spaced (take count numbers)) ≤ 21 * count
spaced_most numbers count = omega (arith, length-take count numbers, spaced_all (take count numbers))

module _ (k : ℕ) (numbers : List ℕ) (below : All (λ n. n < 10 ^ suc k) numbers) where
  pub line_below : length (line numbers) ≤ suc (suc k) * length numbers + 1
  unfolding line
  line_below =
      rw length-append (omega (arith, spaced_length (suc k) numbers (all_map numbers (λ n l. decimal_below k n l) below)))

  pub word_line_below : (word : List ℕ) → length (word_line word numbers) ≤ length word + suc (suc k) * length numbers + 2
  unfolding word_line
  word_line_below word = rw length-append (omega (arith, line_below))

-- a line that begins with a word, whatever its numbers
pub word_line_most : (word numbers : List ℕ) → length (word_line word numbers) ≤ length word + 21 * length numbers + 2
unfolding line word_line
word_line_most word numbers =
    simp length-append (omega (arith, spaced_all numbers))
