-- Rows that are passed a block at a time.
use Prim.Native.Nat.{ℕ, zero, suc, ◌+◌, ◌-◌, ◌<◌, ◌≤◌}
use mathlib.Core.Path.{◌≡◌, refl, sym, ◌∙◌, ap, subst}
use mathlib.Core.Bool.{Bool, true, false, not, ◌||◌, or_assoc, or-false}
use Rattle.std.specs.Prelude.{Option, None, Some}
use mathlib.Core.List.{List, [], ◌∷◌}
use native.Mathlib.Nat.{add-zero, add-suc, suc-add}
use native.Mathlib.Decide.{dec_lt}
use native.Mathlib.Numerals.{add-one}
use native.Mathlib.Omega.{arith}
use lib.ListN.{length, get_or, take, drop, length-drop, drop_of_length-le}
use lib.Seq.{drop-cons, length-take-le, get_or-take, get_or-drop, drop-drop}
use lib.Dec.{T, eqb}
use borrow.Author.Tests.{eq-eqb, ne_eqb}
use Rattle.word.specs.Lowest.{lowest_from, each, one_of}
use Rattle.word.proofs.LowestLaws.{one_of_lem}
use Rattle.word.proofs.ScanLaws.{scan_hit, scan_miss, scan_end}
use Rattle.terms.specs.Rules.{nonzero_row}
use Rattle.terms.specs.Finder.{equal_row}
use Rattle.terms.proofs.FinderLaws.{Absent, equal_end, equal_here, equal_lower}

-- a loop that does not stop: what is found so far and what is left give the answer
module _ (found : Bool) (block : List ℕ) (word i : ℕ) (left : one_of block word ≡ (found || one_of (drop i block) word)) where
  pub one_gather : i < length block → one_of block word ≡ ((found || eqb (get_or block i 0) word) || one_of (drop (i + 1) block) word)
  unfolding one_of
  one_gather inside = left ∙ rw (drop-cons block i 0, add-one) (sym (or_assoc found (eqb (get_or block i 0) word) (one_of (drop (suc i) block) word)))

  pub one_gathered : length block ≤ i → found ≡ one_of block word
  unfolding one_of
  one_gathered past = sym (left ∙ rw (drop_of_length-le block {i = i} past) (or-false found))

-- a block is the rows from a place up to another
length_block : (rows : List ℕ) (i end : ℕ) → end ≤ length rows → length (take (end - i) (drop i rows)) ≡ end - i
length_block rows i end inside = length-take-le (end - i) (drop i rows) (omega (arith, length-drop i rows))

block_at : (rows : List ℕ) (i end row : ℕ) → i ≤ row → row < end → get_or (take (end - i) (drop i rows)) (row - i) 0 ≡ get_or rows row 0
block_at rows i end row low high =
    get_or-take (end - i) (drop i rows) (row - i) 0 (omega arith) ∙ get_or-drop i rows (row - i) 0 ∙ ap (λ (at : ℕ). get_or rows at 0) (omega arith)

-- a row more does not equal the term
pub absent_row : (rows : List ℕ) (word i : ℕ) → Absent rows i word → (get_or rows i 0 ≡ word → ⊥) → Absent rows (i + 1) word
absent_row rows word i absent differs row l e = go (dec_lt row i)
  where
    go : Dec (row < i) → ⊥
    go (yes before) = absent row before e
    go (no past) = let last : row ≡ i = omega arith in differs (rw last at e)

-- none of a block more does
pub absent_block : (rows : List ℕ) (word i end : ℕ) → end ≤ length rows → Absent rows i word
    → one_of (take (end - i) (drop i rows)) word ≡ false → Absent rows end word
absent_block rows word i end inside absent differs row l e = go (dec_lt row i)
  where
    block : List ℕ
    block = take (end - i) (drop i rows)

    go : Dec (row < i) → ⊥
    go (yes before) = absent row before e
    go (no past) =
        let same : get_or block (row - i) 0 ≡ word = block_at rows i end row (omega arith) l ∙ e in
        let found : T (one_of block word) = (one_of_lem block word).1 (row - i, omega (arith, length_block rows i end inside), same) in
        rw differs at found

-- the search from the newest row down passes rows that differ
module _ (rows : List ℕ) (word : ℕ) where
  passes_down : (n start : ℕ) → ((row : ℕ) → start ≤ row → row < start + n → get_or rows row 0 ≡ word → ⊥) → equal_row rows (start + n) word ≡ equal_row rows start word
  passes_down zero start differ = rw add-zero
  passes_down (suc n) start differ =
      rw add-suc (equal_lower rows word (start + n) (differ (start + n) (omega arith) (omega arith)) ∙ passes_down n start λ row low high. differ row low (omega arith))

  -- a block of them
  pub passes_block : (start end : ℕ) → start ≤ end → end ≤ length rows → one_of (take (end - start) (drop start rows)) word ≡ false
      → equal_row rows end word ≡ equal_row rows start word
  passes_block start end low inside differ =
      let there : start + (end - start) ≡ end = omega arith in
      rw there at (passes_down (end - start) start λ row past before e. absent row past (omega arith) e)
    where
      block : List ℕ
      block = take (end - start) (drop start rows)

      absent : (row : ℕ) → start ≤ row → row < end → get_or rows row 0 ≡ word → ⊥
      absent row past before e =
          let same : get_or block (row - start) 0 ≡ word = block_at rows start end row past before ∙ e in
          let found : T (one_of block word) = (one_of_lem block word).1 (row - start, omega (arith, length_block rows start end inside), same) in
          rw differ at found

-- a row at a time
module _ (rows : List ℕ) (word : ℕ) {left : ℕ} {answer : Option ℕ} (is : answer ≡ equal_row rows left word) where
  pub left_here : 0 < left → get_or rows (left - 1) 0 ≡ word → answer ≡ Some (left - 1)
  left_here some_left e =
      let newest : suc (left - 1) ≡ left = omega arith in
      is ∙ (rw newest at (equal_here rows word (left - 1) e))

  pub left_lower : 0 < left → (get_or rows (left - 1) 0 ≡ word → ⊥) → answer ≡ equal_row rows (left - 1) word
  left_lower some_left other =
      let newest : suc (left - 1) ≡ left = omega arith in
      is ∙ (rw newest at (equal_lower rows word (left - 1) other))

  pub left_none : left ≤ 0 → answer ≡ None
  left_none past =
      let all : left ≡ 0 = omega arith in
      is ∙ rw all (equal_end rows word)

-- zero rows that were passed leave the same answer
abbrev nonzero : ℕ → ℕ → Bool
nonzero row word = not (eqb word 0)

zeros_left : (n i : ℕ) (rest : List ℕ) → each (λ word. eqb word 0) (take n rest) ≡ true → lowest_from i nonzero rest ≡ lowest_from (i + n) nonzero (drop n rest)
unfolding lowest_from each
zeros_left zero i rest h = rw add-zero
zeros_left (suc n) i [] h = refl
zeros_left (suc n) i (word ∷ rest) h = rw (add-suc, ← suc-add) (go (eqb word 0) (zeros_left n (suc i) rest) h)
  where
    zeros : Bool
    zeros = each (λ word. eqb word 0) (take n rest)

    go : (b : Bool) {later : Option ℕ} → (zeros ≡ true → lowest_from (suc i) nonzero rest ≡ later) → elim b [ true ↦ zeros | false ↦ false ] ≡ true
        → elim (not b) [ true ↦ Some i | false ↦ lowest_from (suc i) nonzero rest ] ≡ later
    go true more h = more h
    go false more h = absurd (subst T (sym h) tt)

pub nonzero_block : (rows : List ℕ) (i end : ℕ) → i ≤ end → each (λ word. eqb word 0) (take (end - i) (drop i rows)) ≡ true → nonzero_row rows i ≡ nonzero_row rows end
unfolding nonzero_row
nonzero_block rows i end h zeros =
    let there : i + (end - i) ≡ end = omega arith in
    rw (drop-drop, there) at (zeros_left (end - i) i (drop i rows) zeros)

module _ (rows : List ℕ) (i : ℕ) {answer : Option ℕ} (left : answer ≡ nonzero_row rows i) where
  pub nonzero_here : i < length rows → (get_or rows i 0 ≡ 0 → ⊥) → answer ≡ Some i
  unfolding nonzero_row
  nonzero_here inside differs = scan_hit nonzero rows 0 i left inside (ap not (ne_eqb (get_or rows i 0) 0 differs))

  pub nonzero_next : i < length rows → get_or rows i 0 ≡ 0 → answer ≡ nonzero_row rows (i + 1)
  unfolding nonzero_row
  nonzero_next inside is = scan_miss nonzero rows 0 i left inside (ap not (eq-eqb (get_or rows i 0) 0 is))

  pub nonzero_none : length rows ≤ i → answer ≡ None
  unfolding nonzero_row
  nonzero_none past = scan_end nonzero rows 0 i left past
