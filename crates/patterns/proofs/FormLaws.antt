-- Rows and the patterns that are built from them.
use Prim.Native.Nat.{ℕ, zero, suc, ◌+◌, ◌<◌, ◌≤◌}
use mathlib.Core.Path.{◌≡◌, refl, sym, ◌∙◌}
use mathlib.Core.List.{List, [], ◌∷◌, ◌++◌}
use native.Mathlib.Nat.{add-zero, add-suc, suc-add, zero-add}
use native.Mathlib.Omega.{arith}
use lib.ListN.{length, get_or, length-append, get_or-append, get_or-eq_default}
use lib.Seq.{get_or_at}
use Rattle.patterns.specs.Pattern.{Pattern}
use Rattle.patterns.specs.Row.{pattern_fields}
use Rattle.patterns.specs.Tree.{form_by, no_pattern, pattern_at, patterns_from, patterns_of}

-- one pattern a row
length_from : (built : List Pattern) (place : ℕ) (rows : List ℕ) → length (patterns_from built place rows) ≡ length built + length rows
unfolding patterns_from
length_from built place [] = omega arith
length_from built place (word ∷ rest) =
    let made = form_by (pattern_at built) place (pattern_fields word) ∷ [] in
    length_from (built ++ made) (suc place) rest ∙ rw (length-append built made) (omega arith)

pub patterns_length : (rows : List ℕ) → length (patterns_of rows) ≡ length rows
unfolding patterns_of
patterns_length rows = length_from [] zero rows ∙ zero-add (length rows)

-- the pattern of a row is formed over those of the rows before it
pub record Formed (all : List Pattern) (place word : ℕ) : Type 0 where
  pub below : ℕ → Pattern
  pub form : pattern_at all place ≡ form_by below place (pattern_fields word)
  pub before : (row : ℕ) → row < place → below row ≡ pattern_at all row
  pub beyond : (row : ℕ) → place ≤ row → below row ≡ no_pattern

-- what is built stays
kept : (built : List Pattern) (place : ℕ) (rows : List ℕ) (row : ℕ) → row < length built → pattern_at (patterns_from built place rows) row ≡ pattern_at built row
unfolding patterns_from
kept built place [] row inside = refl
kept built place (word ∷ rest) row inside =
    let made = form_by (pattern_at built) place (pattern_fields word) ∷ [] in
    kept (built ++ made) (suc place) rest row (rw (length-append built made) (omega arith)) ∙ get_or-append built made no_pattern row inside

formed_from : (built : List Pattern) (place : ℕ) (rows : List ℕ) → length built ≡ place → (i : ℕ) → i < length rows → Formed (patterns_from built place rows) (place + i) (get_or rows i 0)
unfolding patterns_from
formed_from built place [] long i inside = absurd (omega arith)
formed_from built place (word ∷ rest) long zero inside =
    let made = form_by (pattern_at built) place (pattern_fields word) in
    let longer : length (built ++ (made ∷ [])) ≡ suc place = length-append built (made ∷ []) ∙ omega arith in
    rw add-zero
    (record {
      below = pattern_at built;
      form = kept (built ++ (made ∷ [])) (suc place) rest place (omega arith) ∙ get_or_at built made [] no_pattern place long;
      before = λ row less. sym (kept built place (word ∷ rest) row (omega arith));
      beyond = λ row more. get_or-eq_default built no_pattern {n = row} (omega arith);
    })
formed_from built place (word ∷ rest) long (suc i) inside =
    let made = form_by (pattern_at built) place (pattern_fields word) ∷ [] in
    rw (add-suc, ← suc-add) (formed_from (built ++ made) (suc place) rest (length-append built made ∙ omega arith) i (omega arith))

pub formed : (rows : List ℕ) (place : ℕ) → place < length rows → Formed (patterns_of rows) place (get_or rows place 0)
unfolding patterns_of
formed rows place inside = rw zero-add at (formed_from [] zero rows refl place inside)
