-- A pattern's rows with zero rows behind them: the same pattern, whose root a walk may stand at.
use Prim.Native.Nat.{ℕ, zero, suc, ◌-◌, ◌<◌, ◌≤◌}
use mathlib.Core.Path.{◌≡◌, sym, ◌∙◌, fun_ext}
use Rattle.std.specs.Prelude.{None}
use mathlib.Core.List.{List, ◌++◌}
use native.Mathlib.Decide.{dec_lt}
use native.Mathlib.Omega.{arith}
use lib.Dec.{T}
use lib.ListN.{length, get_or, replicate, length-append, get_or-append}
use Rattle.patterns.specs.Row.{pattern_fields}
use Rattle.patterns.specs.Rules.{row_fits, bad_pattern}
use Rattle.patterns.specs.Standing.{pattern_in, Stands}
use Rattle.patterns.specs.Tree.{pattern_of}
use Rattle.patterns.proofs.GoodRow.{good_row}
use Rattle.patterns.proofs.RuleLaws.{all_good}
use Rattle.patterns.proofs.TreeLaws.{formed}

-- rows behind a row do not change its pattern
module _ (rows behind : List ℕ) where
  longer : (place : ℕ) → place < length rows → place < length (rows ++ behind)
  longer place inside = rw (length-append rows behind) (omega arith)

  same_below : (bound place : ℕ) → place < bound → place < length rows → pattern_in (rows ++ behind) place ≡ pattern_in rows place
  same_below zero place less inside = absurd (omega arith)
  same_below (suc bound) place less inside =
      let long = formed (rows ++ behind) place (longer place inside) in
      let short = formed rows place inside in
      let below : (row : ℕ) → long.below row ≡ short.below row = λ row.
      by row (dec_lt row place) (λ l. long.before row l ∙ same_below bound row (omega arith) (omega arith) ∙ sym (short.before row l))
      (λ g. long.beyond row g ∙ sym (short.beyond row g)) in
      long.form ∙ rw (get_or-append rows behind 0 place inside, fun_ext below) (sym short.form)
    where
      by : {A : Type 0} {x y : A} (row : ℕ) → Dec (row < place) → (row < place → x ≡ y) → (place ≤ row → x ≡ y) → x ≡ y
      by row (yes l) f g = f l
      by row (no n) f g = g (omega (arith, n))

  same_pattern : (place : ℕ) → place < length rows → pattern_in (rows ++ behind) place ≡ pattern_in rows place
  same_pattern place inside = same_below (suc place) place (omega arith) inside

-- the root of a pattern that passed
module _ (pattern : List ℕ) (some : 1 ≤ length pattern) (few : length pattern ≤ 96) where
  abbrev pub behind : List ℕ
  behind = replicate (96 - length pattern) 0

  pub root_pattern : pattern_in (pattern ++ behind) (length pattern - 1) ≡ pattern_of pattern
  unfolding pattern_of
  root_pattern = same_pattern pattern behind (length pattern - 1) (omega arith)

  pub root_stands : bad_pattern pattern ≡ None → Stands (pattern ++ behind) (length pattern - 1)
  root_stands passed = record {
    good = λ place least. good place (omega arith);
    inside = rw (length-append pattern behind) (omega arith);
    most = omega arith;
  }
    where
      good : (place : ℕ) → place < length pattern → T (row_fits place (pattern_fields (get_or (pattern ++ behind) place 0)))
      good place inside = rw (get_or-append pattern behind 0 place inside) ((good_row place (pattern_fields (get_or pattern place 0))).1 (all_good pattern passed place inside))
