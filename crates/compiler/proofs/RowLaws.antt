-- The root of a pattern's rows with zero rows behind them: room for its code.
use Prim.Native.Nat.{ℕ, ◌-◌, ◌≤◌}
use mathlib.Core.Path.{◌≡◌, ◌∙◌, ap}
use Rattle.std.specs.Prelude.{None}
use mathlib.Core.List.{List, ◌++◌}
use native.Mathlib.Omega.{arith}
use lib.ListN.{length}
use Rattle.patterns.specs.Pattern.{size}
use Rattle.patterns.specs.Rules.{bad_pattern}
use Rattle.patterns.specs.Standing.{pattern_in}
use Rattle.patterns.proofs.TreeLaws.{pattern_size}
use Rattle.layout.proofs.RowLaws.{behind, root_pattern, root_stands}
use Rattle.emission.specs.Budget.{most_words, Row}

-- before the first word is written
module _ (pattern : List ℕ) (some : 1 ≤ length pattern) (few : length pattern ≤ 96) (passed : bad_pattern pattern ≡ None) where
  abbrev rows : List ℕ
  rows = pattern ++ behind pattern some few

  root_size : size (pattern_in rows (length pattern - 1)) ≡ length pattern
  root_size = ap size (root_pattern pattern some few) ∙ pattern_size pattern passed some

  pub root_row : (objects named : ℕ) → Row rows (length pattern - 1) (record { objects = objects; raws = named; next = 0; written = 0; refusal = None })
  root_row objects named = record {
    stands = root_stands pattern some few passed;
    room = record { place = omega (arith, root_size); free = omega (arith, root_size) };
  }

  -- its words fit the buffer
  pub root_words : most_words (pattern_in rows (length pattern - 1)) ≤ 767
  root_words = omega (arith, root_size)
