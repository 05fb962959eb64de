-- A half's rows, and their part of the lent bytes.
use mathlib.Core.Path.{◌≡◌, sym, ◌∙◌}
use mathlib.Core.Bool.{Bool, false}
use mathlib.Core.List.{List, ◌++◌}
use Prim.Native.Nat.{ℕ, ◌-◌, ◌*◌, ◌/◌, ◌<◌, ◌≤◌}
use native.Mathlib.Omega.{arith}
use lib.ListN.{length, take, drop, length-drop}
use lib.Seq.{length-take-le, take_at}
use Rattle.word.specs.Bytes.{elements}
use Rattle.word.proofs.ByteLaws.{length_words}
use Rattle.word.proofs.TestLaws.{is_false, both, at_most}
use Rattle.answers.specs.First.{first}
use Rattle.answers.specs.declared.Compiled.TheVariants.{Limit}
use Rattle.theory.specs.Emission.{Env, refuse}
use Rattle.calls.specs.Half.{known_fit, half}
use Rattle.bundles.proofs.WordLaws.{the_words, front_words}

-- more rows than a pattern may have are 1
pub half_limit : (create : Bool) (rows kinds : List ℕ) (e : Env) → 96 < length rows → half create rows kinds e ≡ refuse Limit
unfolding half first
half_limit create rows kinds e many =
    let not_fit : known_fit (length rows) (length kinds) ≡ false =
    is_false (known_fit (length rows) (length kinds)) (λ h. let t = simp (both, at_most) at h in omega (arith, t.0.1)) in
    rw not_fit

-- the rows between two places
pub between_long : (rows : List ℕ) (from to : ℕ) → from ≤ to → to ≤ length rows → length (take (to - from) (drop from rows)) ≡ to - from
between_long rows from to order within = length-take-le (to - from) (drop from rows) (omega (arith, length-drop from rows))

module _ (bytes : List ℕ) (from to : ℕ) (order : from ≤ to) (within : to ≤ length (elements 8 bytes)) where
  abbrev part : List ℕ
  part = take (8 * to - 8 * from) (drop (8 * from) bytes)

  pub bytes_within : 8 * to ≤ length bytes
  bytes_within = omega (arith, within, length_words 8 (length bytes / 8) bytes)

  part_long : length part / 8 ≡ to - from
  part_long = omega (arith, between_long bytes (8 * from) (8 * to) (omega arith) bytes_within)

  part_rows : elements 8 part ≡ take (to - from) (drop from (elements 8 bytes))
  part_rows =
      let size : 8 * to - 8 * from ≡ 8 * (to - from) = omega arith in
      rw (part_long, size, front_words 8 (to - from) (drop (8 * from) bytes)) (sym (the_words bytes from (to - from) (omega (arith, bytes_within))))

  pub unpacked_rows : (before : List ℕ) → take (to - from) (elements 8 part ++ drop (length part / 8) before) ≡ take (to - from) (drop from (elements 8 bytes))
  unpacked_rows before = take_at (elements 8 part) (drop (length part / 8) before) (to - from) (length_words 8 (length part / 8) part ∙ part_long) ∙ part_rows
