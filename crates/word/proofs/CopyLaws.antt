-- A list copied to the front of another, element after element.
use Prim.Native.Nat.{ℕ, zero, suc, ◌+◌, ◌-◌, ◌<◌, ◌≤◌}
use mathlib.Core.Path.{◌≡◌, refl, ◌∙◌}
use mathlib.Core.List.{List, ◌++◌, append-nil}
use native.Mathlib.Nat.{zero-add, zero-sub, sub-zero}
use native.Mathlib.Numerals.{add-one}
use native.Mathlib.Omega.{arith}
use lib.ListN.{length, get_or, set, take, drop, replicate, length-set, drop_of_length-le}
use lib.Seq.{paste-suc, take_all}

-- so many elements are copied
pub record Copied (from before to : List ℕ) (count : ℕ) : Type 0 where
  pub most : length from ≤ length before
  pub within : count ≤ length from
  pub long : length to ≡ length before
  pub same : to ≡ take count from ++ drop count before

pub copied_none : {from before : List ℕ} → length from ≤ length before → Copied from before before 0
copied_none most = record { most = most; within = omega arith; long = refl; same = refl }

module _ {from before to : List ℕ} {count : ℕ} (c : Copied from before to count) where
  pub copied_more : count < length from → Copied from before (set to count (get_or from count 0)) (count + 1)
  copied_more inside =
      let next : set (take count from ++ drop count before) count (get_or from count 0) ≡ take (suc count) from ++ drop (suc count) before =
      simp zero-add at (paste-suc before 0 from count 0 (omega (arith, c.most)) inside) in
      record {
        most = c.most;
        within = omega arith;
        long = length-set to count (get_or from count 0) ∙ c.long;
        same = rw (c.same, add-one count) next;
      }

  pub copied_all : length from ≤ count → to ≡ from ++ drop (length from) before
  copied_all past =
      let all : count ≡ length from = omega (arith, c.within) in
      c.same ∙ rw (all, take_all (length from) from (omega arith))

  -- a list as long is copied whole
  pub copied_whole : length before ≤ length from → length from ≤ count → to ≡ from
  copied_whole full past = copied_all past ∙ rw (drop_of_length-le before full, append-nil)

-- what is left of equal elements
drop_replicate : (n count a : ℕ) → drop n (replicate count a) ≡ replicate (count - n) a
drop_replicate zero count a = rw sub-zero
drop_replicate (suc n) zero a = rw zero-sub
drop_replicate (suc n) (suc count) a = let e : suc count - suc n ≡ count - n = omega arith in rw e (drop_replicate n count a)

-- a list copied over equal elements
pub laid : (from : List ℕ) (count a : ℕ) {before to : List ℕ} → before ≡ replicate count a → to ≡ from ++ drop (length from) before → to ≡ from ++ replicate (count - length from) a
laid from count a h g = g ∙ rw (h, drop_replicate (length from) count a)
