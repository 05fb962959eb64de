-- A variable is added to a set of 64 bits by adding its bit.
use Prim.Native.Nat.{ℕ, suc, ◌+◌, ◌-◌, ◌*◌, ◌/◌, ◌%◌, ◌^◌, ◌<◌}
use mathlib.Core.Path.{◌≡◌, refl, subst, fun_ext}
use mathlib.Core.Bool.{true, false}
use native.Mathlib.Omega.{arith}
use native.Mathlib.Decide.{ℕ_discrete, dec_lt}
use native.Mathlib.Nat.{one-mul, mod-eq_of_lt, pow-suc, add-div_right, add-mul-div_right, add-mul-mod_self_right, div-lt_iff_lt-mul}
use lib.Dec.{eqb}
use lib.Pow.{pow_pos, pow-lt, pow-add, shr-shr, shr_lt}
use borrow.Author.Tests.{lt-ltb, le-ltb, eq-eqb, ne_eqb, eqb-false}
use Rattle.theory.specs.Store.{put}
use Rattle.knowing.specs.Known.{known}

-- bit k of n is clear: with it added, that bit is set and every other stays
module _ (n k : ℕ) (clear : n / 2 ^ k % 2 ≡ 0) where
  bit_same : (n + 2 ^ k) / 2 ^ k % 2 ≡ 1
  bit_same = rw (add-div_right n (pow_pos k)) (omega arith)

  bit_below : (i d : ℕ) → k ≡ suc d + i → (n + 2 ^ k) / 2 ^ i % 2 ≡ n / 2 ^ i % 2
  bit_below i d h =
      rw (h, pow-add 2 (suc d) i, add-mul-div_right n (2 ^ suc d) (pow_pos i), pow-suc 2 d) (add-mul-mod_self_right (n / 2 ^ i) (2 ^ d) 2)

  upper : (n + 2 ^ k) / 2 ^ (k + 1) ≡ n / 2 ^ (k + 1)
  upper =
      let e = shr-shr (n + 2 ^ k) k 1 in
      let f = shr-shr n k 1 in
      let g = add-div_right n (pow_pos k) in
      omega arith

  bit_above : (i d : ℕ) → i ≡ k + 1 + d → (n + 2 ^ k) / 2 ^ i % 2 ≡ n / 2 ^ i % 2
  bit_above i d h = rw (h, ← shr-shr (n + 2 ^ k) (k + 1) d, ← shr-shr n (k + 1) d, upper)

  bit_other : (i : ℕ) → (i ≡ k → ⊥) → (n + 2 ^ k) / 2 ^ i % 2 ≡ n / 2 ^ i % 2
  bit_other i h = by (dec_lt i k)
    where
      by : Dec (i < k) → (n + 2 ^ k) / 2 ^ i % 2 ≡ n / 2 ^ i % 2
      by (yes l) = bit_below i (k - i - 1) (omega arith)
      by (no g) = bit_above i (i - k - 1) (omega (arith, g, h))

  bit_fits : (j : ℕ) → k < j → n < 2 ^ j → n + 2 ^ k < 2 ^ j
  bit_fits j h g =
      let e : j ≡ (j - k - 1) + (k + 1) = omega arith in
      let l : n < 2 ^ ((j - k - 1) + (k + 1)) = subst (λ (m : ℕ). n < 2 ^ m) e g in
      let m : n / 2 ^ (k + 1) < 2 ^ (j - k - 1) = shr_lt (j - k - 1) (k + 1) l in
      rw (e, pow-add 2 (j - k - 1) (k + 1)) ((div-lt_iff_lt-mul (pow_pos (k + 1))).0 (rw upper m))

module _ (mask v : ℕ) (low : v < 64) (unknown : known mask v ≡ false) where
  clear : mask / 2 ^ (63 - v) % 2 ≡ 0
  unfolding known
  clear =
      let e : eqb (mask / 2 ^ (63 - v) % 2) 1 ≡ false = rw (lt-ltb v 64 low) at unknown in
      omega (arith, eqb-false (mask / 2 ^ (63 - v) % 2) 1 e)

  known_at : (j : ℕ) → known (mask + 2 ^ (63 - v)) j ≡ put (known mask) v true j
  unfolding known put
  known_at j = by (dec_lt j 64) (ℕ_discrete v j)
    where
      by : Dec (j < 64) → Dec (v ≡ j) → known (mask + 2 ^ (63 - v)) j ≡ put (known mask) v true j
      by (yes l) (yes e) = rw (← e) (simp (lt-ltb v 64 low, bit_same mask (63 - v) clear, eq-eqb v v refl))
      by (yes l) (no n) =
          simp (lt-ltb j 64 l, ne_eqb v j n, bit_other mask (63 - v) clear (63 - j) (λ e. n (omega arith)))
      by (no g) d = simp (le-ltb j 64 (omega (arith, g)), ne_eqb v j (λ e. g (omega arith)))

  -- the bit as the code has it
  the_bit : 1 * 2 ^ (63 - v) % 2 ^ 64 ≡ 2 ^ (63 - v)
  the_bit = rw one-mul (mod-eq_of_lt (pow-lt {i = 63 - v} {j = 64} (omega arith)))

  pub known_with : known (mask + 1 * 2 ^ (63 - v) % 2 ^ 64) ≡ put (known mask) v true
  known_with = rw the_bit (fun_ext known_at)

  pub known_fits : mask < 2 ^ 64 → mask + 1 * 2 ^ (63 - v) % 2 ^ 64 < 2 ^ 64
  known_fits h = rw the_bit (bit_fits mask (63 - v) clear 64 (omega arith) h)
