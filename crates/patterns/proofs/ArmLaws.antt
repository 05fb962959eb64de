-- A tag of the table, case by case.
use Prim.Native.Nat.{ℕ, zero, suc, ◌<◌}
use native.Mathlib.Omega.{arith}

pub below_ten : (P : ℕ → Type 0) → P 0 → P 1 → P 2 → P 3 → P 4 → P 5 → P 6 → P 7 → P 8 → P 9 → (tag : ℕ) → tag < 10 → P tag
below_ten P a b c d e f g h i j zero less = a
below_ten P a b c d e f g h i j (suc zero) less = b
below_ten P a b c d e f g h i j (suc (suc zero)) less = c
below_ten P a b c d e f g h i j (suc (suc (suc zero))) less = d
below_ten P a b c d e f g h i j (suc (suc (suc (suc zero)))) less = e
below_ten P a b c d e f g h i j (suc (suc (suc (suc (suc zero))))) less = f
below_ten P a b c d e f g h i j (suc (suc (suc (suc (suc (suc zero)))))) less = g
below_ten P a b c d e f g h i j (suc (suc (suc (suc (suc (suc (suc zero))))))) less = h
below_ten P a b c d e f g h i j (suc (suc (suc (suc (suc (suc (suc (suc zero)))))))) less = i
below_ten P a b c d e f g h i j (suc (suc (suc (suc (suc (suc (suc (suc (suc zero))))))))) less = j
below_ten P a b c d e f g h i j (suc (suc (suc (suc (suc (suc (suc (suc (suc (suc tag)))))))))) less = absurd (omega arith)
