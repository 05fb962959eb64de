-- Stores are functions from numbers.
use Rattle.std.specs.Prelude.{ℕ, zero, suc, ◌+◌, cond, eqb}

module _ {A : Type 0} where
  -- σ + {k ↦ x}
  unfoldable pub put : (ℕ → A) → ℕ → A → ℕ → A
  put f k x j = cond (eqb k j) x (f j)

  -- n values from place b on
  unfoldable pub puts : (ℕ → A) → ℕ → ℕ → (ℕ → A) → ℕ → A
  puts f b zero g = f
  puts f b (suc n) g = put (puts f b n g) (b + n) (g n)
