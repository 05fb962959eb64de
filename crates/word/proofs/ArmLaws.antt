-- Numbers told apart one by one, as a match does.
use Prim.Native.Nat.{ℕ, zero, suc, ◌+◌, ◌≤◌}
use mathlib.Core.Path.{◌≡◌}
use native.Mathlib.Omega.{arith}

-- what is left after so many arms from one on: a number is none of them
abbrev pub Past : ℕ → ℕ → ℕ → Type 0
Past first zero number = Unit {0}
Past first (suc count) number = Past first count number × (number ≡ first + count → ⊥)

pub past : (first count number : ℕ) → Past first count number → first ≤ number → first + count ≤ number
past first zero number others least = omega arith
past first (suc count) number others least =
    let passed : first + count ≤ number = past first count number others.0 least in
    omega (arith, others.1)
