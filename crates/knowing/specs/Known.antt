-- A set of variables as a number of 64 bits, variable 0 at the most significant.
use Rattle.std.specs.Prelude.{ℕ, ◌-◌, ◌/◌, ◌%◌, ◌^◌, Bool, false, cond, eqb, ltb}
use Rattle.numbers.specs.Limits.{variables}

unfoldable pub known : ℕ → ℕ → Bool
known mask v = cond (ltb v variables) (eqb (mask / 2 ^ (63 - v) % 2) 1) false
