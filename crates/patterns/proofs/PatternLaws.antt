-- A pattern has a row at least, and a tuple no fewer than its parts.
use Prim.Native.Nat.{◌≤◌}
use native.Mathlib.Omega.{arith}
use Rattle.patterns.specs.Pattern.{Pattern, object, raw, constant, opposite, key_of, encryption, signature, hash, tuple, let_in, Parts, end, part, count, size, sizes}

pub size_positive : (p : Pattern) → 1 ≤ size p
unfolding size
size_positive (object row v) = omega arith
size_positive (raw row r) = omega arith
size_positive (constant row c b) = omega arith
size_positive (opposite row k K) = omega arith
size_positive (key_of row k a) = omega arith
size_positive (encryption row e key p) = omega arith
size_positive (signature row s key r) = omega arith
size_positive (hash row h r) = omega arith
size_positive (tuple row t ps) = omega arith
size_positive (let_in row r p₁ p₂) = omega arith

pub count_sizes : (ps : Parts) → count ps ≤ sizes ps
unfolding size count
count_sizes end = omega arith
count_sizes (part p ps) = omega (arith, size_positive p, count_sizes ps)
