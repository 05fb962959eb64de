-- Certificates looked through one after another.
use Prim.Native.Nat.{ℕ, ◌%◌}
use mathlib.Core.Path.{◌≡◌}
use mathlib.Core.List.{List, [], ◌∷◌}
use native.Mathlib.Omega.{arith}
use lib.Dec.{eqb}
use Rattle.std.specs.List.{list_all}
use Rattle.word.proofs.ScanLaws.{each_none, each_more}
use Rattle.stores.specs.Certificates.{spare_of}
use Rattle.bundles.specs.Bundle.{clear_of}

spare_bits : (word : ℕ) → spare_of word ≡ word % 1099511627776
unfolding spare_of
spare_bits word = omega arith

pub all_clear : (certificates : List ℕ) → list_all (λ word. eqb (word % 1099511627776) 0) certificates ≡ clear_of certificates
all_clear [] = rw each_none
all_clear (word ∷ rest) = rw (each_more, spare_bits word, all_clear rest)
