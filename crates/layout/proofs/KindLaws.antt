-- The kinds that CREATE makes, one test after another.
use Prim.Native.Nat.{ℕ}
use mathlib.Core.Path.{◌≡◌}
use mathlib.Core.Bool.{◌||◌, or_assoc, or-false}
use lib.Dec.{eqb}
use Rattle.word.specs.Lowest.{one_of}
use Rattle.word.proofs.TestLaws.{eqb_swap}
use Rattle.theory.specs.World.{creatable}

pub creatable_is : (kind : ℕ) → ((eqb kind 2 || eqb kind 5) || eqb kind 6) ≡ creatable kind
unfolding creatable one_of
creatable_is kind = rw (eqb_swap kind 2, eqb_swap kind 5, eqb_swap kind 6, or_assoc, or-false)
