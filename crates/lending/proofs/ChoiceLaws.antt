-- An outcome that a test chooses.
use mathlib.Core.Path.{◌≡◌, refl}
use mathlib.Core.Bool.{Bool, true, false, cond}
use lib.Dec.{T}

module _ {A : Type 0} where
  pub where_true : (b : Bool) (one other : A) → T b → one ≡ cond b one other
  where_true true one other t = refl
  where_true false one other t = absurd t

  -- the two are the same where the test holds
  pub either_way : (b : Bool) (one other : A) → (T b → other ≡ one) → other ≡ cond b one other
  either_way true one other same = same tt
  either_way false one other same = refl
