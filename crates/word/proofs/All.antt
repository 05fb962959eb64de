-- Laws of a property of each element of a list.
use mathlib.Core.List.{List, [], ◌∷◌, ◌++◌}
use Prim.Native.Nat.{ℕ, zero, suc, ◌<◌}
use native.Mathlib.Omega.{arith}
use lib.ListN.{length, get_or}
pub use Rattle.word.specs.All.{All}

module _ {A : Type 0} (P : A → Type 0) where
  pub all_at : (all : List A) (default : A) → All P all → (i : ℕ) → i < length all → P (get_or all i default)
  all_at [] default h i l = absurd (omega arith)
  all_at (a ∷ rest) default h zero l = h.0
  all_at (a ∷ rest) default h (suc i) l = all_at rest default h.1 i (omega arith)

  -- also past the end, where the default has it
  pub all_get_d : (all : List A) (default : A) → All P all → P default → (i : ℕ) → P (get_or all i default)
  all_get_d [] default h d i = d
  all_get_d (a ∷ rest) default h d zero = h.0
  all_get_d (a ∷ rest) default h d (suc i) = all_get_d rest default h.1 d i

  pub all_append : (front back : List A) → All P front → All P back → All P (front ++ back)
  all_append [] back f b = b
  all_append (a ∷ front) back f b = (f.0, all_append front back f.1 b)

  pub at_all : (all : List A) (default : A) → ((i : ℕ) → i < length all → P (get_or all i default)) → All P all
  at_all [] default h = tt
  at_all (a ∷ rest) default h = (h zero (omega arith), at_all rest default λ i l. h (suc i) (omega arith))

module _ {A : Type 0} where
  -- what follows from a property, element by element
  pub all_map : {P Q : A → Type 0} (all : List A) → ((a : A) → P a → Q a) → All P all → All Q all
  all_map [] f h = tt
  all_map (a ∷ rest) f h = (f a h.0, all_map rest f h.1)
