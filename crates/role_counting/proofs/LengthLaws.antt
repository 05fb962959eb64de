-- The lengths of a role that fits.
use mathlib.Core.Path.{◌≡◌}
use mathlib.Core.Bool.{Bool, ◌&&◌}
use Prim.Native.Nat.{ℕ, ◌/◌, ◌%◌, ◌≤◌}
use lib.Dec.{T, eqb, leb}
use Rattle.word.proofs.TestLaws.{both, equals, at_most}

-- the lengths of a role
abbrev pub role_lengths : ℕ → ℕ → ℕ → ℕ → ℕ → Bool
role_lengths counts kinds objects named ends =
    eqb (counts % 2) 0 && leb 1 (counts / 2) && leb (counts / 2) 16 && eqb kinds 64 && eqb objects 64 && eqb named 64 && eqb ends (counts / 2)

pub record RoleWithin (counts kinds objects named ends : ℕ) : Type 0 where
  pub even : counts % 2 ≡ 0
  pub few : counts / 2 ≤ 16
  pub objects_length : objects ≡ 64
  pub named_length : named ≡ 64
  pub ends_length : ends ≡ counts / 2

pub role_within : (counts kinds objects named ends : ℕ)
    → T (role_lengths counts kinds objects named ends) → RoleWithin counts kinds objects named ends
role_within counts kinds objects named ends =
    simp (both, equals, at_most) λ h. record {
      even = h.0.0.0.0.0.0;
      few = h.0.0.0.0.1;
      objects_length = h.0.0.1;
      named_length = h.0.1;
      ends_length = h.1;
    }
