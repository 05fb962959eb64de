-- The lowest place at which a test holds.
use Rattle.std.specs.Prelude.{ℕ, suc, ◌<◌, Bool, true, false, ◌||◌, List, [], ◌∷◌, eqb}
use Rattle.std.specs.Prelude.{Option, None, Some}

module _ {A : Type 0} where
  -- the lowest from a place on, in what is left of a list
  unfoldable pub lowest_from : ℕ → (ℕ → A → Bool) → List A → Option ℕ
  lowest_from place test [] = None
  lowest_from place test (a ∷ rest) = elim (test place a) [ true ↦ Some place | false ↦ lowest_from (suc place) test rest ]

  abbrev pub lowest : (ℕ → A → Bool) → List A → Option ℕ
  lowest test all = lowest_from 0 test all

  -- a test holds of each element
  unfoldable pub each : (A → Bool) → List A → Bool
  each test [] = true
  each test (a ∷ rest) = elim (test a) [ true ↦ each test rest | false ↦ false ]

-- the lowest number below a count that has a property
pub record LowestWith (P : ℕ → Type 0) (count i : ℕ) : Type 0 where
  pub inside : i < count
  pub holds : P i
  pub earlier : (j : ℕ) → j < i → P j → ⊥

-- no number below a count has it
abbrev pub NoneWith : (ℕ → Type 0) → ℕ → Type 0
NoneWith P count = (i : ℕ) → i < count → P i → ⊥

-- the lowest number below a count that is not good: all before it are
pub record LowestBad (Good : ℕ → Type 0) (count i : ℕ) : Type 0 where
  pub inside : i < count
  pub bad : Good i → ⊥
  pub earlier : (j : ℕ) → j < i → Good j

-- all numbers below a count are good
abbrev pub AllGood : (ℕ → Type 0) → ℕ → Type 0
AllGood Good count = (i : ℕ) → i < count → Good i

-- a number is one of several
unfoldable pub one_of : List ℕ → ℕ → Bool
one_of [] number = false
one_of (n ∷ rest) number = eqb n number || one_of rest number
