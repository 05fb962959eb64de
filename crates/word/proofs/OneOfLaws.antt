-- A number is one of several: looked for from the front, or between two bounds.
use Prim.Native.Nat.{ℕ, zero, suc, ◌+◌, ◌<◌, ◌≤◌}
use mathlib.Core.Bool.{true, false, ◌||◌, or-false}
use mathlib.Core.Path.{◌≡◌, refl, sym, ◌∙◌}
use mathlib.Core.Logic.{⊎_elim}
use mathlib.Core.List.{List, [], ◌∷◌}
use native.Mathlib.Decide.{dec_lt}
use native.Mathlib.Nat.{eq-or-lt_of_le}
use native.Mathlib.Omega.{arith}
use borrow.Author.Tests.{lt-ltb, le-ltb, eq-eqb, ne_eqb}
use lib.Dec.{ltb, eqb}
use Rattle.word.specs.Lowest.{one_of}
use Rattle.word.proofs.TestLaws.{eqb_swap}

pub one_here : (n : ℕ) (rest : List ℕ) (number : ℕ) → number ≡ n → one_of (n ∷ rest) number ≡ true
unfolding one_of
one_here n rest number is = rw (eq-eqb n number (sym is))

pub one_later : (n : ℕ) (rest : List ℕ) (number : ℕ) → (number ≡ n → ⊥) → one_of (n ∷ rest) number ≡ one_of rest number
unfolding one_of
one_later n rest number differs = rw (ne_eqb n number (λ is. differs (sym is)))

pub one_last : (n number : ℕ) → eqb number n ≡ one_of (n ∷ []) number
unfolding one_of
one_last n number = rw (eqb_swap number n, or-false)

pub one_of_pair : (n a b : ℕ) → (eqb n a || eqb n b) ≡ one_of (a ∷ b ∷ []) n
unfolding one_of
one_of_pair n a b = rw (eqb_swap n a, eqb_swap n b, or-false)

-- so many numbers from one on
abbrev pub from : ℕ → ℕ → List ℕ
from first zero = []
from first (suc count) = first ∷ from (suc first) count

one_within : (first count number : ℕ) → first ≤ number → number < first + count → one_of (from first count) number ≡ true
one_within first zero number least most = absurd (omega arith)
one_within first (suc count) number least most =
    ⊎_elim
    (λ is. one_here first (from (suc first) count) number (sym is))
    (λ more. one_later first (from (suc first) count) number (λ is. omega arith) ∙ one_within (suc first) count number more (omega arith))
    (eq-or-lt_of_le least)

pub one_outside : (first count number : ℕ) → ((k : ℕ) → first ≤ k → k < first + count → number ≡ k → ⊥) → one_of (from first count) number ≡ false
unfolding one_of
one_outside first zero number differs = refl
one_outside first (suc count) number differs =
    one_later first (from (suc first) count) number (differs first (omega arith) (omega arith))
    ∙ one_outside (suc first) count number (λ k least most. differs k (omega arith) (omega arith))

-- of those the first is passed
pub one_up_to : (first count number : ℕ) → first ≤ number → ltb number (first + count) ≡ one_of (from first count) number
one_up_to first count number least = go (dec_lt number (first + count))
  where
    go : Dec (number < first + count) → ltb number (first + count) ≡ one_of (from first count) number
    go (yes most) = rw (lt-ltb number (first + count) most, one_within first count number least most)
    go (no past) =
        rw (le-ltb number (first + count) (omega arith), one_outside first count number (λ k least most is. omega arith))
