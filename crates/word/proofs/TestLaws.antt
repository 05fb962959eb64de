-- Tests as propositions.
use mathlib.Core.Path.{◌≡◌, refl, sym}
use mathlib.Core.Logic.Iff
use mathlib.Core.Logic.{◌↔◌, ◌⊎◌, inl, inr}
use mathlib.Core.Bool.{Bool, true, false, cond, not, ◌&&◌, ◌||◌}
use Prim.Native.Nat.{ℕ, ◌<◌, ◌≤◌}
use lib.Dec.{T, T_not, not_T, eqb, leb, ltb, eqb→eq, eqb_refl, ltb→lt, lt→ltb, leb→le, le→leb, nltb→le}
use lib.Arith.{le→nltb}
use borrow.Author.Tests.{eqb-true, eqb-false, eq-eqb, ne_eqb}

-- two tests at once, and one of two
pub both : (a b : Bool) → T (a && b) ↔ (T a × T b)
both true b = (λ h. (tt, h), λ h. h.1)
both false b = (λ h. absurd h, λ h. absurd h.0)

pub either : (a b : Bool) → T (a || b) ↔ (T a ⊎ T b)
either true b = (λ h. inl tt, λ h. tt)
either false b = (λ h. inr h, elim [ inl n ↦ absurd n | inr h ↦ h ])

-- a test that holds where another does
pub implied : (a b : Bool) → T (not a || b) ↔ (T a → T b)
implied true b = (λ h _. h, λ h. h tt)
implied false b = (λ _ n. absurd n, λ _. tt)

-- a test that is chosen by another
pub chosen : (a b c : Bool) → T (cond a b c) ↔ ((T a → T b) × (T (not a) → T c))
chosen true b c = (λ h. (λ _. h, λ n. absurd n), λ h. h.0 tt)
chosen false b c = (λ h. (λ n. absurd n, λ _. h), λ h. h.1 tt)

pub fails : (a : Bool) → T (not a) ↔ (T a → ⊥)
fails a = (T_not a, not_T a)

pub twice : (a : Bool) → T (not (not a)) ↔ T a
twice true = Iff.rfl
twice false = Iff.rfl

-- a test that is not refuted holds
pub stable : (a : Bool) → ((T a → ⊥) → ⊥) → T a
stable true h = tt
stable false h = absurd (h λ t. t)

-- the value of a test
pub is_true : (a : Bool) → T a → a ≡ true
is_true true h = refl
is_true false h = absurd h

pub is_false : (a : Bool) → (T a → ⊥) → a ≡ false
is_false true h = absurd (h tt)
is_false false h = refl

-- tests of numbers
pub equals : (m n : ℕ) → T (eqb m n) ↔ (m ≡ n)
equals m n = (eqb→eq m n, λ e. rw e (eqb_refl n))

pub eqb_swap : (m n : ℕ) → eqb m n ≡ eqb n m
eqb_swap m n = go (eqb m n) refl
  where
    go : (b : Bool) → eqb m n ≡ b → b ≡ eqb n m
    go true e = sym (eq-eqb n m (sym (eqb-true m n e)))
    go false e = sym (ne_eqb n m λ same. eqb-false m n e (sym same))

pub is_below : (m n : ℕ) → T (ltb m n) ↔ (m < n)
is_below m n = (ltb→lt m n, lt→ltb m n)

pub not_below : (m n : ℕ) → T (not (ltb m n)) ↔ (n ≤ m)
not_below m n = (nltb→le m n, le→nltb m n)

pub at_most : (m n : ℕ) → T (leb m n) ↔ (m ≤ n)
at_most m n = (leb→le m n, le→leb m n)
