-- A number's digits, one way out of the code after another.
use Prim.Native.Nat.{ℕ, zero, suc, ◌+◌, ◌-◌, ◌/◌, ◌%◌, ◌^◌, ◌<◌, ◌≤◌}
use mathlib.Core.Path.{◌≡◌, refl}
use mathlib.Core.Bool.{Bool, true, false}
use mathlib.Core.List.{List, [], ◌∷◌, ◌++◌}
use native.Mathlib.Omega.{arith}
use borrow.Author.Tests.{lt-ltb, le-ltb}
use lib.ListN.{length, length-append}
use lib.Dec.{ltb}
use Rattle.text.specs.Lines.{digit, digits}
use Rattle.text.specs.Written.{Wrote}
use Rattle.text.proofs.WrittenLaws.{wrote_nothing, wrote_then}

pub last_digit : (most n : ℕ) → (most ≡ 0 → ⊥) → n < 10 → digits most n ≡ digit n ∷ []
unfolding digits
last_digit zero n h l = absurd (h refl)
last_digit (suc most) n h l = rw (lt-ltb n 10 l, digits)

pub more_digits : (most n : ℕ) → (most ≡ 0 → ⊥) → 10 ≤ n → digits most n ≡ digits (most - 1) (n / 10) ++ (digit (n % 10) ∷ [])
unfolding digits
more_digits zero n h l = absurd (h refl)
more_digits (suc most) n h l = let e : suc most - 1 ≡ most = omega arith in rw (e, le-ltb n 10 l, digits)

digit_more : (most n bound : ℕ) → length (digits most (n / 10)) ≤ bound → length (digits (suc most) n) ≤ suc bound
unfolding digits
digit_more most n bound few = go (ltb n 10)
  where
    go : (b : Bool) → length {A = ℕ} (elim b as (λ _. List ℕ) [ true ↦ digit n ∷ [] | false ↦ digits most (n / 10) ++ (digit (n % 10) ∷ []) ]) ≤ suc bound
    go true = omega arith
    go false = simp length-append (omega arith)

pub few_digits : (most n : ℕ) → length (digits most n) ≤ most
unfolding digits
few_digits zero n = omega arith
few_digits (suc most) n = digit_more most n most (few_digits most (n / 10))

pub digits_end : (most n : ℕ) {before after : List ℕ} {at next : ℕ} → Wrote (digits most n) before at after next → next ≤ at + most
digits_end most n wrote = omega (arith, wrote.place, few_digits most n)

-- a number below a power of ten
pub digits_below : (most k n : ℕ) → n < 10 ^ suc k → length (digits most n) ≤ suc k
unfolding digits
digits_below zero k n l = omega arith
digits_below (suc most) zero n l = rw (last_digit (suc most) n (λ e. omega arith) l) (omega arith)
digits_below (suc most) (suc k) n l = digit_more most n (suc k) (digits_below most k (n / 10) (omega arith))

module _ (most n : ℕ) {before : List ℕ} {at : ℕ} where
  pub no_room : most ≡ 0 → Wrote (digits most n) before at before at
  unfolding digits
  no_room e = rw e (wrote_nothing before at)

  pub put_last : {after : List ℕ} {next : ℕ} → (most ≡ 0 → ⊥) → n < 10 → Wrote (digit n ∷ []) before at after next
      → Wrote (digits most n) before at after next
  put_last some small w = rw (last_digit most n some small) w

  pub put_more : {middle after : List ℕ} {next last : ℕ} → (most ≡ 0 → ⊥) → 10 ≤ n → Wrote (digits (most - 1) (n / 10)) before at middle next
      → Wrote (digit (n % 10) ∷ []) middle next after last → Wrote (digits most n) before at after last
  put_more some large high low = rw (more_digits most n some large) (wrote_then high low)

pub ruleset ways = (no_room, put_last, put_more, arith)
