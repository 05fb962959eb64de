-- Stores after a write.
use Prim.Native.Nat.{ℕ, zero, suc, ◌+◌, ◌<◌}
use mathlib.Core.Path.{◌≡◌, refl, sym, ◌∙◌, ap, fun_ext}
use mathlib.Core.Bool.{Bool, true, false, cond}
use Rattle.std.specs.Prelude.{Option, None, Some}
use native.Mathlib.Decide.{ℕ_discrete}
use native.Mathlib.Omega.{arith}
use borrow.Author.Tests.{eq-eqb, ne_eqb}
use lib.Dec.{T, eqb, eqb→eq}
use Rattle.theory.specs.Outcome.{is_some}
use Rattle.theory.specs.Store.{put, puts}

module _ {A : Type 0} where
  pub put_same : (f : ℕ → A) (k : ℕ) (x : A) → put f k x k ≡ x
  unfolding put
  put_same f k x = rw (eq-eqb k k refl)

  pub put_other : (f : ℕ → A) (k j : ℕ) (x : A) → (k ≡ j → ⊥) → put f k x j ≡ f j
  unfolding put
  put_other f k j x other = rw (ne_eqb k j other)

  pub put_back : (f : ℕ → A) {k j : ℕ} {y : A} (x : A) → (k ≡ j → ⊥) → put f k x j ≡ y → f j ≡ y
  put_back f x n e = sym (put_other f _ _ x n) ∙ e

  -- two different places may be written in either order
  pub put_comm : (f : ℕ → A) (k j : ℕ) (x y : A) → (k ≡ j → ⊥) → put (put f k x) j y ≡ put (put f j y) k x
  unfolding put
  put_comm f k j x y n = fun_ext λ i. go i (eqb k i) (eqb j i) (eqb→eq k i) (eqb→eq j i)
    where
      go : (i : ℕ) (a b : Bool) → (T a → k ≡ i) → (T b → j ≡ i) → cond b y (cond a x (f i)) ≡ cond a x (cond b y (f i))
      go i true true p q = absurd (n (p tt ∙ sym (q tt)))
      go i true false p q = refl
      go i false b p q = refl

  pub puts_below : (f : ℕ → A) (b n : ℕ) (g : ℕ → A) (j : ℕ) → j < b → puts f b n g j ≡ f j
  unfolding puts
  puts_below f b zero g j h = refl
  puts_below f b (suc n) g j h = put_other (puts f b n g) (b + n) j (g n) (λ e. omega arith) ∙ puts_below f b n g j h

  pub puts_at : (f : ℕ → A) (b n : ℕ) (g : ℕ → A) (i : ℕ) → i < n → puts f b n g (b + i) ≡ g i
  unfolding puts
  puts_at f b zero g i h = absurd (omega arith)
  puts_at f b (suc n) g i h = go (ℕ_discrete i n) (puts_at f b n g i)
    where
      go : Dec (i ≡ n) → (i < n → puts f b n g (b + i) ≡ g i) → put (puts f b n g) (b + n) (g n) (b + i) ≡ g i
      go (yes e) before = rw e (put_same (puts f b n g) (b + n) (g n))
      go (no u) before = put_other (puts f b n g) (b + n) (b + i) (g n) (λ e. omega (arith, u)) ∙ before (omega (arith, u))

module _ {A : Type 0} where
  -- what is known to be set, after a write
  pub put_known : (known : ℕ → Bool) (store : ℕ → Option A) (v : ℕ) (m : A) → ((w : ℕ) → known w ≡ is_some (store w)) → (w : ℕ)
      → put known v true w ≡ is_some (put store v (Some m) w)
  unfolding put
  put_known known store v m h w = go (eqb v w)
    where
      go : (test : Bool) → cond test true (known w) ≡ is_some (cond test (Some m) (store w))
      go true = refl
      go false = h w

  -- a write to an unset cell leaves the others
  pub put_held : (store : ℕ → Option A) (v w : ℕ) (m a : A) → store v ≡ None → store w ≡ Some a → put store v (Some m) w ≡ Some a
  put_held store v w m a unset p = put_other store v w (Some m) (λ e. clash (ap store e)) ∙ p
    where
      clash : store v ≡ store w → ⊥
      clash e = let z : ◌≡◌ {A = ℕ} 0 1 = cc in omega arith
