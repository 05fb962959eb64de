-- Sums over numbers that each stand in a list once.
use Prim.Native.Nat.{ℕ, zero, suc, ◌+◌, ◌*◌, ◌<◌, ◌≤◌}
use mathlib.Core.Path.{◌≡◌, refl, sym, ◌∙◌, ap}
use mathlib.Core.Logic.{⊎_elim}
use mathlib.Core.Bool.{Bool, true, false, cond, ◌||◌, true≢false}
use mathlib.Core.List.{List, [], ◌∷◌, ◌++◌, append-nil}
use native.Mathlib.Nat.{zero-mul, suc-mul, one-mul, eq-or-lt_of_le}
use native.Mathlib.Omega.{arith}
use borrow.Author.Tests.{eqb-true, eq-eqb, ne_eqb}
use lib.Dec.{eqb}
use Rattle.word.specs.Lowest.{one_of}
use Rattle.word.proofs.All.{All}
use Rattle.patterns.specs.Rules.{repeats}

-- how often a number stands in a list
unfoldable pub times : ℕ → List ℕ → ℕ
times k [] = 0
times k (n ∷ rest) = cond (eqb n k) (suc (times k rest)) (times k rest)

-- a number for each element of a list, and for each number below another, added up
unfoldable pub sum_over : (ℕ → ℕ) → List ℕ → ℕ
sum_over f [] = 0
sum_over f (n ∷ rest) = f n + sum_over f rest

unfoldable pub sum_below : (ℕ → ℕ) → ℕ → ℕ
sum_below f zero = 0
sum_below f (suc n) = sum_below f n + f n

pub sum_append : (f : ℕ → ℕ) (front back : List ℕ) → sum_over f (front ++ back) ≡ sum_over f front + sum_over f back
unfolding sum_over
sum_append f [] back = omega arith
sum_append f (n ∷ front) back = rw (sum_append f front back) (omega arith)

sum_same : (f g : ℕ → ℕ) (n : ℕ) → ((k : ℕ) → k < n → f k ≡ g k) → sum_below f n ≡ sum_below g n
unfolding sum_below
sum_same f g zero same = refl
sum_same f g (suc n) same = rw (sum_same f g n λ k less. same k (omega arith), same n (omega arith))

sum_none : (f : ℕ → ℕ) (n : ℕ) → ((k : ℕ) → k < n → f k ≡ 0) → sum_below f n ≡ 0
unfolding sum_below
sum_none f zero none = refl
sum_none f (suc n) none = rw (sum_none f n λ k less. none k (omega arith), none n (omega arith))

module _ (k : ℕ) where
  pub times_here : (n : ℕ) (rest : List ℕ) → n ≡ k → times k (n ∷ rest) ≡ suc (times k rest)
  unfolding times
  times_here n rest e = rw (eq-eqb n k e)

  pub times_else : (n : ℕ) (rest : List ℕ) → (n ≡ k → ⊥) → times k (n ∷ rest) ≡ times k rest
  unfolding times
  times_else n rest e = rw (ne_eqb n k e)

-- an element more adds its number once
module _ (f : ℕ → ℕ) (x : ℕ) (rest : List ℕ) where
  abbrev before : ℕ → ℕ
  before k = times k rest * f k

  abbrev after : ℕ → ℕ
  after k = times k (x ∷ rest) * f k

  sum_here : sum_below after x + after x ≡ f x + (sum_below before x + before x)
  sum_here =
      let below = sum_same after before x λ k less. ap (λ (t : ℕ). t * f k) (times_else k x rest λ same. omega arith) in
      rw (below, times_here x x rest refl, suc-mul) (omega arith)

  sum_else : (n : ℕ) → x < n → sum_below after n ≡ f x + sum_below before n → sum_below after n + after n ≡ f x + (sum_below before n + before n)
  sum_else n less ih = rw (times_else n x rest λ same. omega arith, ih) (omega arith)

  sum_more : (n : ℕ) → x < n → sum_below after n ≡ f x + sum_below before n
  unfolding sum_below
  sum_more zero less = absurd (omega arith)
  sum_more (suc n) less =
      ⊎_elim (λ (e : x ≡ n). rw (← e) sum_here) (λ (l : x < n). sum_else n l (sum_more n l)) (eq-or-lt_of_le (let most : x ≤ n = omega arith in most))

sum_times : (f : ℕ → ℕ) (list : List ℕ) (n : ℕ) → All (λ k. k < n) list → sum_over f list ≡ sum_below (λ k. times k list * f k) n
unfolding sum_over times
sum_times f [] n below = sym (sum_none _ n λ k less. zero-mul (f k))
sum_times f (x ∷ rest) n below = rw (sum_times f rest n below.1) (sym (sum_more f x rest n below.0))

-- numbers below another that each stand in a list once
pub sum_once : (f : ℕ → ℕ) (list : List ℕ) (n : ℕ) → All (λ k. k < n) list → ((k : ℕ) → k < n → times k list ≡ 1) → sum_over f list ≡ sum_below f n
sum_once f list n below once = sum_times f list n below ∙ sum_same _ f n λ k less. rw (once k less, one-mul)

pub or_left : (a b : Bool) → (a || b) ≡ false → a ≡ false
or_left true b e = e
or_left false b e = refl

or_right : (a b : Bool) → (a || b) ≡ false → b ≡ false
or_right true b e = absurd (true≢false e)
or_right false b e = e

count_more : (b : Bool) (m n : ℕ) → cond b (suc (m + n)) (m + n) ≡ cond b (suc m) m + n
count_more true m n = omega arith
count_more false m n = refl

count_none : (b c : Bool) (n : ℕ) → (b || c) ≡ false → (c ≡ false → n ≡ 0) → cond b (suc n) n ≡ 0
count_none true c n none rest = absurd (true≢false none)
count_none false c n none rest = rest none

count_some : (b c : Bool) (n : ℕ) → (b || c) ≡ true → (c ≡ true → 1 ≤ n) → 1 ≤ cond b (suc n) n
count_some true c n some rest = omega arith
count_some false c n some rest = rest some

module _ (k : ℕ) where
  pub times_append : (front back : List ℕ) → times k (front ++ back) ≡ times k front + times k back
  unfolding times
  times_append [] back = omega arith
  times_append (n ∷ front) back = rw (times_append front back) (count_more (eqb n k) (times k front) (times k back))

  pub times_middle : (n : ℕ) (front back : List ℕ) → times k ((n ∷ front) ++ back) ≡ times k (front ++ (n ∷ back))
  times_middle n front back =
      omega (arith, times_append (n ∷ front) back, times_append (n ∷ []) front, times_append front (n ∷ back), times_append (n ∷ []) back)

  pub times_none : (list : List ℕ) → one_of list k ≡ false → times k list ≡ 0
  unfolding times one_of
  times_none [] none = refl
  times_none (n ∷ rest) none = count_none (eqb n k) (one_of rest k) (times k rest) none (times_none rest)

  pub times_some : (list : List ℕ) → one_of list k ≡ true → 1 ≤ times k list
  unfolding times one_of
  times_some [] some = absurd (true≢false (sym some))
  times_some (n ∷ rest) some = count_some (eqb n k) (one_of rest k) (times k rest) some (times_some rest)

  -- a child that is not taken yet
  fresh_one : (child : ℕ) (taken : List ℕ) → one_of taken child ≡ false → times k taken ≤ 1 → times k (child ∷ taken) ≤ 1
  unfolding times
  fresh_one child taken none once = go (eqb child k) refl
    where
      go : (b : Bool) → eqb child k ≡ b → cond b (suc (times k taken)) (times k taken) ≤ 1
      go true e = let same = eqb-true child k e in let zero : times k taken ≡ 0 = times_none taken (rw (← same) none) in omega arith
      go false e = once

-- children that are not taken yet are taken once
pub fresh_all : (taken children : List ℕ) → repeats taken children ≡ false → ((k : ℕ) → times k taken ≤ 1) → (k : ℕ) → times k (taken ++ children) ≤ 1
unfolding repeats
fresh_all taken [] fresh once k = rw append-nil (once k)
fresh_all taken (child ∷ rest) fresh once k =
    let own : one_of taken child ≡ false = or_left (one_of taken child) (repeats (child ∷ taken) rest) fresh in
    let others : repeats (child ∷ taken) rest ≡ false = or_right (one_of taken child) (repeats (child ∷ taken) rest) fresh in
    let all = fresh_all (child ∷ taken) rest others (λ j. fresh_one j child taken own (once j)) k in
    rw (times_middle k child taken rest) at all
