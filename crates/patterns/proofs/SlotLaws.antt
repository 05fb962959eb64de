-- The four slots of a row.
use Prim.Native.Nat.{ℕ, suc, ◌+◌, ◌-◌, ◌<◌, ◌≤◌, max}
use mathlib.Core.Path.{◌≡◌, sym, ◌∙◌}
use mathlib.Core.Bool.{Bool, ◌&&◌, ◌||◌, and_assoc, and-true}
use mathlib.Core.List.{List, [], ◌∷◌}
use native.Mathlib.Decide.{dec_lt}
use native.Mathlib.Numerals.{add-one}
use native.Mathlib.Omega.{arith}
use borrow.Author.Tests.{lt-ltb, le-ltb, lt-leb, le-leb}
use lib.ListN.{length, get_or, take, drop, drop_of_length-le}
use lib.Seq.{drop-cons, take-nil}
use lib.Dec.{ltb, leb}
use Rattle.word.specs.Lowest.{each}
use Rattle.word.proofs.ScanLaws.{each_none, each_more, each_gather}

-- what holds of any four numbers holds of a list of four
pub four : (P : List ℕ → Type 0) → ((a b c d : ℕ) → P (a ∷ b ∷ c ∷ d ∷ [])) → (slots : List ℕ) → length slots ≡ 4 → P slots
four P h [] l = absurd (omega arith)
four P h (a ∷ []) l = absurd (omega arith)
four P h (a ∷ b ∷ []) l = absurd (omega arith)
four P h (a ∷ b ∷ c ∷ []) l = absurd (omega arith)
four P h (a ∷ b ∷ c ∷ d ∷ []) l = h a b c d
four P h (a ∷ b ∷ c ∷ d ∷ e ∷ rest) l = absurd (omega arith)

-- a loop over all slots that tests those past the first n
module _ (test : ℕ → Bool) (n : ℕ) (slots : List ℕ) (gathered : Bool) (i : ℕ) (left : each test (drop n slots) ≡ (gathered && each test (drop (max n i) slots))) where
  pub back_more : i < length slots → each test (drop n slots) ≡ ((gathered && (ltb i n || test (get_or slots i 0))) && each test (drop (max n (i + 1)) slots))
  back_more inside = go (dec_lt i n)
    where
      go : Dec (i < n) → each test (drop n slots) ≡ ((gathered && (ltb i n || test (get_or slots i 0))) && each test (drop (max n (i + 1)) slots))
      go (yes before) =
          let here : max n i ≡ n = omega arith in
          let next : max n (i + 1) ≡ n = omega arith in
          rw (lt-ltb i n before, next, and-true gathered) (rw here at left)
      go (no past) =
          let here : max n i ≡ i = omega arith in
          let next : max n (i + 1) ≡ i + 1 = omega arith in
          rw (le-ltb i n (omega arith), next) (each_gather test _ gathered slots 0 i (rw here at left) inside)

  pub back_all : length slots ≤ i → gathered ≡ each test (drop n slots)
  back_all past =
      let end : drop (max n i) slots ≡ [] = drop_of_length-le slots {i = max n i} (omega arith) in
      sym (left ∙ rw (end, each_none) (and-true gathered))

-- and one that tests the first n
module _ (test : ℕ → Bool) (n : ℕ) (slots : List ℕ) (gathered : Bool) (i : ℕ) (left : each test (take n slots) ≡ (gathered && each test (take (n - i) (drop i slots)))) where
  pub front_more : i < length slots → each test (take n slots) ≡ ((gathered && (leb n i || test (get_or slots i 0))) && each test (take (n - (i + 1)) (drop (i + 1) slots)))
  front_more inside = go (dec_lt i n)
    where
      go : Dec (i < n) → each test (take n slots) ≡ ((gathered && (leb n i || test (get_or slots i 0))) && each test (take (n - (i + 1)) (drop (i + 1) slots)))
      go (yes before) =
          let more : n - i ≡ suc (n - (i + 1)) = omega arith in
          rw (lt-leb n i before)
          (left
          ∙ rw (more, drop-cons slots i 0, each_more, add-one)
          (sym (and_assoc gathered (test (get_or slots i 0)) (each test (take (n - suc i) (drop (suc i) slots))))))
      go (no past) =
          let here : n - i ≡ 0 = omega arith in
          let next : n - (i + 1) ≡ 0 = omega arith in
          rw (le-leb n i (omega arith), next, and-true gathered) (rw here at left)

  pub front_all : length slots ≤ i → gathered ≡ each test (take n slots)
  front_all past =
      let end : drop i slots ≡ [] = drop_of_length-le slots {i = i} past in
      sym (left ∙ rw (end, take-nil, each_none) (and-true gathered))
