-- How a loop goes through `lowest` and `each`, and which tests give the same answer.
use Prim.Native.Nat.{ℕ, suc, ◌+◌, ◌<◌, ◌≤◌}
use mathlib.Core.Path.{◌≡◌, refl, sym, ◌∙◌}
use mathlib.Core.Logic.{◌⊎◌, inl, inr}
use mathlib.Core.Bool.{Bool, true, false, ◌&&◌, and_assoc, and-true}
use Rattle.std.specs.Prelude.{Option, None, Some}
use Rattle.std.specs.List.{list_all}
use mathlib.Core.List.{List, [], ◌∷◌}
use native.Mathlib.Numerals.{add-one}
use native.Mathlib.Omega.{arith}
use borrow.Author.Tests.{ltb-true, ltb-false}
use lib.ListN.{length, get_or, drop, drop_of_length-le}
use lib.Seq.{drop-cons}
use lib.Dec.{ltb}
use Rattle.word.specs.Lowest.{lowest_from, lowest, each}
use Rattle.word.proofs.LowestLaws.{lowest_none, lowest_some}

pub lt_or_ge : (m n : ℕ) → (m < n) ⊎ (n ≤ m)
lt_or_ge m n = go (ltb m n) refl
  where
    go : (b : Bool) → ltb m n ≡ b → (m < n) ⊎ (n ≤ m)
    go true e = inl (ltb-true m n e)
    go false e = inr (ltb-false m n e)

-- an answer of the code, read back
pub placed_at : (answer : Option ℕ) {found : Option ℕ} {place : ℕ} → found ≡ answer → found ≡ Some place → answer ≡ Some place
placed_at None says e = let clash : ◌≡◌ {A = ℕ} 0 1 = cc in absurd (omega arith)
placed_at (Some place) says e = cc

pub placed_nowhere : (answer : Option ℕ) {found : Option ℕ} → found ≡ answer → found ≡ None → answer ≡ None
placed_nowhere None says e = refl
placed_nowhere (Some place) says e = let clash : ◌≡◌ {A = ℕ} 0 1 = cc in absurd (omega arith)

module _ {A : Type 0} (test : ℕ → A → Bool) where
  lowest_hit : (i : ℕ) (a : A) (rest : List A) → test i a ≡ true → lowest_from i test (a ∷ rest) ≡ Some i
  unfolding lowest_from
  lowest_hit i a rest h = rw (h, lowest_from)

  lowest_miss : (i : ℕ) (a : A) (rest : List A) → test i a ≡ false → lowest_from i test (a ∷ rest) ≡ lowest_from (suc i) test rest
  unfolding lowest_from
  lowest_miss i a rest h = rw (h, lowest_from)

  lowest_end : (i : ℕ) → lowest_from i test [] ≡ None
  unfolding lowest_from
  lowest_end i = refl

  -- nothing is found before a place: what is left gives the answer
  abbrev pub Left : List A → ℕ → Type 0
  Left all i = lowest test all ≡ lowest_from i test (drop i all)

  -- what is left may give the answer of any search
  module _ (all : List A) (default : A) (i : ℕ) {answer : Option ℕ} (left : answer ≡ lowest_from i test (drop i all)) where
    pub scan_hit : i < length all → test i (get_or all i default) ≡ true → answer ≡ Some i
    scan_hit inside h = left ∙ rw (drop-cons all i default) (lowest_hit i (get_or all i default) (drop (suc i) all) h)

    pub scan_miss : i < length all → test i (get_or all i default) ≡ false → answer ≡ lowest_from (i + 1) test (drop (i + 1) all)
    scan_miss inside h = left ∙ rw (add-one, drop-cons all i default) (lowest_miss i (get_or all i default) (drop (suc i) all) h)

    pub scan_end : length all ≤ i → answer ≡ None
    scan_end past = left ∙ rw (drop_of_length-le all {i = i} past) (lowest_end i)

-- two tests that agree at each place
module _ {A B : Type 0} (test : ℕ → A → Bool) (other : ℕ → B → Bool) (all : List A) (others : List B) (a : A) (b : B) where
  pub lowest_same : length all ≡ length others → ((i : ℕ) → i < length all → test i (get_or all i a) ≡ other i (get_or others i b)) → lowest test all ≡ lowest other others
  lowest_same long same = go (lowest test all) refl
    where
      go : (o : Option ℕ) → lowest test all ≡ o → lowest test all ≡ lowest other others
      go None e =
          e ∙ sym ((lowest_none other b others).1 λ i l. let l' : i < length all = omega arith in rw (← (same i l')) ((lowest_none test a all).0 e i l'))
      go (Some i) e =
          let h = (lowest_some test a all i).0 e in
          let inside : i < length all = h.inside in
          e
          ∙ sym
          ((lowest_some other b others i).1
          (record {
            inside = omega arith;
            holds = rw (← (same i inside)) h.holds;
            earlier = λ j l. rw (← (same j (omega arith))) (h.earlier j l);
          }))

-- a loop over all elements: what is left gives the answer
module _ {A : Type 0} (test : A → Bool) where
  pub each_none : each test [] ≡ true
  unfolding each
  each_none = refl

  pub each_more : (a : A) (rest : List A) → each test (a ∷ rest) ≡ (test a && each test rest)
  unfolding each
  each_more a rest = go (test a)
    where
      go : (b : Bool) → elim b [ true ↦ each test rest | false ↦ false ] ≡ (b && each test rest)
      go true = refl
      go false = refl

  -- the library's word for it
  pub all_each : (all : List A) → list_all test all ≡ each test all
  all_each [] = sym each_none
  all_each (a ∷ rest) = rw (each_more, all_each rest)

  module _ (whole : Bool) (all : List A) (default : A) (i : ℕ) (left : whole ≡ each test (drop i all)) where
    each_here : i < length all → whole ≡ (test (get_or all i default) && each test (drop (suc i) all))
    each_here inside = left ∙ rw (drop-cons all i default, each_more)

    pub each_stop : i < length all → test (get_or all i default) ≡ false → whole ≡ false
    each_stop inside h = each_here inside ∙ rw h

    pub each_next : i < length all → test (get_or all i default) ≡ true → whole ≡ each test (drop (i + 1) all)
    each_next inside h = each_here inside ∙ rw (h, add-one)

    pub each_end : length all ≤ i → whole ≡ true
    each_end past = left ∙ rw (drop_of_length-le all {i = i} past, each_none)

  -- a loop that does not stop: what is gathered so far and what is left give the answer
  module _ (whole gathered : Bool) (all : List A) (default : A) (i : ℕ) (left : whole ≡ (gathered && each test (drop i all))) where
    pub each_gather : i < length all → whole ≡ ((gathered && test (get_or all i default)) && each test (drop (i + 1) all))
    each_gather inside = left ∙ rw (drop-cons all i default, each_more, add-one) (sym (and_assoc gathered (test (get_or all i default)) (each test (drop (suc i) all))))

    pub each_gathered : length all ≤ i → gathered ≡ whole
    each_gathered past = sym (left ∙ rw (drop_of_length-le all {i = i} past, each_none) (and-true gathered))
