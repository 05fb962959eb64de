-- Tests over lists, as propositions: of each element, of one of several numbers, and the lowest place at which one holds.
use mathlib.Core.Path.{◌≡◌, refl, ◌∙◌, ap}
use mathlib.Core.Logic.Iff
use mathlib.Core.Logic.{◌↔◌, ◌⊎◌, inl, inr}
use mathlib.Core.Bool.{Bool, true, false, not}
use Rattle.std.specs.Prelude.{Option, None, Some}
use mathlib.Core.List.{List, [], ◌∷◌}
use Prim.Native.Nat.{ℕ, zero, suc, ◌+◌, ◌<◌}
use native.Mathlib.Nat.{zero-add, add-zero, add-suc, suc-add}
use native.Mathlib.Omega.{arith}
use lib.ListN.{length, get_or}
use lib.Dec.{T, T_not, not_T, eqb, eqb→eq, eqb_refl}
use Rattle.word.proofs.All.{All, at_all}
use Rattle.word.proofs.TestLaws.{either, stable}
use Rattle.word.specs.Lowest.{lowest_from, lowest, each, LowestWith, NoneWith, LowestBad, AllGood, one_of}

-- a test of each element, where the test says a proposition
module _ {A : Type 0} (test : A → Bool) (P : A → Type 0) (says : (a : A) → T (test a) ↔ P a) where
  pub each_all : (all : List A) → T (each test all) ↔ All P all
  unfolding each
  each_all [] = (λ h. tt, λ h. tt)
  each_all (a ∷ rest) = go (test a) (says a) (each_all rest)
    where
      go : (b : Bool) → T b ↔ P a → T (each test rest) ↔ All P rest → T (elim b [ true ↦ each test rest | false ↦ false ]) ↔ (P a × All P rest)
      go true here there = (λ h. (here.0 tt, there.0 h), λ h. there.1 h.1)
      go false here there = (λ h. absurd h, λ h. absurd (here.1 h.0))

-- what holds of each of several numbers holds of one of them
pub one_all : (P : ℕ → Type 0) (all : List ℕ) (n : ℕ) → All P all → T (one_of all n) → P n
unfolding one_of
one_all P [] n h one = absurd one
one_all P (k ∷ rest) n h one =
    elim ((either (eqb k n) (one_of rest n)).0 one) [ inl e ↦ rw (← (eqb→eq k n e)) h.0 | inr o ↦ one_all P rest n h.1 o ]

pub one_at : (all : List ℕ) (i : ℕ) → i < length all → T (one_of all (get_or all i 0))
unfolding one_of
one_at [] i l = absurd (omega arith)
one_at (k ∷ rest) zero l = (either (eqb k k) (one_of rest k)).1 (inl (eqb_refl k))
one_at (k ∷ rest) (suc i) l = (either (eqb k (get_or rest i 0)) (one_of rest (get_or rest i 0))).1 (inr (one_at rest i (omega arith)))

-- one of several numbers stands at some place
pub one_of_lem : (all : List ℕ) (n : ℕ) → T (one_of all n) ↔ ((i : ℕ) × (i < length all) × (get_or all i 0 ≡ n))
one_of_lem all n = (
  one_all (λ k. (i : ℕ) × (i < length all) × (get_or all i 0 ≡ k)) all n (at_all _ all 0 λ i l. (i, l, refl)),
  λ h. rw (← h.2) (one_at all h.0 h.1),
)

pub one_of_two : (a b n : ℕ) → T (one_of (a ∷ b ∷ []) n) ↔ ((n ≡ a) ⊎ (n ≡ b))
one_of_two a b n = (
  one_all (λ k. (k ≡ a) ⊎ (k ≡ b)) (a ∷ b ∷ []) n (inl refl, (inr refl, tt)),
  elim [ inl e ↦ rw e (one_at (a ∷ b ∷ []) 0 (omega arith)) | inr e ↦ rw e (one_at (a ∷ b ∷ []) 1 (omega arith)) ],
)

module _ {A : Type 0} (test : ℕ → A → Bool) (default : A) where
  -- the element at a place passes
  abbrev pub passes : List A → ℕ → Bool
  passes all i = test i (get_or all i default)

  -- the lowest place at which one does
  pub record Lowest (all : List A) (i : ℕ) : Type 0 where
    pub inside : i < length all
    pub holds : T (passes all i)
    pub earlier : (j : ℕ) → j < i → T (not (passes all j))

  -- what an answer says of what is left of a list, from a place on
  abbrev Says : ℕ → List A → Option ℕ → Type 0
  Says place all None = (i : ℕ) → i < length all → T (not (test (place + i) (get_or all i default)))
  Says place all (Some found) =
      (i : ℕ) × (found ≡ place + i) × (i < length all) × T (test (place + i) (get_or all i default))
      × ((j : ℕ) → j < i → T (not (test (place + j) (get_or all j default))))

  says : (place : ℕ) (all : List A) → Says place all (lowest_from place test all)
  unfolding lowest_from
  says place [] = λ i l. absurd (omega arith)
  says place (a ∷ rest) = go (test place a) refl (lowest_from (suc place) test rest) (says (suc place) rest)
    where
      -- a place of the rest, counted from its head
      next : (i : ℕ) (P : ℕ → Type 0) → P (suc place + i) → P (place + suc i)
      next i P h = rw (add-suc, ← suc-add) h

      none_before : (n : ℕ) → test place a ≡ false → ((j : ℕ) → j < n → T (not (test (suc place + j) (get_or rest j default))))
          → (j : ℕ) → j < suc n → T (not (test (place + j) (get_or (a ∷ rest) j default)))
      none_before n e h zero l = rw (add-zero, e) tt
      none_before n e h (suc j) l = next j (λ p. T (not (test p (get_or rest j default)))) (h j (omega arith))

      go : (b : Bool) → test place a ≡ b → (o : Option ℕ) → Says (suc place) rest o → Says place (a ∷ rest) (elim b [ true ↦ Some place | false ↦ o ])
      go true e o h = (zero, omega arith, omega arith, rw (add-zero, e) tt, λ j l. absurd (omega arith))
      go false e None h = none_before (length rest) e h
      go false e (Some found) h =
          let i = h.0 in
          (suc i, h.1 ∙ next i (λ p. suc place + i ≡ p) refl, omega (arith, h.2), next i (λ p. T (test p (get_or rest i default))) h.3, none_before i e h.4)

  abbrev Found : List A → Option ℕ → Type 0
  Found all None = (i : ℕ) → i < length all → T (not (passes all i))
  Found all (Some i) = Lowest all i

  found : (all : List A) → Found all (lowest test all)
  found all = go (lowest_from 0 test all) (says 0 all)
    where
      go : (o : Option ℕ) → Says 0 all o → Found all o
      go None h = λ i l. rw zero-add at (h i l)
      go (Some i) h =
          rw (h.1, zero-add) (record { inside = h.2; holds = rw zero-add at h.3; earlier = λ j l. rw zero-add at (h.4 j l) })

  -- none where no element passes, and only there
  pub lowest_none : (all : List A) → (lowest test all ≡ None) ↔ ((i : ℕ) → i < length all → T (not (passes all i)))
  lowest_none all = (λ e. rw e at (found all), λ h. go h (lowest test all) (found all))
    where
      go : ((i : ℕ) → i < length all → T (not (passes all i))) → (o : Option ℕ) → Found all o → o ≡ None
      go h None f = refl
      go h (Some i) f = absurd (T_not (passes all i) (h i f.inside) f.holds)

  -- some place where it is the lowest, and only there
  pub lowest_some : (all : List A) (i : ℕ) → (lowest test all ≡ Some i) ↔ Lowest all i
  lowest_some all i = (λ e. rw e at (found all), λ h. go h (lowest test all) (found all))
    where
      go : Lowest all i → (o : Option ℕ) → Found all o → o ≡ Some i
      go h None f = absurd (T_not (passes all i) (f i h.inside) h.holds)
      go h (Some j) f =
          let not_before : ¬ (j < i) = λ l. T_not (passes all j) (h.earlier j l) f.holds in
          let not_after : ¬ (i < j) = λ l. T_not (passes all i) (f.earlier i l) h.holds in
          let same : j ≡ i = omega arith in
          ap Some same

-- where the test of a place says a property of it, so does the answer
module _ {A : Type 0} (test : ℕ → A → Bool) (P : ℕ → Type 0) (all : List A) (default : A) (says : (i : ℕ) → i < length all → T (test i (get_or all i default)) ↔ P i) where
  pub none_with : (lowest test all ≡ None) ↔ NoneWith P (length all)
  none_with = (
    λ e i inside h. T_not (passes test default all i) ((lowest_none test default all).0 e i inside) ((says i inside).1 h),
    λ h. (lowest_none test default all).1 λ i inside. not_T (passes test default all i) λ t. h i inside ((says i inside).0 t),
  )

  pub lowest_with : (i : ℕ) → (lowest test all ≡ Some i) ↔ LowestWith P (length all) i
  lowest_with i = (
    λ e.
        let h = (lowest_some test default all i).0 e in
        let inside : i < length all = h.inside in
        record {
          inside = inside;
          holds = (says i inside).0 h.holds;
          earlier = λ j less p. T_not (passes test default all j) (h.earlier j less) ((says j (omega arith)).1 p);
        },
    λ h.
        let inside : i < length all = h.inside in
        (lowest_some test default all i).1
        (record {
          inside = inside;
          holds = (says i inside).1 h.holds;
          earlier = λ j less. not_T (passes test default all j) λ t. h.earlier j less ((says j (omega arith)).0 t);
        }),
  )

-- where the test of a place says that it is not good
module _ {A : Type 0} (test : ℕ → A → Bool) (Good : ℕ → Type 0) (all : List A) (default : A) (says : (i : ℕ) → i < length all → T (not (test i (get_or all i default))) ↔ Good i) where
  pub none_bad : (lowest test all ≡ None) ↔ AllGood Good (length all)
  none_bad = Iff.trans (lowest_none test default all) (λ h i inside. (says i inside).0 (h i inside), λ h i inside. (says i inside).1 (h i inside))

  pub lowest_bad : (i : ℕ) → (lowest test all ≡ Some i) ↔ LowestBad Good (length all) i
  lowest_bad i = Iff.trans (lowest_some test default all i) (
    λ h.
        let inside : i < length all = h.inside in
        record {
          inside = inside;
          bad = λ good. T_not (passes test default all i) ((says i inside).1 good) h.holds;
          earlier = λ j less. (says j (omega arith)).0 (h.earlier j less);
        },
    λ h.
        let inside : i < length all = h.inside in
        record {
          inside = inside;
          holds = stable (passes test default all i) λ not. h.bad ((says i inside).0 (not_T (passes test default all i) not));
          earlier = λ j less. (says j (omega arith)).1 (h.earlier j less);
        },
  )
