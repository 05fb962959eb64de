-- The conditions and the tests say the same.
use Prim.Native.Nat.{ℕ, zero, suc, ◌<◌, ◌≤◌}
use mathlib.Core.Path.{◌≡◌, refl, sym, ◌∙◌}
use mathlib.Core.Logic.{◌↔◌, ◌≢◌, inl, inr}
use mathlib.Core.Bool.{Bool, true, false, not, ◌&&◌, ◌||◌}
use mathlib.Core.List.{List, [], ◌∷◌}
use native.Mathlib.Omega.{arith}
use lib.Dec.{T, eqb, leb}
use lib.ListN.{length, get_or}
use Rattle.word.specs.Lowest.{each}
use Rattle.word.proofs.All.{all_at}
use Rattle.word.proofs.TestLaws.{stable, equals, at_most}
use Rattle.stores.specs.Cells.{unset}
use Rattle.stores.specs.Valid.{kinds_fit, each_variable, undeclared_unset, declared}
use Rattle.stores.proofs.ValidLaws.{declared_stores}
use Rattle.numbers.specs.Kinds.{kind_in}
use Rattle.numbers.specs.Limits.{variables}
use Rattle.promises.specs.Conditions.{cell, BadVariable}

-- 3, in compile
-- a list that fails has an element that fails
find_bad : {A : Type 0} (test : A → Bool) (all : List A) (default : A) → (T (each test all) → ⊥) → (i : ℕ) × (i < length all) × (T (test (get_or all i default)) → ⊥)
unfolding each
find_bad test [] default no_more = absurd (no_more tt)
find_bad test (a ∷ rest) default no_more = go (test a) refl no_more (find_bad test rest default)
  where
    go : (b : Bool) → test a ≡ b → (T (elim b [ true ↦ each test rest | false ↦ false ]) → ⊥)
        → ((T (each test rest) → ⊥) → (i : ℕ) × (i < length rest) × (T (test (get_or rest i default)) → ⊥))
        → (i : ℕ) × (i < length (a ∷ rest)) × (T (test (get_or (a ∷ rest) i default)) → ⊥)
    go false e h find = (zero, omega arith, rw e λ n. n)
    go true e h find = let (i, l, n) = find h in (suc i, omega arith, n)

find_variable : (test : ℕ → ℕ → Bool) (kinds cells : List ℕ) → length kinds ≡ length cells → (T (each_variable test kinds cells) → ⊥)
    → (v : ℕ) × (v < length cells) × (T (test (get_or kinds v 0) (get_or cells v unset)) → ⊥)
unfolding each_variable
find_variable test [] cells l h = absurd (h tt)
find_variable test (k ∷ ks) [] l h = absurd (omega arith)
find_variable test (k ∷ ks) (c ∷ cs) l h = go (test k c) refl h (find_variable test ks cs (omega arith))
  where
    go : (b : Bool) → test k c ≡ b → (T (b && each_variable test ks cs) → ⊥)
        → ((T (each_variable test ks cs) → ⊥) → (v : ℕ) × (v < length cs) × (T (test (get_or ks v 0) (get_or cs v unset)) → ⊥))
        → (v : ℕ) × (v < length (c ∷ cs)) × (T (test (get_or (k ∷ ks) v 0) (get_or (c ∷ cs) v unset)) → ⊥)
    go false e h find = (zero, omega arith, rw e λ n. n)
    go true e h find = let (v, i, n) = find h in (suc v, omega arith, n)

set_undeclared : (kind c : ℕ) → (T (undeclared_unset kind c) → ⊥) → (kind ≡ 0) × (c ≢ unset)
set_undeclared kind c h = go (eqb kind 0) (eqb c unset) (equals kind 0) (equals c unset) h
  where
    go : (a b : Bool) → T a ↔ (kind ≡ 0) → T b ↔ (c ≡ unset) → (T (not a || not (not b)) → ⊥) → (kind ≡ 0) × (c ≢ unset)
    go true false e f h = (e.0 tt, f.1)
    go true true e f h = absurd (h tt)
    go false b e f h = absurd (h tt)

pub bad_variable : (kinds objects : List ℕ) → length kinds ≡ variables → length objects ≡ variables → (T (declared kinds objects) → ⊥) ↔ BadVariable kinds objects
unfolding declared kinds_fit
bad_variable kinds objects k o = (find (kinds_fit kinds) refl, refute)
  where
    find : (b : Bool) → kinds_fit kinds ≡ b → (T (b && each_variable undeclared_unset kinds objects) → ⊥) → BadVariable kinds objects
    find false e h =
        let (v, l, n) = find_bad (λ kind. leb kind 10) kinds 0 (rw e λ n. n) in
        let over : ¬ (kind_in kinds v ≤ 10) = λ g. n ((at_most (kind_in kinds v) 10).1 g) in
        record { variable = v; inside = omega (arith, k); bad = inl (omega arith) }
    find true e h =
        let (v, l, n) = find_variable undeclared_unset kinds objects (k ∙ sym o) h in
        record { variable = v; inside = omega (arith, o); bad = inr (set_undeclared (kind_in kinds v) (cell objects v) n) }

    refute : BadVariable kinds objects → T (declared kinds objects) → ⊥
    refute b h =
        let d = (declared_stores kinds objects).0 h in
        elim b.bad [
          | inl over ↦ let low = all_at (λ kind. kind ≤ 10) kinds 0 d.known b.variable (omega (arith, k, b.inside)) in omega arith
          | inr set ↦ set.1 (d.undeclared b.variable (omega (arith, k, b.inside)) (omega (arith, o, b.inside)) set.0)
        ]

pub no_bad_variable : (kinds objects : List ℕ) → length kinds ≡ variables → length objects ≡ variables → T (declared kinds objects) ↔ (BadVariable kinds objects → ⊥)
no_bad_variable kinds objects k o =
    let bad = bad_variable kinds objects k o in
    (λ t b. bad.1 b t, λ n. stable (declared kinds objects) λ m. n (bad.0 m))
