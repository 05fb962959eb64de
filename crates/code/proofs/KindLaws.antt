-- Kinds of object variables: what a look at a variable's kind tells.
use Prim.Native.Nat.{ℕ, ◌+◌, min, ◌<◌, ◌≤◌}
use mathlib.Core.Bool.{Bool, true, false, ◌&&◌, ◌||◌, or-false}
use mathlib.Core.Path.{◌≡◌, refl, sym, ◌∙◌, ap}
use mathlib.Core.List.{List, [], ◌∷◌}
use native.Mathlib.Decide.{dec_lt}
use native.Mathlib.Omega.{arith}
use borrow.Author.Tests.{lt-ltb, le-ltb, le-leb, lt-leb, eq-eqb}
use lib.Dec.{T, eqb, leb, ltb, leb-suc-suc}
use lib.ListN.{length, get_or, take, length-take, get_or-eq_default}
use lib.Seq.{get_or-take}
use Rattle.word.specs.Lowest.{one_of}
use Rattle.word.proofs.TestLaws.{both, is_below, at_most}
use Rattle.word.proofs.OneOfLaws.{from, one_here, one_later, one_last, one_outside, one_up_to}
use Rattle.code.specs.Words.{has_kind, cells_fit, operands_fit}
use Rattle.code.specs.declared.Instruction.{Instruction}
use Rattle.numbers.specs.declared.Object.{Object}
use Rattle.numbers.specs.declared.Raw.{Raw}

-- a number past the variables, or past the slice, has no kind
pub kind_none : (kinds : List ℕ) (v : ℕ) → min 64 (length kinds) ≤ v → 0 ≡ get_or (take 64 kinds) v 0
kind_none kinds v past = sym (get_or-eq_default (take 64 kinds) 0 (rw length-take past))

-- so the test looks for the kind alone, where 0 is not looked for
among_is : (kinds : List ℕ) (v : Object) (among : List ℕ) (kind : ℕ) → kind ≡ get_or (take 64 kinds) v.0 0 → one_of among 0 ≡ false
    → one_of among kind ≡ has_kind (λ n. get_or kinds n 0) v among
among_is kinds v among kind is zero-out = rw is (go (dec_lt v.0 64))
  where
    go : Dec (v.0 < 64) → one_of among (get_or (take 64 kinds) v.0 0) ≡ has_kind (λ n. get_or kinds n 0) v among
    go (yes within) = rw (lt-ltb v.0 64 within, get_or-take)
    go (no past) =
        let far : 64 ≤ v.0 = omega arith in
        rw (le-ltb v.0 64 far, ← kind_none kinds v.0 (omega arith)) zero-out

-- a list of kinds that leaves 0 out
out : (n : ℕ) (rest : List ℕ) → 0 < n → one_of rest 0 ≡ false → one_of (n ∷ rest) 0 ≡ false
out n rest some others = one_later n rest 0 (λ is. omega arith) ∙ others

module _ (kinds : List ℕ) (v : Object) (kind : ℕ) (is : kind ≡ get_or (take 64 kinds) v.0 0) where
  pub has_one : (n : ℕ) → 0 < n → eqb kind n ≡ has_kind (λ k. get_or kinds k 0) v (n ∷ [])
  unfolding one_of
  has_one n some = one_last n kind ∙ among_is kinds v (n ∷ []) kind is (out n [] some refl)

  pub has_first : (first second : ℕ) → 0 < first → 0 < second → kind ≡ first → eqb kind first ≡ has_kind (λ k. get_or kinds k 0) v (first ∷ second ∷ [])
  unfolding one_of
  has_first first second some other same =
      eq-eqb kind first same ∙ sym (one_here first (second ∷ []) kind same)
      ∙ among_is kinds v (first ∷ second ∷ []) kind is (out first (second ∷ []) some (out second [] other refl))

  pub has_second : (first second : ℕ) → 0 < first → 0 < second → (kind ≡ first → ⊥)
      → eqb kind second ≡ has_kind (λ k. get_or kinds k 0) v (first ∷ second ∷ [])
  unfolding one_of
  has_second first second some other differs =
      one_last second kind ∙ sym (one_later first (second ∷ []) kind differs)
      ∙ among_is kinds v (first ∷ second ∷ []) kind is (out first (second ∷ []) some (out second [] other refl))

  pub has_any : 1 ≤ kind → leb kind 10 ≡ has_kind (λ k. get_or kinds k 0) v (from 1 10)
  unfolding one_of
  has_any some = sym (leb-suc-suc kind 10) ∙ one_up_to 1 10 kind some ∙ among_is kinds v (from 1 10) kind is refl

  pub has_none : kind < 1 → leb 1 kind ≡ has_kind (λ k. get_or kinds k 0) v (from 1 10)
  unfolding one_of
  has_none less =
      lt-leb 1 kind less ∙ sym (one_outside 1 10 kind (λ k least most same. omega arith)) ∙ among_is kinds v (from 1 10) kind is refl

-- a list of kinds in two parts
pub split_kinds : (within : Bool) (n : ℕ) (rest : List ℕ) (kind : ℕ)
    → within && one_of (n ∷ rest) kind ≡ (within && one_of (n ∷ []) kind) || (within && one_of rest kind)
unfolding one_of
split_kinds true n rest kind = rw or-false
split_kinds false n rest kind = refl

-- the cells of a tuple
pub cells_some : (first : Raw) (n : ℕ) → n ≤ 4 → leb (first.0 + n) 256 ≡ cells_fit first n
cells_some first n few = rw (le-leb n 4 few)

pub cells_many : (first : Raw) (n : ℕ) → 4 < n → leb n 4 ≡ cells_fit first n
cells_many first n many = rw (lt-leb n 4 many)

-- what the tests say of operands
pub object_below : (kind : ℕ → ℕ) (v : Object) (kinds : List ℕ) → T (has_kind kind v kinds) → v.0 < 64
object_below kind v kinds has = (is_below v.0 64).0 ((both (ltb v.0 64) (one_of kinds (kind v.0))).0 has).0

pub cells_below : (first : Raw) (n : ℕ) → T (cells_fit first n) → (n ≤ 4) × (first.0 + n ≤ 256)
cells_below first n fit =
    let tests = (both (leb n 4) (leb (first.0 + n) 256)).0 fit in
    ((at_most n 4).0 tests.0, (at_most (first.0 + n) 256).0 tests.1)

-- a test of an instruction that is known
pub fits_as : (kind : ℕ → ℕ) (instruction same : Instruction) (answer : Bool) → instruction ≡ same
    → answer ≡ operands_fit kind same → answer ≡ operands_fit kind instruction
fits_as kind instruction same answer is fits = fits ∙ sym (ap (operands_fit kind) is)
