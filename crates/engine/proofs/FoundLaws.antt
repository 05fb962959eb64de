-- What is found before the walk: each refusal in its order.
use Prim.Native.Nat.{ℕ}
use mathlib.Core.Path.{◌≡◌, refl, sym, ◌∙◌, ap}
use native.Mathlib.Omega.{arith}
use mathlib.Core.Bool.{Bool, true, false}
use Rattle.std.specs.Prelude.{Option, None, Some, Result, Ok, Err}
use Rattle.std.specs.Option.{option_map}
use Rattle.std.specs.Result.{MatchResult, IsErrAnd}
use Rattle.std.proofs.lemmas.Result.{err_from_is_err_and}
use mathlib.Core.List.{List, [], ◌∷◌, ◌++◌}
use lib.ListN.{length, get_or}
use Rattle.answers.specs.First.{first}
use Rattle.answers.specs.declared.Compiled.{Compiled}
use Rattle.answers.specs.declared.direct.Direct.{Direct}
use Rattle.answers.specs.declared.direct.Direct.TheVariants.{Limit, BadTerm, BadStore}
use Rattle.numbers.specs.Limits.{variables, named_cells}
use Rattle.stores.specs.Cells.{is_set, unset}
use Rattle.terms.specs.Rules.{used_rows, bad_term}
use Rattle.calls.specs.Compile.{entry, refusals}
use Rattle.calls.specs.Half.{known_refusals, known_emitted}
use Rattle.calls.specs.Run.{Lent}
use Rattle.calls.specs.Direct.{refused_as, refused_by, pattern_refusals, table_fits, store_refusals}
use Rattle.calls.proofs.CompileLaws.{first_before, first_behind}
use Rattle.calls.proofs.HalfLaws.{same_refusals}
use Rattle.calls.proofs.RunLaws.{stores_fit}
use Rattle.knowing.specs.Known.{known}
use Rattle.knowing.specs.Findings.{finding_of}
use Rattle.engine.specs.Found.{found_before, known_looks, direct_refusals}

module _ {A : Type 0} where
  first_only : (check : Option A) → first (check ∷ []) ≡ check
  unfolding first
  first_only None = refl
  first_only (Some answer) = refl

  -- checks with the same first refusal, and the same checks behind them
  first_same : (checks others more : List (Option A)) → first checks ≡ first others → first (checks ++ more) ≡ first (others ++ more)
  first_same checks others more e = go (first checks) refl
    where
      go : (o : Option A) → first checks ≡ o → first (checks ++ more) ≡ first (others ++ more)
      go (Some answer) q = first_before checks more answer q ∙ sym (first_before others more answer (sym e ∙ q))
      go None q = first_behind checks more q ∙ sym (first_behind others more (sym e ∙ q))

-- what is lent
abbrev pub lent : (kinds objects named certificates : List ℕ) (accumulator : ℕ) (terms : List ℕ) (counter : ℕ) → Lent
lent kinds objects named certificates accumulator terms counter =
    record { kinds = kinds; objects = objects; messages = named; certificates = certificates; accumulator = accumulator; terms = terms; counter = counter }

-- an answer whose refusal is said in other words
module _ {T D E : Type 0} (said : E → D) (mapped : Result T D) where
  abbrev pub Mapped : Result T E → Type 0
  Mapped answer = MatchResult answer (λ x. mapped ≡ Ok x) (λ e. IsErrAnd mapped (λ d. d ≡ said e))

  pub mapped_ok : (answer : Result T E) {x : T} → Mapped answer → mapped ≡ Ok x → answer ≡ Ok x
  mapped_ok (Ok y) cases e = cc
  mapped_ok (Err z) cases e = let q = (err_from_is_err_and mapped cases).1 in absurd (let z : ◌≡◌ {A = ℕ} 0 1 = cc in omega arith)

  pub mapped_err : (answer : Result T E) {y : D} → Mapped answer → mapped ≡ Err y → (e : E) × (answer ≡ Err e) × (y ≡ said e)
  mapped_err (Ok x) cases e = absurd (let z : ◌≡◌ {A = ℕ} 0 1 = cc in omega arith)
  mapped_err (Err z) cases e =
      let p = err_from_is_err_and mapped cases in
      let q = p.1 in
      let s = p.2 in
      (z, refl, cc)

-- what the way out of a `?` returns
pub raised : {T D : Type 0} {result : Result T D} {refusal : D} → IsErrAnd result (λ d. d ≡ refusal) → result ≡ Err refusal
raised {result = result} is = let p = err_from_is_err_and result is in let e = p.1 in let s = p.2 in rw e (rw s)

-- the pattern's refusals, from which cells are set
module _ (create : Bool) (pattern kinds : List ℕ) (objects named : ℕ → Bool) where
  pub pattern_refused : {answer : Compiled} → first (known_refusals create pattern kinds objects) ≡ Some answer
      → Err answer ≡ finding_of (first (known_looks create pattern kinds objects named))
  pattern_refused {answer} e = ap finding_of (sym (first_before (known_refusals create pattern kinds objects) _ answer e))

  pub pattern_surveyed : first (known_refusals create pattern kinds objects) ≡ None
      → finding_of (refused_by (known_emitted create pattern kinds (record { objects = objects; raws = named; next = 0 })))
      ≡ finding_of (first (known_looks create pattern kinds objects named))
  pattern_surveyed e = ap finding_of (sym (first_behind (known_refusals create pattern kinds objects) _ e ∙ first_only _))

-- 1, 2 and 3 of run
module _ (x : Lent) where
  abbrev finding : Result ℕ Direct
  finding = found_before (first (store_refusals x)) x.terms

  pub stores_limit : table_fits x ≡ false → Err Limit ≡ finding
  unfolding first
  stores_limit e = rw e

  module _ (fits : table_fits x ≡ true) where
    pub stores_term : {row : ℕ} → bad_term x.terms x.counter ≡ Some row → Err (BadTerm row) ≡ finding
    unfolding first
    stores_term e = rw (fits, e)

    module _ (rows : bad_term x.terms x.counter ≡ None) where
      pub stores_bad : stores_fit x ≡ false → Err BadStore ≡ finding
      unfolding first
      stores_bad e = rw (fits, rows, e)

      pub stores_accepted : {used : ℕ} → used ≡ used_rows x.terms → stores_fit x ≡ true → Ok used ≡ finding
      unfolding first
      stores_accepted counted e = rw (fits, rows, e, counted)

-- the pattern's refusals, then those of the stores
module _ (x : Lent) where
  by_refused : (o : Option Compiled) {answer : Compiled} {refusal : Direct} → o ≡ Some answer → refusal ≡ refused_as answer
      → Err refusal ≡ found_before (first (option_map refused_as o ∷ store_refusals x)) x.terms
  unfolding first
  by_refused o e q = rw (e, q)

  by_passed : (o : Option Compiled) {found : Result ℕ Direct} → o ≡ None → found ≡ found_before (first (store_refusals x)) x.terms
      → found ≡ found_before (first (option_map refused_as o ∷ store_refusals x)) x.terms
  unfolding first
  by_passed o e q = rw e q

-- both, over cells
module _ (create : Bool) (pattern : List ℕ) (x : Lent) (whole : (length x.objects ≡ variables) × (length x.messages ≡ named_cells)) (seen heard : ℕ)
    (objects-known : known seen ≡ (λ v. is_set (get_or x.objects v unset))) (named-known : known heard ≡ (λ v. is_set (get_or x.messages v unset))) where
  same_looks : first (known_looks create pattern x.kinds (known seen) (known heard)) ≡ first (pattern_refusals create pattern x)
  same_looks =
      rw (objects-known, named-known)
      (sym (first_same (refusals create pattern x.kinds x.objects x.messages) (known_refusals create pattern x.kinds (entry x.objects x.messages).objects) _
      (same_refusals create pattern x.kinds x.objects x.messages whole.0 whole.1)))

  pub looked_refused : {answer : Compiled} {refusal : Direct} → first (known_looks create pattern x.kinds (known seen) (known heard)) ≡ Some answer → refusal ≡ refused_as answer
      → Err refusal ≡ found_before (first (direct_refusals create pattern x)) x.terms
  looked_refused e q = by_refused x (first (pattern_refusals create pattern x)) (sym same_looks ∙ e) q

  pub looked_stores : {found : Result ℕ Direct} → first (known_looks create pattern x.kinds (known seen) (known heard)) ≡ None → found ≡ found_before (first (store_refusals x)) x.terms
      → found ≡ found_before (first (direct_refusals create pattern x)) x.terms
  looked_stores e q = by_passed x (first (pattern_refusals create pattern x)) (sym same_looks ∙ e) q
