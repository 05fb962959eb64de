-- What passes every check is ready for the steps.
use Prim.Native.Nat.{ℕ, ◌<◌}
use mathlib.Core.Path.{◌≡◌}
use mathlib.Core.Logic.{⊎_elim}
use mathlib.Core.List.{List}
use native.Mathlib.Omega.{arith}
use Rattle.terms.specs.Rules.{used_rows}
use Rattle.terms.proofs.TableLaws.{used_rows_lem}
use Rattle.calls.specs.Run.{Lent}
use Rattle.calls.proofs.RunLaws.{Passed, passed_valid, run_within}
use Rattle.execution.specs.Steps.{Ready}

module _ {x : Lent} {code : List ℕ} (p : Passed x code) where
  -- unset, or a used row
  pub accumulator_small : x.accumulator < 65536
  accumulator_small =
      let v = passed_valid p in
      ⊎_elim (λ e. omega (arith, e)) (λ l. omega (arith, l, (used_rows_lem x.terms).inside, v.within.terms)) v.stores.held

  pub ready : {used : ℕ} → used ≡ used_rows x.terms → Ready x used code
  ready counted = record { valid = passed_valid p; counted = counted; good_words = p.words; few_words = omega (arith, ((run_within x code).0 p.lengths).1) }
